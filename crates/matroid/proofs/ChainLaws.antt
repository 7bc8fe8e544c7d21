-- Chains of edges are the outline of points in the plane: each is a `Chain`, and together they go along every side and through every corner once. Ahead is along a direction d that orders
-- the points as `Before` does; edges: Wrapping.
--
--   Wrapped s p c      from p the edges of the side s go along c, to a point with none ahead
--   wrapped-chain      so p and c are a chain, where p is the first of all
--   chain-only         and no other list of sides is such a chain
--   wrapped_sides      the neighbours of the two chains from p are the sides, each once
--   wrapped_corners    and the points of the first but its last, with those of the second but its first, are the corners, each once
--   wrapped-three      there are three at least
--   pairs_many, front_many, back_many    a chain has one pair of neighbours less than points, and so without its last or its first
use mathlib.Core.Path.{◌≡◌, refl, sym, ◌∙◌, ap, subst}
use mathlib.Core.Logic.{◌⊎◌, inl, inr, ⊎_elim, ◌↔◌}
use mathlib.Core.Bool.{Bool, cond}
use mathlib.Core.HLevel.{dec→stable}
use mathlib.Core.List.Memᴰ
use mathlib.Core.List.{List, [], ◌∷◌, ◌++◌, drop_last, tail, Memᴰ}
use Prim.Native.Nat.{ℕ, ◌+◌, ◌-◌, ◌≤◌, ◌<◌}
use native.Mathlib.Omega.{arith}
use native.Mathlib.Decide.{ℕ_discrete, dec_lt}
use borrow.Author.Tests.{lt-ltb, le-ltb}
use lib.ListN.{length, get_or, length-append}
use lib.IntN.{ℤ, pos, neg_ℤ, ◌+ℤ◌, ◌-ℤ◌, ◌*ℤ◌, +ℤ_comm, ℤ_discrete}
use Rattle.algebra.specs.Sets.{Exactly}
use Rattle.algebra.specs.Sign.{Sign, value, Pos, NN, NZ, Tri, below, at-nought, above}
use Rattle.algebra.specs.Sign.{Side as Sided}
use Rattle.algebra.proofs.IntLaws.{*ℤ-neg-l}
use Rattle.algebra.proofs.ListLaws.{two_parts, Apart, Other, apart-append, exactly_apart}
use Rattle.algebra.proofs.SignLaws.{value_nz, valued_pos, valued_nn, tri, pos_cast, nn_cast, nn-add, pos_nn, pos_nn_add, pos-add, pos-zero, pos_of_nn, zero_if, dec_pos, dec_nz, np_of, nn-zero, zero_of_mul, neg-zero}
use Rattle.matroid.specs.Borders.{Side, SidePair}
use Rattle.matroid.specs.Chains.{Before, Leftmost, Rightmost, Neighbours, Chain, Corner, in_order, pairs_of}
use Rattle.matroid.specs.Points.{Point, Points, Distinct, Collinear}
use Rattle.matroid.proofs.Lines.{line_through, collinear_iff}
use Rattle.matroid.proofs.Planar.{points_differ}
use Rattle.matroid.proofs.Search.{some_below, dec-not}
use Rattle.matroid.proofs.SideLaws.{side_turned}
use Rattle.matroid.proofs.Sides.{turn_at}
use Rattle.matroid.proofs.Wrapping.{ahead, ahead_self, ahead_back, ahead-add, swung, Edge, edge-turn, edge_one, edge_across, edge-side, side-edge, not_both, not_through}

-- ---- neighbours in a list

in_order_lem : (i j : ℕ) → i < j → in_order i j ≡ i ∷ j ∷ []
in_order_lem i j h = ap (λ (b : Bool). cond b (i ∷ j ∷ []) (j ∷ i ∷ [])) (lt-ltb i j h)

out_of_order : (i j : ℕ) → j ≤ i → in_order i j ≡ j ∷ i ∷ []
out_of_order i j h = ap (λ (b : Bool). cond b (i ∷ j ∷ []) (j ∷ i ∷ [])) (le-ltb i j h)

-- one of the two orders
ordered : (i j : ℕ) → (in_order i j ≡ i ∷ j ∷ []) ⊎ (in_order i j ≡ j ∷ i ∷ [])
ordered i j = go (dec_lt i j)
  where
    go : Dec (i < j) → (in_order i j ≡ i ∷ j ∷ []) ⊎ (in_order i j ≡ j ∷ i ∷ [])
    go (yes h) = inl (in_order_lem i j h)
    go (no h) = inr (out_of_order i j (omega (arith, h)))

-- two pairs that are one
same_pair : (i j k l : ℕ) → in_order i j ≡ in_order k l → ((i ≡ k) × (j ≡ l)) ⊎ ((i ≡ l) × (j ≡ k))
same_pair i j k l e = go (ordered i j) (ordered k l)
  where
    go : (in_order i j ≡ i ∷ j ∷ []) ⊎ (in_order i j ≡ j ∷ i ∷ []) → (in_order k l ≡ k ∷ l ∷ []) ⊎ (in_order k l ≡ l ∷ k ∷ []) → ((i ≡ k) × (j ≡ l)) ⊎ ((i ≡ l) × (j ≡ k))
    go (inl p) (inl q) = inl (two_parts (sym p ∙ e ∙ q))
    go (inl p) (inr q) = inr (two_parts (sym p ∙ e ∙ q))
    go (inr p) (inl q) = let (a, b) = two_parts (sym p ∙ e ∙ q) in inr (b, a)
    go (inr p) (inr q) = let (a, b) = two_parts (sym p ∙ e ∙ q) in inl (b, a)

pairs_tail : (x : ℕ) (c : List ℕ) {e : List ℕ} → Memᴰ e (pairs_of c) → Memᴰ e (pairs_of (x ∷ c))
pairs_tail x [] m = absurd (Memᴰ.not-nil m)
pairs_tail x (y ∷ c) m = Memᴰ.tail m

pairs_in : (front back : List ℕ) (i j : ℕ) → Memᴰ (in_order i j) (pairs_of (front ++ i ∷ j ∷ back))
pairs_in [] back i j = Memᴰ.head refl
pairs_in (x ∷ front) back i j = pairs_tail x (front ++ i ∷ j ∷ back) (pairs_in front back i j)

neighbours_in : (t : List ℕ) (i j : ℕ) → Neighbours t i j → Memᴰ i t × Memᴰ j t
neighbours_in t i j (front, back, is) =
    subst (λ (x : List ℕ). Memᴰ i x × Memᴰ j x) (sym is) (Memᴰ.append_right front (Memᴰ.head refl), Memᴰ.append_right front (Memᴰ.tail (Memᴰ.head refl)))

pub pairs_many : (c : List ℕ) → length (pairs_of c) ≡ length c - 1
pairs_many [] = refl
pairs_many (p ∷ []) = refl
pairs_many (p ∷ q ∷ c) = omega (arith, pairs_many (q ∷ c))

pub front_many : (c : List ℕ) → length (drop_last c) ≡ length c - 1
front_many [] = refl
front_many (p ∷ []) = refl
front_many (p ∷ q ∷ c) = omega (arith, front_many (q ∷ c))

pub back_many : (c : List ℕ) → length (tail c) ≡ length c - 1
back_many [] = refl
back_many (p ∷ c) = omega arith

module _ (n : ℕ) (P : Points) (d : Point) (apart : (i j : ℕ) → i < n → j < n → ahead P d i j ≡ pos 0 → i ≡ j) where
  abbrev Ahead : ℕ → ℕ → Type 0
  Ahead i j = Pos (ahead P d i j)

  -- p is the first of all, j the last
  abbrev pub FirstOf : ℕ → Type 0
  FirstOf p = (p < n) × ((k : ℕ) → k < n → (k ≡ p → ⊥) → Ahead p k)

  abbrev LastOf : ℕ → Type 0
  LastOf j = (k : ℕ) → k < n → Ahead j k → ⊥

  behind : (i j : ℕ) → i < n → j < n → (Ahead j i → ⊥) → (i ≡ j → ⊥) → Ahead i j
  behind i j il jl h ne = pos_of_nn (ahead P d i j) (nn_cast (ahead_back P d j i) (np_of (ahead P d j i) h)) (λ z. ne (apart i j il jl z))

  ahead_differ : (i j : ℕ) → Ahead i j → i ≡ j → ⊥
  ahead_differ i j h e = pos-zero h (ap (ahead P d i) (sym e) ∙ ahead_self P d i)

  distinct : Distinct n P
  distinct i j h jn e = let z = apart i j (omega arith) jn (ap (λ (r : Point). d.x *ℤ (r.x -ℤ (P i).x) +ℤ d.y *ℤ (r.y -ℤ (P i).y)) (sym e) ∙ ahead_self P d i) in omega arith

  -- two different points have another one off their line
  off_line : (Collinear n P → ⊥) → (i j : ℕ) → i < n → j < n → Ahead i j → (k : ℕ) × (k < n) × NZ (turn_at P i j k)
  off_line bent i j il jl h = go (some_below n (λ k. NZ (turn_at P i j k)) (λ k. dec_nz (turn_at P i j k)))
    where
      go : Dec ((k : ℕ) × (k < n) × NZ (turn_at P i j k)) → (k : ℕ) × (k < n) × NZ (turn_at P i j k)
      go (yes some) = some
      go (no none) = absurd (bent (line_through n P (P i) (P j) (λ e. points_differ distinct j i jl il (λ z. ahead_differ i j h (sym z)) e) (λ k kn. zero_if (turn_at P i j k) (λ nz. none (k, kn, nz)))))

  -- ---- one side

  module _ (s : ℤ) where
    abbrev pub Wrapped : ℕ → List ℕ → Type 0
    Wrapped p [] = LastOf p
    Wrapped p (q ∷ c) = Edge P d s n p q × Wrapped q c

    abbrev All : List ℕ → Type 0
    All [] = Unit {0}
    All (p ∷ c) = Wrapped p c

    all_tail : (x : ℕ) (c : List ℕ) → All (x ∷ c) → All c
    all_tail x [] w = tt
    all_tail x (y ∷ c) w = w.1

    linked : (front back : List ℕ) (i j : ℕ) → All (front ++ i ∷ j ∷ back) → Edge P d s n i j
    linked [] back i j w = w.0
    linked (x ∷ front) back i j w = linked front back i j (all_tail x (front ++ i ∷ j ∷ back) w)

    linked_two : (front back : List ℕ) (i j k : ℕ) → All (front ++ i ∷ j ∷ k ∷ back) → Edge P d s n i j × Edge P d s n j k
    linked_two [] back i j k w = (w.0, w.1.0)
    linked_two (x ∷ front) back i j k w = linked_two front back i j k (all_tail x (front ++ i ∷ j ∷ k ∷ back) w)

    last_of : (p : ℕ) → p < n → (c : List ℕ) → Wrapped p c → (j : ℕ) × (front : List ℕ) × (p ∷ c ≡ front ++ j ∷ []) × (j < n) × LastOf j
    last_of p pn [] w = (p, [], refl, pn, w)
    last_of p pn (q ∷ c) (e, w) = let (j, front, is, jn, l) = last_of q e.to c w in (j, p ∷ front, ap (λ (t : List ℕ). p ∷ t) is, jn, l)

    -- what stands behind p is ahead of it
    later : (p : ℕ) (c : List ℕ) → Wrapped p c → (x : ℕ) → Memᴰ x c → Ahead p x
    later p [] w x m = absurd (Memᴰ.not-nil m)
    later p (q ∷ c) (e, w) x m = ⊎_elim (λ z. pos_cast (ap (ahead P d p) (sym z)) e.onward) (λ k. pos_cast (ahead-add P d p q x) (pos-add e.onward (later q c w x k))) (Memᴰ.cases_cons m)

    wrapped_apart : (p : ℕ) (c : List ℕ) → Wrapped p c → Apart Other (p ∷ c)
    wrapped_apart p [] w = (λ y m. absurd (Memᴰ.not-nil m), tt)
    wrapped_apart p (q ∷ c) w = (λ y m. ahead_differ p y (later p (q ∷ c) w y m), wrapped_apart q c w.1)

    wrapped_low : (p : ℕ) → p < n → (c : List ℕ) → Wrapped p c → (x : ℕ) → Memᴰ x (p ∷ c) → x < n
    wrapped_low p pn [] w x m = ⊎_elim (λ z. subst (λ (k : ℕ). k < n) (sym z) pn) (λ k. absurd (Memᴰ.not-nil k)) (Memᴰ.cases_cons m)
    wrapped_low p pn (q ∷ c) (e, w) x m = ⊎_elim (λ z. subst (λ (k : ℕ). k < n) (sym z) pn) (wrapped_low q e.to c w x) (Memᴰ.cases_cons m)

    wrapped_one : (p : ℕ) (c c' : List ℕ) → Wrapped p c → Wrapped p c' → c ≡ c'
    wrapped_one p [] [] w w' = refl
    wrapped_one p [] (q ∷ c) w (e, _) = absurd (w q e.to e.onward)
    wrapped_one p (q ∷ c) [] (e, _) w' = absurd (w' q e.to e.onward)
    wrapped_one p (q ∷ c) (r ∷ c') (e, w) (e', w') =
        let z = edge_one P d s n apart p q r e e' in
        (λ k. z k ∷ wrapped_one q c c' w (subst (λ (x : ℕ). Wrapped x c') (sym z) w') k)

    found : (p : ℕ) (c : List ℕ) → Wrapped p c → (i j : ℕ) → Edge P d s n i j → NN (ahead P d p i) → Neighbours (p ∷ c) i j
    found p [] w i j e h = absurd (w j e.to (pos_cast (+ℤ_comm (ahead P d i j) (ahead P d p i) ∙ ahead-add P d p i j) (pos_nn_add e.onward h)))
    found p (q ∷ c) (f, w) i j e h = go (found q c w i j e) (ℤ_discrete (ahead P d p i) (pos 0)) (dec_pos (ahead P d i q))
      where
        go : (NN (ahead P d q i) → Neighbours (q ∷ c) i j) → Dec (ahead P d p i ≡ pos 0) → Dec (Ahead i q) → Neighbours (p ∷ q ∷ c) i j
        go on (yes z) _ =
            let at = apart p i f.from e.from z in
            let to = edge_one P d s n apart i q j (subst (λ (x : ℕ). Edge P d s n x q) at f) e in
            ([], c, λ k. at k ∷ to k ∷ c)
        go on (no nz) (yes l) = absurd (edge_across P d s n i j p q e f (pos_of_nn (ahead P d p i) h nz) l)
        go on (no nz) (no l) =
            let (front, back, is) = on (nn_cast (ahead_back P d i q) (np_of (ahead P d i q) l)) in
            (p ∷ front, back, ap (λ (t : List ℕ). p ∷ t) is)

    -- ---- the pairs of neighbours

    pairs_out : (p : ℕ) (c : List ℕ) → Wrapped p c → {e : List ℕ} → Memᴰ e (pairs_of (p ∷ c)) → (i : ℕ) × (j : ℕ) × (e ≡ in_order i j) × Edge P d s n i j × NN (ahead P d p i)
    pairs_out p [] w m = absurd (Memᴰ.not-nil m)
    pairs_out p (q ∷ c) (f, w) m = ⊎_elim
        (λ z. (p, q, z, f, nn-zero (ahead_self P d p)))
        (λ k. let (i, j, is, e, h) = pairs_out q c w k in (i, j, is, e, nn_cast (ahead-add P d p q i) (nn-add (pos_nn f.onward) h)))
        (Memᴰ.cases_cons m)

    pairs_apart : (p : ℕ) (c : List ℕ) → Wrapped p c → Apart Other (pairs_of (p ∷ c))
    pairs_apart p [] w = tt
    pairs_apart p (q ∷ c) (f, w) = (
      λ y m z. let (i, j, is, e, h) = pairs_out q c w m in
          let from = pos_cast (ahead-add P d p q i) (pos_nn_add f.onward h) in
          ⊎_elim (λ (a, _). ahead_differ p i from a) (λ (a, _). ahead_differ p j (pos_cast (ahead-add P d p i j) (pos-add from e.onward)) a) (same_pair p q i j (z ∙ is)),
      pairs_apart q c w,
    )

    -- ---- the points but the last, and but the first

    front_out : (p : ℕ) (c : List ℕ) → Wrapped p c → (x : ℕ) → Memᴰ x (drop_last (p ∷ c)) → (j : ℕ) × Edge P d s n x j
    front_out p [] w x m = absurd (Memᴰ.not-nil m)
    front_out p (q ∷ c) (f, w) x m = ⊎_elim (λ z. (q, subst (λ (y : ℕ). Edge P d s n y q) (sym z) f)) (λ k. front_out q c w x k) (Memᴰ.cases_cons m)

    back_out : (p : ℕ) (c : List ℕ) → Wrapped p c → (x : ℕ) → Memᴰ x c → (o : ℕ) × Edge P d s n o x
    back_out p [] w x m = absurd (Memᴰ.not-nil m)
    back_out p (q ∷ c) (f, w) x m = ⊎_elim (λ z. (p, subst (Edge P d s n p) (sym z) f)) (λ k. back_out q c w x k) (Memᴰ.cases_cons m)

    front_apart : (p : ℕ) (c : List ℕ) → Wrapped p c → Apart Other (drop_last (p ∷ c))
    front_apart p [] w = tt
    front_apart p (q ∷ c) (f, w) = (λ y m. ahead_differ p y (later p (q ∷ c) (f, w) y (front_in q c m)), front_apart q c w)
      where
        front_in : (q : ℕ) (c : List ℕ) {y : ℕ} → Memᴰ y (drop_last (q ∷ c)) → Memᴰ y (q ∷ c)
        front_in q [] m = absurd (Memᴰ.not-nil m)
        front_in q (r ∷ c) m = ⊎_elim (λ z. Memᴰ.head z) (λ k. Memᴰ.tail (front_in r c k)) (Memᴰ.cases_cons m)

    -- a point of the chain is not its last, or it is the last of all
    front_or_last : (p : ℕ) (c : List ℕ) → Wrapped p c → (x : ℕ) → Memᴰ x (p ∷ c) → Memᴰ x (drop_last (p ∷ c)) ⊎ LastOf x
    front_or_last p [] w x m = inr (⊎_elim (λ z. subst LastOf (sym z) w) (λ k. absurd (Memᴰ.not-nil k)) (Memᴰ.cases_cons m))
    front_or_last p (q ∷ c) (f, w) x m = ⊎_elim (λ z. inl (Memᴰ.head z)) (λ k. ⊎_elim (λ l. inl (Memᴰ.tail l)) inr (front_or_last q c w x k)) (Memᴰ.cases_cons m)

    -- the last of all stands in the chain, behind p where it is another point
    last_in : (p : ℕ) → p < n → (c : List ℕ) → Wrapped p c → (x : ℕ) → x < n → LastOf x → (x ≡ p → ⊥) → Memᴰ x c
    last_in p pn [] w x xn l ne = absurd (w x xn (behind p x pn xn (l p pn) (λ e. ne (sym e))))
    last_in p pn (q ∷ c) (f, w) x xn l ne = go (last_in q f.to c w x xn l) (ℕ_discrete x q)
      where
        go : ((x ≡ q → ⊥) → Memᴰ x c) → Dec (x ≡ q) → Memᴰ x (q ∷ c)
        go on (yes e) = Memᴰ.head e
        go on (no o) = Memᴰ.tail (on o)

  -- ---- the published chain

  module _ (order : (i j : ℕ) → i < n → j < n → Before P i j ↔ Ahead i j) where
    first_leftmost : (p : ℕ) → FirstOf p → Leftmost n P p
    first_leftmost p (pn, h) = (pn, λ k kn ne. (order p k pn kn).1 (h k kn ne))

    pub wrapped-chain : (σ : Sign) → Sided σ → (p : ℕ) → FirstOf p → (c : List ℕ) → Wrapped (value σ) p c → Chain n P σ (p ∷ c)
    wrapped-chain σ q p first c w = record {
      low = wrapped_low (value σ) p first.0 c w;
      begins = (p, c, refl, first_leftmost p first);
      ends = let (j, front, is, jn, l) = last_of (value σ) p first.0 c w in (j, front, is, (jn, λ k kn ne. (order k j kn jn).1 (behind k j kn jn (l k kn) ne)));
      onward = λ i j h. let e = edge i j h in (order i j e.from e.to).1 e.onward;
      strict = λ i j k (front, back, is). let (e, f) = linked_two (value σ) front back i j k (subst (All (value σ)) is w) in
          (valued_pos σ q (turn_at P i j k)).0 (edge-turn P d (value σ) n i j k e f.to f.onward);
      inside = λ i j h k kn. (valued_nn σ q (turn_at P i j k)).0 ((edge i j h).inner k kn);
    }
      where
        edge : (i j : ℕ) → Neighbours (p ∷ c) i j → Edge P d (value σ) n i j
        edge i j (front, back, is) = linked (value σ) front back i j (subst (All (value σ)) is w)

    -- ---- the words of a chain determine it

    module _ (bent : Collinear n P → ⊥) (σ : Sign) (q : Sided σ) where
      edge_of : (c : List ℕ) → Chain n P σ c → (i j : ℕ) → Neighbours c i j → Side n P i j → Edge P d (value σ) n i j
      edge_of c h i j m side = go (off_line bent i j low.0 low.1 on)
        where
          low : (i < n) × (j < n)
          low = let (a, b) = neighbours_in c i j m in (h.low i a, h.low j b)

          on : Ahead i j
          on = (order i j low.0 low.1).0 (h.onward i j m)

          go : (k : ℕ) × (k < n) × NZ (turn_at P i j k) → Edge P d (value σ) n i j
          go (k, kn, nz) = side-edge P d (value σ) n (value_nz σ q) i j k low.0 low.1 kn on side (pos_of_nn _ ((valued_nn σ q (turn_at P i j k)).1 (h.inside i j m k kn)) (λ z. nz (zero_of_mul (value_nz σ q) z)))

      wrapped_of : (p : ℕ) (c : List ℕ) → ((i j : ℕ) → Neighbours (p ∷ c) i j → Edge P d (value σ) n i j) → (j : ℕ) (front : List ℕ) → p ∷ c ≡ front ++ j ∷ [] → LastOf j → Wrapped (value σ) p c
      wrapped_of p [] e j [] is l = subst LastOf (sym (ap (λ (t : List ℕ). get_or t 0 0) is)) l
      wrapped_of p [] e j (x ∷ front) is l = let k = ap length is in absurd (omega (arith, k, length-append front (j ∷ [])))
      wrapped_of p (q ∷ c) e j [] is l = let k = ap length is in absurd (omega (arith, k))
      wrapped_of p (q ∷ c) e j (x ∷ front) is l = (e p q ([], c, refl), wrapped_of q c (λ i j (f, b, z). e i j (p ∷ f, b, ap (λ (t : List ℕ). p ∷ t) z)) j front (ap tail is) l)

      pub chain-only : (p : ℕ) → FirstOf p → (c : List ℕ) → Wrapped (value σ) p c → (t : List ℕ) → Chain n P σ t → ((i j : ℕ) → Neighbours t i j → Side n P i j) → t ≡ p ∷ c
      chain-only p first c w t h sides =
          let (r, back, is, least) = h.begins in
          let (j, front, at, greatest) = h.ends in
          let one = same p r first least in
          let whole : t ≡ p ∷ back = is ∙ ap (λ (x : ℕ). x ∷ back) (sym one) in
          let rest = wrapped_of p back (λ i j m. let k = subst (λ (x : List ℕ). Neighbours x i j) (sym whole) m in edge_of t h i j k (sides i j k)) j front (sym whole ∙ at) (λ k kn f. last k kn j f greatest) in
          whole ∙ ap (λ (x : List ℕ). p ∷ x) (wrapped_one (value σ) p back c rest w)
        where
          same : (p r : ℕ) → FirstOf p → Leftmost n P r → p ≡ r
          same p r (pn, fp) (rn, fr) = dec→stable (ℕ_discrete p r) (λ ne. pos-zero (pos-add (fp r rn (λ z. ne (sym z))) ((order r p rn pn).0 (fr p pn ne))) (ahead-add P d p r p ∙ ahead_self P d p))

          last : (k : ℕ) → k < n → (j : ℕ) → Ahead j k → Rightmost n P j → ⊥
          last k kn j f (jn, g) = pos-zero (pos-add f ((order k j kn jn).0 (g k kn (λ z. ahead_differ j k f (sym z))))) (ahead-add P d j k j ∙ ahead_self P d j)

  -- ---- both sides

  module _ (bent : Collinear n P → ⊥) (s : ℤ) (sz : NZ s) (p : ℕ) (first : FirstOf p) (c c' : List ℕ) (w : Wrapped s p c) (w' : Wrapped (neg_ℤ s) p c') where
    sz' : NZ (neg_ℤ s)
    sz' e = sz (neg-zero s e)

    not_behind : (i : ℕ) → i < n → NN (ahead P d p i)
    not_behind i il = go (ℕ_discrete i p)
      where
        go : Dec (i ≡ p) → NN (ahead P d p i)
        go (yes e) = nn-zero (ap (ahead P d p) e ∙ ahead_self P d p)
        go (no ne) = pos_nn (first.1 i il ne)

    -- a side is an edge of one of the two
    either : (i j : ℕ) → i < n → j < n → Ahead i j → Side n P i j → Edge P d s n i j ⊎ Edge P d (neg_ℤ s) n i j
    either i j il jl h side = let (k, kn, nz) = off_line bent i j il jl h in off k kn nz (tri (swung P d s i j k))
      where
        off : (k : ℕ) → k < n → NZ (turn_at P i j k) → Tri (swung P d s i j k) → Edge P d s n i j ⊎ Edge P d (neg_ℤ s) n i j
        off k kn nz (above l) = inl (side-edge P d s n sz i j k il jl kn h side l)
        off k kn nz (at-nought e) = absurd (nz (zero_of_mul sz e))
        off k kn nz (below l) = inr (side-edge P d (neg_ℤ s) n sz' i j k il jl kn h side (pos_cast (sym (*ℤ-neg-l s (turn_at P i j k))) l))

    -- where the two chains have the pair i, j
    with_pair : (i j : ℕ) → i < n → j < n → Ahead i j → Side n P i j → Neighbours (p ∷ c) i j ⊎ Neighbours (p ∷ c') i j
    with_pair i j il jl h side = ⊎_elim (λ e. inl (found s p c w i j e (not_behind i il))) (λ e. inr (found (neg_ℤ s) p c' w' i j e (not_behind i il))) (either i j il jl h side)

    turned : (i j : ℕ) → i < n → j < n → Ahead i j → Side n P j i → Side n P i j
    turned i j il jl h side = side_turned n P distinct j i jl il (λ e. ahead_differ i j h (sym e)) side

    edge_pair : (e : List ℕ) (i j : ℕ) → e ≡ in_order i j → i < n → j < n → Ahead i j → Side n P i j → SidePair n P e
    edge_pair e i j is il jl h side = go (dec_lt i j)
      where
        go : Dec (i < j) → SidePair n P e
        go (yes l) = (i, j, is ∙ in_order_lem i j l, l, jl, side)
        go (no l) = (j, i, is ∙ out_of_order i j (omega (arith, l)), omega (arith, l, ahead_differ i j h), il, side_turned n P distinct i j il jl (ahead_differ i j h) side)

    pair_in : (i j : ℕ) → i < n → j < n → Ahead i j → Side n P i j → Memᴰ (in_order i j) (pairs_of (p ∷ c) ++ pairs_of (p ∷ c'))
    pair_in i j il jl h side = ⊎_elim
        (λ (front, back, is). Memᴰ.append_left (pairs_of (p ∷ c')) (subst (λ (t : List ℕ). Memᴰ (in_order i j) (pairs_of t)) (sym is) (pairs_in front back i j)))
        (λ (front, back, is). Memᴰ.append_right (pairs_of (p ∷ c)) (subst (λ (t : List ℕ). Memᴰ (in_order i j) (pairs_of t)) (sym is) (pairs_in front back i j)))
        (with_pair i j il jl h side)

    pub wrapped_sides : Exactly [] (SidePair n P) (pairs_of (p ∷ c) ++ pairs_of (p ∷ c'))
    wrapped_sides = exactly_apart (pairs_of (p ∷ c) ++ pairs_of (p ∷ c')) (λ e. (λ m. ⊎_elim (out s sz c w) (out (neg_ℤ s) sz' c' w') (Memᴰ.append_cases (pairs_of (p ∷ c)) m), into e))
        (apart-append Other (pairs_of (p ∷ c)) (pairs_of (p ∷ c')) (pairs_apart s p c w) (pairs_apart (neg_ℤ s) p c' w') across)
      where
        out : (s : ℤ) → NZ s → (c : List ℕ) → Wrapped s p c → {x : List ℕ} → Memᴰ x (pairs_of (p ∷ c)) → SidePair n P x
        out s sz c w {x} m = let (i, j, is, e, _) = pairs_out s p c w m in edge_pair x i j is e.from e.to e.onward (edge-side P d s n sz apart i j e)

        into : (e : List ℕ) → SidePair n P e → Memᴰ e (pairs_of (p ∷ c) ++ pairs_of (p ∷ c'))
        into e (i, j, is, l, jn, side) = go (dec_pos (ahead P d i j))
          where
            il : i < n
            il = omega arith

            go : Dec (Ahead i j) → Memᴰ e (pairs_of (p ∷ c) ++ pairs_of (p ∷ c'))
            go (yes h) = subst (λ (x : List ℕ). Memᴰ x (pairs_of (p ∷ c) ++ pairs_of (p ∷ c'))) (in_order_lem i j l ∙ sym is) (pair_in i j il jn h side)
            go (no o) = let h = behind j i jn il o (omega arith) in
                subst (λ (x : List ℕ). Memᴰ x (pairs_of (p ∷ c) ++ pairs_of (p ∷ c'))) (out_of_order j i (omega arith) ∙ sym is) (pair_in j i jn il h (turned j i jn il h side))

        across : (x y : List ℕ) → Memᴰ x (pairs_of (p ∷ c)) → Memᴰ y (pairs_of (p ∷ c')) → x ≡ y → ⊥
        across x y m m' z =
            let (i, j, is, e, _) = pairs_out s p c w m in
            let (i', j', is', e', _) = pairs_out (neg_ℤ s) p c' w' m' in
            ⊎_elim (λ (a, b). not_both P d s sz n bent i j e (subst (λ (u : ℕ). Edge P d (neg_ℤ s) n u j) (sym a) (subst (Edge P d (neg_ℤ s) n i') (sym b) e')))
            (λ (a, b). pos-zero (pos-add e.onward (pos_cast (λ k. ahead P d (sym b k) (sym a k)) e'.onward)) (ahead-add P d i j i ∙ ahead_self P d i))
            (same_pair i j i' j' (sym is ∙ z ∙ is'))

    -- ---- corners

    corner_from : (s : ℤ) → NZ s → (i j : ℕ) → Edge P d s n i j → Corner n P i × Corner n P j
    corner_from s sz i j e =
        let side = edge-side P d s n sz apart i j e in
        let ne = ahead_differ i j e.onward in
        ((e.from, (j, e.to, (λ z. ne (sym z)), side)), (e.to, (i, e.from, ne, side_turned n P distinct i j e.from e.to ne side)))

    -- something is ahead of p, so neither chain ends at once
    module _ (k : ℕ) (kn : k < n) (kp : k ≡ p → ⊥) where
      first_in : (c : List ℕ) → Wrapped s p c → Memᴰ p (drop_last (p ∷ c))
      first_in [] w = absurd (w k kn (first.1 k kn kp))
      first_in (q ∷ c) w = Memᴰ.head refl

      corner_in : (x : ℕ) → x < n → Memᴰ x (p ∷ c) ⊎ Memᴰ x (p ∷ c') → Memᴰ x (drop_last (p ∷ c) ++ c')
      corner_in x xn m = go (ℕ_discrete x p) m
        where
          south : (x ≡ p → ⊥) → Memᴰ x (drop_last (p ∷ c)) ⊎ LastOf x → Memᴰ x (drop_last (p ∷ c) ++ c')
          south ne (inl h) = Memᴰ.append_left c' h
          south ne (inr l) = Memᴰ.append_right (drop_last (p ∷ c)) (last_in (neg_ℤ s) p first.0 c' w' x xn l ne)

          go : Dec (x ≡ p) → Memᴰ x (p ∷ c) ⊎ Memᴰ x (p ∷ c') → Memᴰ x (drop_last (p ∷ c) ++ c')
          go (yes e) _ = Memᴰ.append_left c' (subst (λ (y : ℕ). Memᴰ y (drop_last (p ∷ c))) (sym e) (first_in c w))
          go (no ne) (inl h) = south ne (front_or_last s p c w x h)
          go (no ne) (inr h) = Memᴰ.append_right (drop_last (p ∷ c)) (⊎_elim (λ e. absurd (ne e)) (λ l. l) (Memᴰ.cases_cons h))

    pub wrapped_corners : Exactly 0 (Corner n P) (drop_last (p ∷ c) ++ c')
    wrapped_corners = exactly_apart (drop_last (p ∷ c) ++ c') (λ x. (λ m. out x (Memᴰ.append_cases (drop_last (p ∷ c)) m), into x))
        (apart-append Other (drop_last (p ∷ c)) c' (front_apart s p c w) (wrapped_apart (neg_ℤ s) p c' w').1 across)
      where
        out : (x : ℕ) → Memᴰ x (drop_last (p ∷ c)) ⊎ Memᴰ x c' → Corner n P x
        out x (inl m) = let (j, e) = front_out s p c w x m in (corner_from s sz x j e).0
        out x (inr m) = let (o, e) = back_out (neg_ℤ s) p c' w' x m in (corner_from (neg_ℤ s) sz' o x e).1

        -- one of two different points is not p
        another : (x j : ℕ) → (j ≡ x → ⊥) → x < n → j < n → (k : ℕ) × (k < n) × (k ≡ p → ⊥)
        another x j ne xn jn = pick (ℕ_discrete x p)
          where
            pick : Dec (x ≡ p) → (k : ℕ) × (k < n) × (k ≡ p → ⊥)
            pick (yes e) = (j, jn, λ z. ne (z ∙ sym e))
            pick (no o) = (x, xn, o)

        into : (x : ℕ) → Corner n P x → Memᴰ x (drop_last (p ∷ c) ++ c')
        into x (xn, (j, jn, ne, side)) = go (dec_pos (ahead P d x j))
          where
            at : Memᴰ x (p ∷ c) ⊎ Memᴰ x (p ∷ c') → Memᴰ x (drop_last (p ∷ c) ++ c')
            at = let (k, kn, kp) = another x j ne xn jn in corner_in k kn kp x xn

            go : Dec (Ahead x j) → Memᴰ x (drop_last (p ∷ c) ++ c')
            go (yes h) = at (⊎_elim (λ m. inl (neighbours_in (p ∷ c) x j m).0) (λ m. inr (neighbours_in (p ∷ c') x j m).0) (with_pair x j xn jn h side))
            go (no o) = let h = behind j x jn xn o ne in
                at (⊎_elim (λ m. inl (neighbours_in (p ∷ c) j x m).1) (λ m. inr (neighbours_in (p ∷ c') j x m).1) (with_pair j x jn xn h (turned j x jn xn h side)))

        across : (x y : ℕ) → Memᴰ x (drop_last (p ∷ c)) → Memᴰ y c' → x ≡ y → ⊥
        across x y m m' z =
            let (j, e) = front_out s p c w x m in
            let (o, f) = back_out (neg_ℤ s) p c' w' y m' in
            not_through P d s sz n o x j (subst (Edge P d (neg_ℤ s) n o) (sym z) f) e

    pub wrapped-three : 3 ≤ length c + length c'
    wrapped-three = go c c' w w'
      where
        some : (k : ℕ) × (k < n) × (k ≡ p → ⊥)
        some = pick (some_below n (λ k. k ≡ p → ⊥) (λ k. dec-not (ℕ_discrete k p)))
          where
            pick : Dec ((k : ℕ) × (k < n) × (k ≡ p → ⊥)) → (k : ℕ) × (k < n) × (k ≡ p → ⊥)
            pick (yes h) = h
            pick (no none) = absurd (bent ((collinear_iff n P).1 (λ a b e ab be en. absurd (none (b, omega arith, λ z. none (a, omega arith, λ y. omega (arith, z, y)))))))

        begun : (q q' : ℕ) → Edge P d s n p q → Edge P d (neg_ℤ s) n p q' → LastOf q → LastOf q' → ⊥
        begun q q' e f l l' = not_both P d s sz n bent p q e (subst (Edge P d (neg_ℤ s) n p) (sym one) f)
          where
            one : q ≡ q'
            one = dec→stable (ℕ_discrete q q') (λ ne. l q' f.to (behind q q' e.to f.to (l' q e.to) ne))

        go : (c c' : List ℕ) → Wrapped s p c → Wrapped (neg_ℤ s) p c' → 3 ≤ length c + length c'
        go [] c' w w' = let (k, kn, kp) = some in absurd (w k kn (first.1 k kn kp))
        go (q ∷ c) [] w w' = let (k, kn, kp) = some in absurd (w' k kn (first.1 k kn kp))
        go (q ∷ []) (q' ∷ []) (e, l) (f, l') = absurd (begun q q' e f l l')
        go (q ∷ r ∷ c) (q' ∷ c') w w' = omega arith
        go (q ∷ []) (q' ∷ r ∷ c') w w' = omega arith
