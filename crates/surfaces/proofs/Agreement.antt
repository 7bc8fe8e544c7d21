-- The flip that computes, over increasing lists, is the published one. For a circuit z of n shots, a list w as the family of its triples, and a side s (plus or minus):
--
--   side_of z s             the shots of the side s
--   swapped n w z s        the list with the pieces of the side s exchanged for those of the other
--   Proper n z             the sides are increasing and below n, they have no shot in common, and are three or four shots together
--   numbered               every numbered circuit is so
--   side_within, side_inside, side_sign    the shots of a side are increasing and below n, shots of the circuit, and those that have its sign
--   on_support             the shots of the circuit, by their signs; `support_within`: they are increasing and below n
--   support_shots          they are those that a numbered circuit is made of
--   piece_published        the pieces are the published ones
--   link_published         the links of the pieces are the published ones
--   supports_published     `supports` decides that the list supports the pieces
--   Joining n w ps qs t    t is one of qs joined with a set that completes one of ps; `joins_decided`: `joins` decides it
--   star_published         `joins` decides the star of the pieces
--   star_dec               a set is in a star or it is not
--   exchanged_published    the triples of the exchanged list
--   flip_published_side    where the pieces are supported, it is the flip
--   exchanged_words        it is as many words; `exchanged_past`: nothing is put in past the last rank
--   extensional, one_flip  lists with the same triples are the same; so two results of one flip are
--
-- Source 001, section 3.4; document 01, "Flips".
use Rattle.std.specs.Prelude.{◌≡◌, ℕ, ◌+◌, ◌-◌, ◌*◌, ◌<◌, ◌≤◌, Bool, true, false, cond, not, ◌&&◌, ◌||◌, ◌⊎◌, ◌↔◌, List, [], length, ℤ}
use mathlib.Core.Path.{refl, sym, ◌∙◌, ap, subst}
use mathlib.Core.Logic.{inl, inr, ⊎_elim}
use mathlib.Core.Bool.{false≢true}
use mathlib.Core.List.Memᴰ
use mathlib.Core.List.{Memᴰ}
use native.Mathlib.Omega.{arith}
use native.Mathlib.Decide.{dec_lt}
use borrow.Author.Tests.{le-ltb}
use Rattle.algebra.specs.Answer.{Reflects, holds, fails}
use Rattle.algebra.specs.Sets.{is_on, On, same_list, union, dropped, Within, sets_of}
use Rattle.algebra.specs.Sign.{Sign, minus, nought, plus, opposite, is_nought, Side}
use Rattle.algebra.specs.Words.{word_bits, Words, member}
use Rattle.algebra.proofs.AnswerLaws.{reflects_yes, reflects_true, reflects_stable, reflects_agree, reflects_iff, reflects-not, reflects-or, reflects-and, reflects_ltb}
use Rattle.algebra.proofs.LoopLaws.{reflects-any_of, reflects_test}
use Rattle.algebra.proofs.SetLaws.{picks_same}
use Rattle.algebra.proofs.SetTests.{reflects_same, mem_on, mem_sets, on_low, union_within, dropped_within}
use Rattle.algebra.proofs.SignLaws.{plus-nought, minus-nought, other-side, nought-side}
use Rattle.algebra.proofs.WordLaws.{member_past, same_members, sift_words, member-sift}
use Rattle.matroid.specs.Circuits.{SignVector}
use Rattle.matroid.specs.Triangulations.{Family}
use Rattle.matroid.specs.Flips.{Piece, Joins, Link, Supports, Star, Flip}
use Rattle.shots.specs.Patch.{count_of}
use Rattle.circuits.specs.Sides.{TwoSides, sign_in}
use Rattle.circuits.specs.Numbering.{circuits_of, shots_in}
use Rattle.circuits.specs.Calls.{circuit_at}
use Rattle.circuits.proofs.SideLaws.{plus_on, minus_on}
use Rattle.circuits.proofs.Sources.{Source, from3, from4, shots, made, source_at}
use Rattle.circuits.proofs.Signs.{sides_within, sides_apart, shots-in}
use Rattle.triples.specs.Ranks.{triple_count, triple_at, rank_of}
use Rattle.lists.specs.Lines.{Listed}
use Rattle.lists.proofs.Agreement.{listed_triple, listed_decided, listed_at}
use Rattle.triples.proofs.RankLaws.{triple_at_within, triple_of_rank}
use Rattle.surfaces.specs.Flips.{support_of, pieces_of, completions, completes, some_link, mixed_links, supports, joins, exchanged}
use Rattle.algebra.proofs.UnionLaws.{set_known, on_either, on_without, union_apart, union_meets, dropped-length}

abbrev pub side_of : TwoSides → Sign → List ℕ
side_of z minus = z.minus
side_of z nought = []
side_of z plus = z.plus

abbrev pub swapped : ℕ → List ℕ → TwoSides → Sign → List ℕ
swapped n w z s = exchanged n w (pieces_of n z (side_of z s)) (pieces_of n z (side_of z (opposite s)))

-- ---- what is used of a circuit

pub record Proper (n : ℕ) (z : TwoSides) : Type 0 where
  pub within_plus : Within 0 z.plus n
  pub within_minus : Within 0 z.minus n
  pub apart : (i : ℕ) → On z.plus i → On z.minus i → ⊥
  pub size : (length (support_of n z) ≡ 3) ⊎ (length (support_of n z) ≡ 4)

module _ {n : ℕ} {z : TwoSides} (k : Proper n z) where
  pub side_sign : (s : Sign) → Side s → (i : ℕ) → On (side_of z s) i ↔ (sign_in z i ≡ s)
  side_sign minus d i = minus_on z i (k.apart i)
  side_sign nought d i = absurd (nought-side d)
  side_sign plus d i = plus_on z i

  pub support_within : Within 0 (support_of n z) n
  unfolding support_of
  support_within = union_within n z.plus z.minus

  pub on_support : (i : ℕ) → On (support_of n z) i ↔ (sign_in z i ≡ nought → ⊥)
  unfolding support_of sign_in
  on_support i = let e = on_either n z.plus z.minus k.within_plus k.within_minus i in let f = go (is_on i z.plus) (is_on i z.minus) in (λ o. f.0 (e.0 o), λ h. e.1 (f.1 h))
    where
      go : (a b : Bool) → ((a ≡ true) ⊎ (b ≡ true)) ↔ (cond a plus (cond b minus nought) ≡ nought → ⊥)
      go true b = (λ o e. plus-nought e, λ h. inl refl)
      go false true = (λ o e. minus-nought e, λ h. inr refl)
      go false false = (λ o e. ⊎_elim false≢true false≢true o, λ h. absurd (h refl))

  pub side_within : (s : Sign) → Within 0 (side_of z s) n
  side_within minus = k.within_minus
  side_within nought = tt
  side_within plus = k.within_plus

  pub side_inside : (s : Sign) (i : ℕ) → On (side_of z s) i → On (support_of n z) i
  unfolding support_of is_on
  side_inside minus i o = (on_either n z.plus z.minus k.within_plus k.within_minus i).1 (inr o)
  side_inside nought i o = absurd (false≢true o)
  side_inside plus i o = (on_either n z.plus z.minus k.within_plus k.within_minus i).1 (inl o)

  -- ---- pieces

  abbrev X : SignVector
  X = sign_in z

  on_piece : (a i : ℕ) → On (dropped n a (support_of n z)) i ↔ ((X i ≡ nought → ⊥) × (i ≡ a → ⊥))
  on_piece a i = let e = on_without n a (support_of n z) support_within i in (λ o. ((on_support i).0 (e.0 o).0, (e.0 o).1), λ h. e.1 ((on_support i).1 h.0, h.1))

  piece_is : (s : Sign) (p : List ℕ) (q : Piece n X s p) → p ≡ dropped n q.0 (support_of n z)
  piece_is s p q =
      set_known n p (dropped n q.0 (support_of n z)) q.3 (dropped_within n q.0 (support_of n z))
      (λ i l. (λ o. (on_piece q.0 i).1 ((q.4 i l).0 o), λ o. (q.4 i l).1 ((on_piece q.0 i).0 o)))

  pub piece_published : (s : Sign) → Side s → (p : List ℕ) → Memᴰ p (pieces_of n z (side_of z s)) ↔ Piece n X s p
  unfolding pieces_of
  piece_published s d p = (into, out)
    where
      into : Memᴰ p (pieces_of n z (side_of z s)) → Piece n X s p
      into m =
          let (a, o, e) = Memᴰ.of_map (λ i. dropped n i (support_of n z)) (side_of z s) m in
          let on = (mem_on a (side_of z s)).0 o in
          subst (Piece n X s) e (a, (on_low (side_of z s) 0 n a (side_within s) on).1, (side_sign s d a).0 on, dropped_within n a (support_of n z), λ i l. on_piece a i)

      out : Piece n X s p → Memᴰ p (pieces_of n z (side_of z s))
      out q = Memᴰ.cast (piece_is s p q) (Memᴰ.map (λ i. dropped n i (support_of n z)) ((mem_on q.0 (side_of z s)).1 ((side_sign s d q.0).1 q.2)))

  -- one shot less than the circuit
  piece_less : (s : Sign) → Side s → (p : List ℕ) → Piece n X s p → length (support_of n z) ≡ length p + 1
  piece_less s d p q = dropped-length n q.0 (support_of n z) support_within ((on_support q.0).1 (λ e. signed (sym q.2 ∙ e))) ∙ ap (λ (t : List ℕ). length t + 1) (sym (piece_is s p q))
    where
      signed : s ≡ nought → ⊥
      signed e = nought-side (subst Side e d)

  piece_size : (s : Sign) → Side s → (p : List ℕ) → Piece n X s p → (length p ≡ 2) ⊎ (length p ≡ 3)
  piece_size s d p q = ⊎_elim (λ e. inl (less e)) (λ e. inr (less e)) k.size
    where
      less : {m : ℕ} → length (support_of n z) ≡ m + 1 → length p ≡ m
      less e = omega (arith, piece_less s d p q)

  pieces_alike : (s q : Sign) → Side s → Side q → (a b : List ℕ) → Piece n X s a → Piece n X q b → length a ≡ length b
  pieces_alike s q d d' a b u v = let x = piece_less s d a u in let y = piece_less q d' b v in omega arith

-- ---- every numbered circuit

pub support_shots : (l : List ℤ) {x : TwoSides} (k : Source l x) → support_of (count_of l) x ≡ shots l k
unfolding support_of union shots_in sign_in
support_shots l {x} k =
    picks_same (λ i. is_on i x.plus || is_on i x.minus) (λ i. not (is_nought (sign_in x i))) (count_of l) (λ i h. go (is_on i x.plus) (is_on i x.minus)) ∙ shots-in l k
  where
    go : (a b : Bool) → (a || b) ≡ not (is_nought (cond a plus (cond b minus nought)))
    go true b = refl
    go false true = refl
    go false false = refl

made_size : (l : List ℤ) {x : TwoSides} → Source l x → (length (support_of (count_of l) x) ≡ 3) ⊎ (length (support_of (count_of l) x) ≡ 4)
made_size l (from3 t h) = inl (ap length (support_shots l (from3 t h)))
made_size l (from4 q h) = inr (ap length (support_shots l (from4 q h)))

pub numbered : (l : List ℤ) (z : ℕ) → z < length (circuits_of l) → Proper (count_of l) (circuit_at l z)
numbered l z h = proper (source_at l z h)
  where
    proper : {x : TwoSides} → Source l x → Proper (count_of l) x
    proper {x} k = record {
      within_plus = (sides_within (count_of l) x (made l k)).0;
      within_minus = (sides_within (count_of l) x (made l k)).1;
      apart = sides_apart (count_of l) x (made l k);
      size = made_size l k;
    }

-- ---- sets joined

module _ (n : ℕ) (p c : List ℕ) (v : Within 0 p n) (u : Within 0 c n) where
  -- a union as long as both together
  union-joins : length (union n p c) ≡ length p + length c → Joins p c (union n p c)
  union-joins e = (on_either n p c v u, λ i o q. clash (union_meets n p c v u i o q))
    where
      clash : length (union n p c) < length p + length c → ⊥
      clash l = omega arith

  joins-union : (t : List ℕ) → Within 0 t n → Joins p c t → (t ≡ union n p c) × (length t ≡ length p + length c)
  joins-union t w j = (e, ap length e ∙ union_apart n p c v u j.1)
    where
      e : t ≡ union n p c
      e = set_known n t (union n p c) w (union_within n p c) (λ i l. (λ o. (on_either n p c v u i).1 ((j.0 i).0 o), λ o. (j.0 i).1 ((on_either n p c v u i).0 o)))

-- ---- the triples of a list

module _ (n : ℕ) (w : List ℕ) where
  -- t is one of qs joined with a set that completes one of ps
  abbrev pub Joining : List (List ℕ) → List (List ℕ) → List ℕ → Type 0
  Joining ps qs t = (q : List ℕ) × Memᴰ q qs × ((p : List ℕ) × Memᴰ p ps × ((c : List ℕ) × Memᴰ c (completions n p) × ((t ≡ union n q c) × (completes n w p c ≡ true))))

  pub joins_decided : (ps qs : List (List ℕ)) (r : ℕ) → Reflects ((r < triple_count n) × Joining ps qs (triple_at n r)) (joins n w ps qs r)
  unfolding joins
  joins_decided ps qs r =
      reflects-and (reflects_ltb r (triple_count n)) (reflects-any_of _ _ qs (λ q m. reflects-any_of _ _ ps (λ p m. reflects-any_of _ _ (completions n p)
      (λ c m. reflects-and (reflects_same (triple_at n r) (union n q c)) (reflects_test (completes n w p c))))))

  completes_decided : (p c : List ℕ) → Reflects (Listed n w (union n p c)) (completes n w p c)
  unfolding completes
  completes_decided p c = listed_decided n w (union n p c)

-- ---- links, supports, stars

module _ {n : ℕ} {z : TwoSides} (k : Proper n z) (w : List ℕ) where
  abbrev T : Family
  T = Listed n w

  pub link_published : (s : Sign) → Side s → (p c : List ℕ) → Piece n (sign_in z) s p → (Memᴰ c (completions n p) × (completes n w p c ≡ true)) ↔ Link n T p c
  link_published s d p c q = (into, out)
    where
      into : Memᴰ c (completions n p) × (completes n w p c ≡ true) → Link n T p c
      into (m, e) =
          let (u, f) = (mem_sets (3 - length p) n c).0 m in
          let t : T (union n p c) = reflects_yes (completes_decided n w p c) e in
          (u, (union n p c, t, union-joins n p c q.3 u (whole f (listed_triple n w (union n p c) t).1)))
        where
          whole : length c ≡ 3 - length p → length (union n p c) ≡ 3 → length (union n p c) ≡ length p + length c
          whole f g = ⊎_elim (λ (a : length p ≡ 2). omega arith) (λ (a : length p ≡ 3). omega arith) (piece_size k s d p q)

      out : Link n T p c → Memᴰ c (completions n p) × (completes n w p c ≡ true)
      out (u, (t, m, j)) =
          let (e, f) = joins-union n p c q.3 u t (listed_triple n w t m).0 j in
          ((mem_sets (3 - length p) n c).1 (u, rest f (listed_triple n w t m).1), reflects_true (completes_decided n w p c) (subst T e m))
        where
          rest : {t : ℕ} → t ≡ length p + length c → t ≡ 3 → length c ≡ 3 - length p
          rest f g = omega arith

  pub supports_published : (s : Sign) → Side s → Reflects (Supports n T (sign_in z) s) (supports n w (pieces_of n z (side_of z s)))
  unfolding supports some_link mixed_links
  supports_published s d = reflects_iff (into, out) (reflects-and some_decided (reflects-not mixed_decided))
    where
      ps : List (List ℕ)
      ps = pieces_of n z (side_of z s)

      Some : Type 0
      Some = (p : List ℕ) × Memᴰ p ps × ((c : List ℕ) × Memᴰ c (completions n p) × (completes n w p c ≡ true))

      some_decided : Reflects Some (some_link n w ps)
      some_decided = reflects-any_of _ _ ps (λ p m. reflects-any_of (λ c. completes n w p c ≡ true) _ (completions n p) (λ c m. reflects_test (completes n w p c)))

      Differ : List ℕ → List ℕ → Type 0
      Differ p c = (completes n w p c ≡ true) × ((q : List ℕ) × Memᴰ q ps × (completes n w q c ≡ true → ⊥))

      Mixed : Type 0
      Mixed = (p : List ℕ) × Memᴰ p ps × ((c : List ℕ) × Memᴰ c (completions n p) × Differ p c)

      mixed_decided : Reflects Mixed (mixed_links n w ps)
      mixed_decided =
          reflects-any_of (λ p. (c : List ℕ) × Memᴰ c (completions n p) × Differ p c) _ ps
          (λ p m. reflects-any_of (Differ p) _ (completions n p)
          (λ c m. reflects-and (reflects_test (completes n w p c)) (reflects-any_of (λ q. completes n w q c ≡ true → ⊥) _ ps (λ q m. reflects-not (reflects_test (completes n w q c))))))

      known : (p : List ℕ) → Memᴰ p ps ↔ Piece n (sign_in z) s p
      known p = piece_published k s d p

      -- a set of as many shots as one piece lacks is one of as many as another lacks
      alike : (p q c : List ℕ) → Piece n (sign_in z) s p → Piece n (sign_in z) s q → Memᴰ c (completions n p) → Memᴰ c (completions n q)
      alike p q c a b m = subst (λ (i : ℕ). Memᴰ c (sets_of (3 - i) n)) (pieces_alike k s s d d p q a b) m

      into : Some × (Mixed → ⊥) → Supports n T (sign_in z) s
      into ((p, m, (c, i, e)), h) = record {
        some = (p, c, (known p).0 m, (link_published s d p c ((known p).0 m)).0 (i, e));
        same = λ a b c u v l. let (i, e) = (link_published s d a c u).1 l in (link_published s d b c v).0 (alike a b c u v i, also a b c u v i e);
      }
        where
          also : (a b c : List ℕ) → Piece n (sign_in z) s a → Piece n (sign_in z) s b → Memᴰ c (completions n a) → completes n w a c ≡ true → completes n w b c ≡ true
          also a b c u v i e = reflects_stable (reflects_test (completes n w b c)) (λ f. h (a, (known a).1 u, (c, i, (e, (b, (known b).1 v, f)))))

      out : Supports n T (sign_in z) s → Some × (Mixed → ⊥)
      out h = (one, λ (a, m, (c, i, (e, (b, m', f)))). f (there b c m' (h.same a b c ((known a).0 m) ((known b).0 m') ((link_published s d a c ((known a).0 m)).0 (i, e)))))
        where
          one : Some
          one = let (p, c, q, l) = h.some in let (i, e) = (link_published s d p c q).1 l in (p, (known p).1 q, (c, i, e))

          there : (b c : List ℕ) → Memᴰ b ps → Link n T b c → completes n w b c ≡ true
          there b c m l = ((link_published s d b c ((known b).0 m)).1 l).1

  -- ---- stars

  module _ (s q : Sign) (d : Side s) (d' : Side q) where
    star_triple : (t : List ℕ) → Star n T (sign_in z) s q t → length t ≡ 3
    star_triple t (v, (p, c, b, a, (u, (t', m, j)), a', j')) =
        let e = (joins-union n b c a'.3 u t v j').1 in let f = (joins-union n p c a.3 u t' (listed_triple n w t' m).0 j).1 in
        let g = (listed_triple n w t' m).1 in let h = pieces_alike k s q d d' p b a a' in omega arith

    pub star_published : (r : ℕ) → r < triple_count n → Reflects (Star n T (sign_in z) s q (triple_at n r)) (joins n w (pieces_of n z (side_of z s)) (pieces_of n z (side_of z q)) r)
    star_published r h = reflects_iff (into, out) (joins_decided n w (pieces_of n z (side_of z s)) (pieces_of n z (side_of z q)) r)
      where
        t : List ℕ
        t = triple_at n r

        Found : Type 0
        Found = Joining n w (pieces_of n z (side_of z s)) (pieces_of n z (side_of z q)) t

        into : (r < triple_count n) × Found → Star n T (sign_in z) s q t
        into (l, (b, m, (p, m', (c, i, (e, f))))) =
            let a : Piece n (sign_in z) s p = (piece_published k s d p).0 m' in
            let a' : Piece n (sign_in z) q b = (piece_published k q d' b).0 m in
            let u : Link n T p c = (link_published s d p c a).0 (i, f) in (
              (triple_at_within n r l).0,
              (
                p,
                c,
                b,
                a,
                u,
                a',
                subst (Joins b c) (sym e)
                    (union-joins n b c a'.3 u.0 (whole a (pieces_alike k s q d d' p b a a') (ap length e) (triple_at_within n r l).1 ((mem_sets (3 - length p) n c).0 i).1)),
              ),
            )
          where
            whole : {x y : ℕ} → Piece n (sign_in z) s p → length p ≡ length b → x ≡ y → x ≡ 3 → length c ≡ 3 - length p → y ≡ length b + length c
            whole a f g h o = ⊎_elim (λ (v : length p ≡ 2). omega arith) (λ (v : length p ≡ 3). omega arith) (piece_size k s d p a)

        out : Star n T (sign_in z) s q t → (r < triple_count n) × Found
        out (v, (p, c, b, a, u, a', j)) =
            let (i, f) = (link_published s d p c a).1 u in
            (h, (b, (piece_published k q d' b).1 a', (p, (piece_published k s d p).1 a, (c, i, ((joins-union n b c a'.3 u.0 t v j).0, f)))))

    pub star_dec : (t : List ℕ) → Dec (Star n T (sign_in z) s q t)
    star_dec t = go (dec_lt (rank_of n t) (triple_count n)) (same_list (triple_at n (rank_of n t)) t) (reflects_same (triple_at n (rank_of n t)) t)
      where
        ranked : Star n T (sign_in z) s q t → (rank_of n t < triple_count n) × (triple_at n (rank_of n t) ≡ t)
        ranked h = triple_of_rank n t h.0 (star_triple t h)

        at : rank_of n t < triple_count n → {b : Bool} → Reflects (Star n T (sign_in z) s q (triple_at n (rank_of n t))) b → triple_at n (rank_of n t) ≡ t → Dec (Star n T (sign_in z) s q t)
        at l (holds h) e = yes (subst (Star n T (sign_in z) s q) e h)
        at l (fails h) e = no (λ x. h (subst (Star n T (sign_in z) s q) (sym e) x))

        go : Dec (rank_of n t < triple_count n) → (b : Bool) → Reflects (triple_at n (rank_of n t) ≡ t) b → Dec (Star n T (sign_in z) s q t)
        go (yes l) true (holds e) = at l (star_published (rank_of n t) l) e
        go (yes l) false (fails e) = no (λ h. e (ranked h).1)
        go (no l) b r = no (λ h. l (ranked h).0)

  -- ---- the exchange

  module _ (s : Sign) (d : Side s) (b : triple_count n ≤ word_bits * length w) where
    abbrev After : List ℕ → Type 0
    After t = (T t × (Star n T (sign_in z) s s t → ⊥)) ⊎ Star n T (sign_in z) s (opposite s) t

    member-exchanged : (r : ℕ) → r < triple_count n → Reflects (After (triple_at n r)) (member (swapped n w z s) r)
    unfolding exchanged
    member-exchanged r h =
        rw (member-sift (length w) (λ r. (member w r && not (joins n w ps ps r)) || joins n w ps qs r) r (omega arith))
        (reflects-or (reflects-and (reflects_iff ((listed_at n w r h).1, (listed_at n w r h).0) (reflects_test (member w r))) (reflects-not (star_published s s d d r h)))
        (star_published s (opposite s) d (other-side s d) r h))
      where
        ps : List (List ℕ)
        ps = pieces_of n z (side_of z s)

        qs : List (List ℕ)
        qs = pieces_of n z (side_of z (opposite s))

    pub exchanged_published : (t : List ℕ) → Listed n (swapped n w z s) t ↔ ((T t × (Star n T (sign_in z) s s t → ⊥)) ⊎ Star n T (sign_in z) s (opposite s) t)
    exchanged_published t = (λ (r, h, m, e). subst After e (reflects_yes (member-exchanged r h) m), λ a. out a (triple a))
      where
        triple : After t → Within 0 t n × (length t ≡ 3)
        triple (inl h) = listed_triple n w t h.0
        triple (inr h) = (h.0, star_triple s (opposite s) d (other-side s d) t h)

        out : After t → Within 0 t n × (length t ≡ 3) → Listed n (swapped n w z s) t
        out a (v, l) = let (h, e) = triple_of_rank n t v l in (rank_of n t, h, reflects_true (member-exchanged (rank_of n t) h) (subst After (sym e) a), e)

    pub flip_published_side : Supports n T (sign_in z) s → Flip n T (sign_in z) s (Listed n (swapped n w z s))
    flip_published_side h = record { supported = h; exchanged = exchanged_published }

-- ---- what is in the exchanged list, whatever the pieces

module _ (n m : ℕ) (w : List ℕ) (ps qs : List (List ℕ)) (v : length w ≡ m) where
  pub exchanged_words : Words m (exchanged n w ps qs)
  unfolding exchanged
  exchanged_words = subst (λ (x : ℕ). Words x (exchanged n w ps qs)) v (sift_words (length w) (λ r. (member w r && not (joins n w ps ps r)) || joins n w ps qs r))

  -- nothing is put in past the last rank
  pub exchanged_past : (r : ℕ) → triple_count n ≤ r → member w r ≡ false → member (exchanged n w ps qs) r ≡ false
  unfolding exchanged joins
  exchanged_past r h e = go (dec_lt r (word_bits * length w))
    where
      go : Dec (r < word_bits * length w) → member (exchanged n w ps qs) r ≡ false
      go (yes l) = member-sift (length w) (λ r. (member w r && not (joins n w ps ps r)) || joins n w ps qs r) r l ∙ rw (e, le-ltb r (triple_count n) h) refl
      go (no l) = member_past (exchanged n w ps qs) r (let q = exchanged_words.0 in omega arith)

-- ---- lists with the same triples

module _ (n m : ℕ) (v w : List ℕ) (p : Words m v) (q : Words m w)
    (f : (r : ℕ) → triple_count n ≤ r → member v r ≡ false) (g : (r : ℕ) → triple_count n ≤ r → member w r ≡ false) where
  pub extensional : ((t : List ℕ) → Listed n v t ↔ Listed n w t) → v ≡ w
  extensional h =
      (same_members m (triple_count n) v w p q f g).1
      (λ r l. reflects_agree (reflects_iff ((listed_at n v r l).1, (listed_at n v r l).0) (reflects_test (member v r)))
      (reflects_iff (λ e. (h (triple_at n r)).1 ((listed_at n w r l).1 e), λ e. (listed_at n w r l).0 ((h (triple_at n r)).0 e)) (reflects_test (member w r))))

  pub one_flip : {T : Family} {X : SignVector} {s : Sign} → Flip n T X s (Listed n v) → Flip n T X s (Listed n w) → v ≡ w
  one_flip h k = extensional (λ t. (λ x. (k.exchanged t).1 ((h.exchanged t).0 x), λ x. (h.exchanged t).1 ((k.exchanged t).0 x)))
