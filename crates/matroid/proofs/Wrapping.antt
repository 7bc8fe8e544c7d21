-- Edges of the outline of points in the plane, found as a string is wrapped around them: behind a point comes the one that no other point ahead is on the outer side of, the farthest of those on one
-- line. Ahead is along a direction d that tells the points apart. Both sides at once: s is a factor of every turn, and its sign is the side of the points inside.
--
--   ahead i k           how far point k is ahead of point i; `ahead_self`, `ahead_back`, `ahead-add`: not at all of itself, back again, and in two steps; `not_back`: not both ways
--   swung i j k         s times the turn
--   Best p q m          of the points below m that are ahead of p none is on the outer side of p and q, and none on their line is farther than q
--   best_none, best_passed, best_kept, best_taken    while the points are gone through, one by one
--   Edge p q            an edge of the outline: every point is inside or on its line, and those on its line are from p to q
--   edge-first, edge_behind    from the first point of all, and behind an edge
--   edge-turn           behind an edge the outline turns
--   edge_one            behind a point there is one edge
--   edge_across         no edge begins between the ends of another
--   edge-side, side-edge    an edge is a side, and a side with a point inside is an edge
--   not_both, not_through    on opposite sides: no edge is on both, and none goes on behind one of the other side
use mathlib.Core.Path.{◌≡◌, sym, ◌∙◌, ap, subst}
use mathlib.Core.Logic.{◌⊎◌, inl, inr, ⊎_elim}
use mathlib.Core.List.{List, [], ◌∷◌}
use Prim.Native.Nat.{ℕ, suc, ◌<◌}
use native.Mathlib.Nat.{not-suc-le-zero}
use native.Mathlib.Decide.{ℕ_discrete}
use lib.IntN.{ℤ, pos, neg_ℤ, ◌+ℤ◌, ◌-ℤ◌, ◌*ℤ◌, *ℤ_comm, +ℤ_idr}
use Rattle.algebra.specs.Sign.{Pos, NN, NP, NZ}
use Rattle.algebra.proofs.IntLaws.{*ℤ-neg-l, *ℤ-neg-r}
use Rattle.algebra.proofs.LoopLaws.{last}
use Rattle.algebra.proofs.Ring.{Ex, cst, ◌⊕◌, ◌⊝◌, ◌⊗◌, neg, ring}
use Rattle.algebra.proofs.SignLaws.{pos_cast, nn_cast, nn-mul, nn-add, pos_nn, pos_nn_add, pos-mul, pos_neg_mul, nn-zero, mul-zero, both_zero, neg-zero, pos-zero, neg_nn, pos_of_nn, pos_of_mul, nn_of_mul, neg_of_mul, zero_of_mul, dec_pos, np_of, nn_of, nn_np, sum_zero_l, sum_zero_r, square_pos, square-mul}
use Rattle.matroid.specs.Borders.{Side}
use Rattle.matroid.specs.Points.{Point, Points, Between, Collinear}
use Rattle.matroid.proofs.Borders.{border_sides}
use Rattle.matroid.proofs.Lines.{line_through}
use Rattle.matroid.proofs.Sides.{turn_at, sides}
use Rattle.matroid.proofs.Turns.{coordinates, X, Y, D, turn_cycle, turn_swap, turn-first, turn_last, turn_ends}

-- a product that is 0, with a positive second factor
left-zero : (x : ℤ) {y : ℤ} → Pos y → x *ℤ y ≡ pos 0 → x ≡ pos 0
left-zero x {y} h e = zero_of_mul (pos-zero h) (*ℤ_comm y x ∙ e)

module _ (P : Points) (d : Point) where
  abbrev pub ahead : ℕ → ℕ → ℤ
  ahead i k = d.x *ℤ ((P k).x -ℤ (P i).x) +ℤ d.y *ℤ ((P k).y -ℤ (P i).y)

  -- four points, the direction, and two numbers more
  abbrev ρ : (i j k m : ℕ) (u v : ℤ) → List ℤ
  ρ i j k m u v = coordinates (P i ∷ P j ∷ P k ∷ P m ∷ d ∷ record { x = u; y = v } ∷ [])

  abbrev A : ℕ → ℕ → Ex
  A i k = X 4 ⊗ (X k ⊝ X i) ⊕ Y 4 ⊗ (Y k ⊝ Y i)

  pub ahead_self : (i : ℕ) → ahead i i ≡ pos 0
  ahead_self i = ring (ρ i i i i (pos 0) (pos 0)) (A 0 0) (cst (pos 0)) tt

  pub ahead_back : (i k : ℕ) → neg_ℤ (ahead i k) ≡ ahead k i
  ahead_back i k = ring (ρ i k k k (pos 0) (pos 0)) (neg (A 0 1)) (A 1 0) tt

  pub ahead-add : (i j k : ℕ) → ahead i j +ℤ ahead j k ≡ ahead i k
  ahead-add i j k = ring (ρ i j k k (pos 0) (pos 0)) (A 0 1 ⊕ A 1 2) (A 0 2) tt

  pub not_back : {X : Type 0} (i k : ℕ) → Pos (ahead i k) → NN (ahead k i) → X
  not_back i k h = neg_nn (pos_cast (sym (ahead_back k i)) h)

  -- what is on a line is between two points of it where it is ahead of the one and behind the other
  ahead_between : (p q k : ℕ) → turn_at P p q k ≡ pos 0 → Pos (ahead p k) → Pos (ahead k q) → Between (P k) (P p) (P q)
  ahead_between p q k e h l = record {
    u = ahead k q;
    v = ahead p k;
    u_pos = l;
    v_pos = h;
    xs = ring (ρ p q k k (pos 0) (pos 0)) (A 2 1 ⊗ (X 0 ⊝ X 2) ⊕ A 0 2 ⊗ (X 1 ⊝ X 2)) (Y 4 ⊗ D 0 1 2) tt ∙ mul-zero d.y e;
    ys = ring (ρ p q k k (pos 0) (pos 0)) (A 2 1 ⊗ (Y 0 ⊝ Y 2) ⊕ A 0 2 ⊗ (Y 1 ⊝ Y 2)) (neg (X 4) ⊗ D 0 1 2) tt ∙ mul-zero (neg_ℤ d.x) e;
  }

  ahead_inside : (p q k : ℕ) → Pos (ahead p q) → Between (P k) (P p) (P q) → Pos (ahead p k) × Pos (ahead k q)
  ahead_inside p q k h b = (
    pos_of_mul sum (pos_cast (sym (balanced (ring e (U ⊗ A 0 2) (Y 5 ⊗ A 0 1 ⊕ (neg (X 4) ⊗ xs ⊕ neg (Y 4) ⊗ ys)) tt) (both_zero (neg_ℤ d.x) (neg_ℤ d.y) b.xs b.ys))) (pos-mul b.v_pos h)),
    pos_of_mul sum (pos_cast (sym (balanced (ring e (U ⊗ A 2 1) (X 5 ⊗ A 0 1 ⊕ (X 4 ⊗ xs ⊕ Y 4 ⊗ ys)) tt) (both_zero d.x d.y b.xs b.ys))) (pos-mul b.u_pos h)),
  )
    where
      e : List ℤ
      e = ρ p q k k b.u b.v

      sum : Pos (b.u +ℤ b.v)
      sum = pos_nn_add b.u_pos (pos_nn b.v_pos)

      U : Ex
      U = X 5 ⊕ Y 5

      -- the balance of the weights
      xs : Ex
      xs = X 5 ⊗ (X 0 ⊝ X 2) ⊕ Y 5 ⊗ (X 1 ⊝ X 2)

      ys : Ex
      ys = X 5 ⊗ (Y 0 ⊝ Y 2) ⊕ Y 5 ⊗ (Y 1 ⊝ Y 2)

      balanced : {x y z : ℤ} → x ≡ y +ℤ z → z ≡ pos 0 → x ≡ y
      balanced {x} {y} p q = p ∙ ap (λ (w : ℤ). y +ℤ w) q ∙ +ℤ_idr y

  module _ (s : ℤ) where
    abbrev pub swung : ℕ → ℕ → ℕ → ℤ
    swung i j k = s *ℤ turn_at P i j k

    -- the relation of three directions, at their common point
    abbrev T : ℕ → ℕ → ℕ → Ex
    T i j k = X 5 ⊗ D i j k

    swing : (p q k m : ℕ) → ahead p q *ℤ swung p k m ≡ swung p q m *ℤ ahead p k +ℤ neg_ℤ (swung p q k) *ℤ ahead p m
    swing p q k m = ring (ρ p q k m s (pos 0)) (A 0 1 ⊗ T 0 2 3) (T 0 1 3 ⊗ A 0 2 ⊕ neg (T 0 1 2) ⊗ A 0 3) tt

    carry : (o p q k : ℕ) → ahead o p *ℤ swung p q k ≡ swung o p k *ℤ ahead p q +ℤ swung o p q *ℤ neg_ℤ (ahead p k)
    carry o p q k = ring (ρ o p q k s (pos 0)) (A 0 1 ⊗ T 1 2 3) (T 0 1 3 ⊗ A 1 2 ⊕ T 0 1 2 ⊗ neg (A 1 3)) tt

    level : (i j p q : ℕ) → swung i j p *ℤ ahead i q +ℤ (swung i j q *ℤ ahead p i +ℤ swung p q i *ℤ ahead i j) ≡ pos 0
    level i j p q = ring (ρ i j p q s (pos 0)) (T 0 1 2 ⊗ A 0 3 ⊕ (T 0 1 3 ⊗ A 2 0 ⊕ T 2 3 0 ⊗ A 0 1)) (cst (pos 0)) tt

    swung_ends : (p q : ℕ) → swung p q p ≡ pos 0
    swung_ends p q = mul-zero s (turn_ends (P p) (P q))

    swung_last : (p q : ℕ) → swung p q q ≡ pos 0
    swung_last p q = mul-zero s (turn_last (P p) (P q))

    -- ---- the best so far

    abbrev pub Best : ℕ → ℕ → ℕ → Type 0
    Best p q m = (k : ℕ) → k < m → Pos (ahead p k) → NN (swung p q k) × (swung p q k ≡ pos 0 → NN (ahead k q))

    pub best_none : (p q : ℕ) → Best p q 0
    best_none p q k h = absurd (not-suc-le-zero h)

    best_more : (p q m : ℕ) → Best p q m → (Pos (ahead p m) → NN (swung p q m) × (swung p q m ≡ pos 0 → NN (ahead m q))) → Best p q (suc m)
    best_more p q m b h k l f = ⊎_elim (λ i. b k i f) (λ e. subst (λ (i : ℕ). NN (swung p q i) × (swung p q i ≡ pos 0 → NN (ahead i q))) (sym e) (h (subst (λ (i : ℕ). Pos (ahead p i)) e f))) (last k m l)

    pub best_passed : (p q m : ℕ) → Best p q m → (Pos (ahead p m) → ⊥) → Best p q (suc m)
    best_passed p q m b h = best_more p q m b (λ f. absurd (h f))

    pub best_kept : (p q m : ℕ) → Best p q m → NN (swung p q m) → (swung p q m ≡ pos 0 → NN (ahead m q)) → Best p q (suc m)
    best_kept p q m b h k = best_more p q m b (λ _. (h, k))

    pub best_taken : (p q m : ℕ) → Best p q m → (q ≡ p) ⊎ Pos (ahead p q) → Pos (ahead p m) → NP (swung p q m) → (swung p q m ≡ pos 0 → Pos (ahead q m)) → Best p m (suc m)
    best_taken p q m b i g o far = best_more p m m (λ k l f. go k l f i) (λ _. (nn-zero (swung_last p m), λ _. nn-zero (ahead_self m)))
      where
        go : (k : ℕ) → k < m → Pos (ahead p k) → (q ≡ p) ⊎ Pos (ahead p q) → NN (swung p m k) × (swung p m k ≡ pos 0 → NN (ahead k m))
        go k l f (inl e) = not_back p k f (subst (λ (j : ℕ). NN (ahead k j)) e ((b k l f).1 (ap (λ (j : ℕ). swung p j k) e ∙ mul-zero s (turn-first (P p) (P k)))))
        go k l f (inr h) = (
          nn_of_mul h (nn_cast (sym (swing p q m k)) (nn-add x y)),
          λ e. let z = sym (swing p q m k) ∙ mul-zero (ahead p q) e in
              nn_cast (ahead-add k q m) (nn-add ((b k l f).1 (left-zero (swung p q k) g (sum_zero_l _ _ x y z))) (pos_nn (far (neg-zero (swung p q m) (left-zero (neg_ℤ (swung p q m)) f (sum_zero_r _ _ x y z)))))),
        )
          where
            x : NN (swung p q k *ℤ ahead p m)
            x = nn-mul (b k l f).0 (pos_nn g)

            y : NN (neg_ℤ (swung p q m) *ℤ ahead p k)
            y = nn-mul o (pos_nn f)

    -- ---- edges

    module _ (n : ℕ) where
      pub record Edge (p q : ℕ) : Type 0 where
        pub from : p < n
        pub to : q < n
        pub onward : Pos (ahead p q)
        pub inner : (k : ℕ) → k < n → NN (swung p q k)
        pub along : (k : ℕ) → k < n → swung p q k ≡ pos 0 → NN (ahead p k) × NN (ahead k q)

      pub edge-first : (p q : ℕ) → p < n → q < n → ((k : ℕ) → k < n → (k ≡ p → ⊥) → Pos (ahead p k)) → Pos (ahead p q) → Best p q n → Edge p q
      edge-first p q pn qn first h b = record {
        from = pn;
        to = qn;
        onward = h;
        inner = λ k kn. inner k kn (ℕ_discrete k p);
        along = λ k kn e. along k kn e (ℕ_discrete k p);
      }
        where
          inner : (k : ℕ) → k < n → Dec (k ≡ p) → NN (swung p q k)
          inner k kn (yes e) = nn-zero (ap (swung p q) e ∙ swung_ends p q)
          inner k kn (no ne) = (b k kn (first k kn ne)).0

          along : (k : ℕ) → k < n → swung p q k ≡ pos 0 → Dec (k ≡ p) → NN (ahead p k) × NN (ahead k q)
          along k kn z (yes e) = (nn-zero (ap (ahead p) e ∙ ahead_self p), pos_nn (pos_cast (ap (λ (i : ℕ). ahead i q) (sym e)) h))
          along k kn z (no ne) = (pos_nn (first k kn ne), (b k kn (first k kn ne)).1 z)

      pub edge-turn : (o p q : ℕ) → Edge o p → q < n → Pos (ahead p q) → Pos (swung o p q)
      edge-turn o p q e qn h = pos_of_nn (swung o p q) (e.inner q qn) (λ z. not_back p q h (e.along q qn z).1)

      pub edge_behind : (o p q : ℕ) → Edge o p → q < n → Pos (ahead p q) → Best p q n → Edge p q
      edge_behind o p q e qn h b = record {
        from = e.to;
        to = qn;
        onward = h;
        inner = λ k kn. inner k kn (dec_pos (ahead p k));
        along = λ k kn z. along k kn z (dec_pos (ahead p k));
      }
        where
          t : Pos (swung o p q)
          t = edge-turn o p q e qn h

          x : (k : ℕ) → k < n → NN (swung o p k *ℤ ahead p q)
          x k kn = nn-mul (e.inner k kn) (pos_nn h)

          y : (k : ℕ) → NP (ahead p k) → NN (swung o p q *ℤ neg_ℤ (ahead p k))
          y k l = nn-mul (pos_nn t) l

          inner : (k : ℕ) → k < n → Dec (Pos (ahead p k)) → NN (swung p q k)
          inner k kn (yes f) = (b k kn f).0
          inner k kn (no f) = nn_of_mul e.onward (nn_cast (sym (carry o p q k)) (nn-add (x k kn) (y k (np_of (ahead p k) f))))

          along : (k : ℕ) → k < n → swung p q k ≡ pos 0 → Dec (Pos (ahead p k)) → NN (ahead p k) × NN (ahead k q)
          along k kn z (yes f) = (pos_nn f, (b k kn f).1 z)
          along k kn z (no f) =
              let l = np_of (ahead p k) f in
              let at = neg-zero (ahead p k) (zero_of_mul (pos-zero t) (sum_zero_r _ _ (x k kn) (y k l) (sym (carry o p q k) ∙ mul-zero (ahead o p) z))) in
              (nn-zero at, nn_cast (ahead-add k p q) (nn-add (nn_cast (ahead_back p k) l) (pos_nn h)))

      pub edge_across : (i j p q : ℕ) → Edge i j → Edge p q → Pos (ahead p i) → Pos (ahead i q) → ⊥
      edge_across i j p q e f h k =
          not_back p i h (e.along p f.from (left-zero (swung i j p) k (sum_zero_l _ _ (nn-mul (e.inner p f.from) (pos_nn k))
          (nn-add (nn-mul (e.inner q f.to) (pos_nn h)) (nn-mul (f.inner i e.from) (pos_nn e.onward))) (level i j p q)))).0

      pub edge_one : ((i j : ℕ) → i < n → j < n → ahead i j ≡ pos 0 → i ≡ j) → (p q r : ℕ) → Edge p q → Edge p r → q ≡ r
      edge_one apart p q r e f = apart q r e.to f.to (nn_np (ahead q r) (f.along q e.to (turned ∙ ap neg_ℤ flat)).1 (nn_cast (sym (ahead_back q r)) (e.along r f.to flat).1))
        where
          turned : swung p r q ≡ neg_ℤ (swung p q r)
          turned = ap (λ (z : ℤ). s *ℤ z) (turn_swap (P p) (P q) (P r)) ∙ *ℤ-neg-r s (turn_at P p q r)

          flat : swung p q r ≡ pos 0
          flat = nn_np (swung p q r) (e.inner r f.to) (nn_cast turned (f.inner q e.to))

      -- ---- sides

      module _ (sz : NZ s) where
        swung-turn : (p q k : ℕ) → swung p q k ≡ pos 0 → turn_at P p q k ≡ pos 0
        swung-turn p q k = zero_of_mul sz

        pub edge-side : ((i j : ℕ) → i < n → j < n → ahead i j ≡ pos 0 → i ≡ j) → (p q : ℕ) → Edge p q → Side n P p q
        edge-side apart p q e = record {
          border = (border_sides n P p q).1 (λ k m kn mn h. neg_nn (pos_cast (ap neg_ℤ (square-mul s (turn_at P p q k) (turn_at P p q m))) (pos_neg_mul (sides P p q k m) (square_pos s sz) h)) (nn-mul (e.inner k kn) (e.inner m mn)));
          between = λ k kn kp kq z.
              let (h, l) = e.along k kn (mul-zero s z) in
              ahead_between p q k z (pos_of_nn (ahead p k) h (λ x. kp (sym (apart p k e.from kn x)))) (pos_of_nn (ahead k q) l (λ x. kq (apart k q kn e.to x)));
        }

        pub side-edge : (p q m : ℕ) → p < n → q < n → m < n → Pos (ahead p q) → Side n P p q → Pos (swung p q m) → Edge p q
        side-edge p q m pn qn mn h side off = record {
          from = pn;
          to = qn;
          onward = h;
          inner = λ k kn. nn_of (swung p q k) (λ l. (border_sides n P p q).0 side.border m k mn kn
              (neg_of_mul (sides P p q m k) (square_pos s sz) (pos_cast (ap neg_ℤ (sym (square-mul s (turn_at P p q m) (turn_at P p q k)))) (pos_neg_mul (swung p q k) off l))));
          along = λ k kn z. along k kn (swung-turn p q k z) (ℕ_discrete k p) (ℕ_discrete k q);
        }
          where
            along : (k : ℕ) → k < n → turn_at P p q k ≡ pos 0 → Dec (k ≡ p) → Dec (k ≡ q) → NN (ahead p k) × NN (ahead k q)
            along k kn z (yes e) _ = (nn-zero (ap (ahead p) e ∙ ahead_self p), pos_nn (pos_cast (ap (λ (i : ℕ). ahead i q) (sym e)) h))
            along k kn z (no _) (yes e) = (pos_nn (pos_cast (ap (ahead p) (sym e)) h), nn-zero (ap (λ (i : ℕ). ahead i q) e ∙ ahead_self q))
            along k kn z (no kp) (no kq) = let (f, g) = ahead_inside p q k h (side.between k kn kp kq z) in (pos_nn f, pos_nn g)

  -- ---- the two sides

  module _ (s : ℤ) (sz : NZ s) (n : ℕ) where
    other : (p q k : ℕ) → swung (neg_ℤ s) p q k ≡ neg_ℤ (swung s p q k)
    other p q k = *ℤ-neg-l s (turn_at P p q k)

    pub not_both : (Collinear n P → ⊥) → (p q : ℕ) → Edge s n p q → Edge (neg_ℤ s) n p q → ⊥
    not_both bent p q e f = bent (line_through n P (P p) (P q) (λ z. pos-zero e.onward (away z)) (λ k kn. swung-turn s n sz p q k (nn_np (swung s p q k) (e.inner k kn) (nn_cast (other p q k) (f.inner k kn)))))
      where
        away : P q ≡ P p → ahead p q ≡ pos 0
        away z = ap (λ (r : Point). d.x *ℤ (r.x -ℤ (P p).x) +ℤ d.y *ℤ (r.y -ℤ (P p).y)) z ∙ ahead_self p

    pub not_through : (o p q : ℕ) → Edge (neg_ℤ s) n o p → Edge s n p q → ⊥
    not_through o p q e f =
        not_back o p e.onward (f.along o e.from (nn_np (swung s p q o) (f.inner o e.from) (nn_cast (other o p q ∙ ap (λ (z : ℤ). neg_ℤ (s *ℤ z)) (turn_cycle (P o) (P p) (P q))) (e.inner q f.to)))).0
