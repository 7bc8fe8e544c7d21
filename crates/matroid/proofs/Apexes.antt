-- What a link holds in the plane, and the members that hold the other side of a supported circuit.
--
--   link_few            a member of the link has one point at most
--   nothing_across      which points off the circuit such a member has not, by a dependency of four points
--   Ends n X s          a point of the side s, and the circuit's points besides it, two: p and q. `ends_of`: so it is where the link has single points, each an apex over p and q
--   line_flat           the circuit is then on the line of p and q
--   apex_apart          a point off the circuit of such a member is on the other side of the line from each other apex, and the member has not that apex
--   other_apex          there is a second apex, on the other side of the line, where p and q are no border pair
--   point_linked        a point off the circuit of such a member is an apex
use mathlib.Core.Path.{◌≡◌, refl, sym, ◌∙◌, ap, subst}
use mathlib.Core.Logic.{◌⊎◌, inl, inr, ⊎_elim}
use mathlib.Core.HLevel.{dec→stable}
use mathlib.Core.List.{List, [], ◌∷◌}
use Prim.Native.Nat.{ℕ, suc, ◌<◌}
use native.Mathlib.Omega.{arith}
use native.Mathlib.Decide.{ℕ_discrete}
use lib.IntN.{ℤ, pos, neg_ℤ}
use lib.ListN.{length}
use Rattle.algebra.specs.Answer.{Reflects}
use Rattle.algebra.specs.Sets.{is_on, On}
use Rattle.algebra.specs.Sign.{Side, Sign, nought, Pos, Neg, NZ}
use Rattle.algebra.proofs.AnswerLaws.{reflects_yes, reflects_true}
use Rattle.algebra.proofs.UnionLaws.{on_pair, dropped-length}
use Rattle.algebra.proofs.SetTests.{mem_on, on_low, on_head, dropped_within}
use Rattle.algebra.proofs.SignLaws.{dec_pos, pos_cast, pos_nn, pos-zero, neg_nn, two_alike, zero_if}
use Rattle.matroid.specs.Points.{Points, plane, Distinct}
use Rattle.matroid.specs.Circuits.{SignVector, Circuit}
use Rattle.matroid.specs.Triangulations.{Family, Face, Border, Triangulation}
use Rattle.matroid.specs.Flips.{Piece, Joins, Supports}
use Rattle.matroid.proofs.Dependent.{somewhere_nowhere}
use Rattle.matroid.proofs.CircuitLaws.{support, support_within, on_support, support_off}
use Rattle.matroid.proofs.TriangulationLaws.{face_drops}
use Rattle.matroid.proofs.Turns.{turn_last, turn_ends}
use Rattle.matroid.proofs.Edges.{face_is}
use Rattle.matroid.proofs.Planar.{three_nowhere, support-three}
use Rattle.matroid.proofs.Sides.{turn_at, sides, across, across_dependency, across_each, across-first, across_second}
use Rattle.matroid.proofs.Borders.{border_sides, simplex_turns}
use Rattle.matroid.proofs.FlipLaws.{piece_of, piece_on, piece-of, Linked, Holds, side-nought, some-side, star_holds, dropped-joins}
use Rattle.matroid.proofs.FlipSets.{joined, on-joined, linked_off, joins_known, joined_old, link-length}
use Rattle.matroid.proofs.Pushing.{nothing_off}

pub record Ends (n : ℕ) (X : SignVector) (s : Sign) : Type 0 where
  pub lacks : ℕ
  pub lacks_low : lacks < n
  pub side : X lacks ≡ s
  pub p : ℕ
  pub q : ℕ
  pub order : p < q
  pub low : q < n
  pub is : piece_of n X lacks ≡ p ∷ q ∷ []

module _ {n : ℕ} {P : Points} {T : Family} {X : SignVector} {s : Sign} (ds : Distinct n P) (g : Triangulation n (plane P) T) (z : Circuit n (plane P) X) (d : Side s) (h : Supports n T X s) where
  pub link_few : (k k' : ℕ) (c : List ℕ) → Linked n T X s (k ∷ k' ∷ c) → ⊥
  link_few k k' c l = omega (arith, support-three n P ds X z, link-length g z d h (k ∷ k' ∷ c) l)

  -- x would be where the dependency across p and q is negative
  pub nothing_across : (t : List ℕ) → T t → Holds n X s t → (c : List ℕ) → Linked n T X s c → (p q k : ℕ) → p < n → q < n → k < n → (X p ≡ nought → ⊥) → (X q ≡ nought → ⊥) → NZ (turn_at P p q k)
      → (X k ≡ nought → On c k) → (x : ℕ) → On t x → X x ≡ nought → (x ≡ k → ⊥) → (X k ≡ nought → Neg (sides P p q k x) → On t k) → ⊥
  nothing_across t m holds c l p q k pn qn kn zp zq off in_c x o xo xk in_t =
      pos-zero at_x (ap neg_ℤ (nothing_off z d g h t m holds c l f (across_dependency P p q k x n pn qn kn xn) (λ i _ io y. into_c i (λ v. pos-zero y v) io y) (λ i _ io y. into_t i (λ v. pos-zero y (ap neg_ℤ v)) io y) x xn xo))
    where
      f : ℕ → ℤ
      f = across P p q k x

      xn : x < n
      xn = (on_low t 0 n x (g.simplices t m).within o).1

      at_x : Neg (f x)
      at_x = across_second P p q k x off xk (λ e. zp (ap X (sym e) ∙ xo)) (λ e. zq (ap X (sym e) ∙ xo))

      into_c : (i : ℕ) → NZ (f i) → X i ≡ nought → Pos (f i) → On c i
      into_c = across_each P p q k x (λ i. X i ≡ nought → Pos (f i) → On c i) (λ ko _. in_c ko) (λ _ y. neg_nn at_x (pos_nn y)) (λ po _. absurd (zp po)) (λ qo _. absurd (zq qo))

      into_t : (i : ℕ) → NZ (f i) → X i ≡ nought → Neg (f i) → On t i
      into_t = across_each P p q k x (λ i. X i ≡ nought → Neg (f i) → On t i) (λ ko y. in_t ko (pos_cast (ap neg_ℤ (across-first P p q k x off xk)) y)) (λ _ _. o) (λ po _. absurd (zp po)) (λ qo _. absurd (zq qo))

  -- ---- single points in the link

  pub ends_of : (k : ℕ) → Linked n T X s (k ∷ []) → Ends n X s
  ends_of k l =
      let (v, vl, e) = some-side z s d in
      let size = dropped-length n v (support n X) (support_within n X) (reflects_true (on_support n X v) (vl, side-nought d e)) in
      let (p, q, pq, qn, is) = face_is n P (piece_of n X v) (piece_of n X v) (dropped_within n v (support n X), omega (arith, size, link-length g z d h (k ∷ []) l), λ i o. o) in
      record { lacks = v; lacks_low = vl; side = e; p = p; q = q; order = pq; low = qn; is = is }

  module _ (L : Ends n X s) where
    abbrev τ : ℕ → ℤ
    τ i = turn_at P L.p L.q i

    abbrev ends : List ℕ
    ends = piece_of n X L.lacks

    on_ends : (i : ℕ) → Reflects ((i ≡ L.p) ⊎ (i ≡ L.q)) (is_on i ends)
    on_ends i = rw L.is (on_pair L.p L.q i)

    pn : L.p < n
    pn = omega (arith, L.order, L.low)

    on_p : On ends L.p
    on_p = reflects_true (on_ends L.p) (inl refl)

    on_q : On ends L.q
    on_q = reflects_true (on_ends L.q) (inr refl)

    zp : X L.p ≡ nought → ⊥
    zp = ((piece_on n X L.lacks L.p pn).0 on_p).0

    zq : X L.q ≡ nought → ⊥
    zq = ((piece_on n X L.lacks L.q L.low).0 on_q).0

    -- the circuit's dependency lives on the three points
    pub line_flat : (i : ℕ) → i < n → (X i ≡ nought → ⊥) → τ i ≡ pos 0
    line_flat i il nz = at (ℕ_discrete i L.lacks)
      where
        off : (m : ℕ) → m < n → (m ≡ L.p → ⊥) → (m ≡ L.q → ⊥) → (m ≡ L.lacks → ⊥) → z.by m ≡ pos 0
        off m ml mp mq mv = support_off z m ml (λ k. ⊎_elim mp mq (reflects_yes (on_ends m) ((piece_on n X L.lacks m ml).1 ((reflects_yes (on_support n X m) ((mem_on m (support n X)).0 k)).1, mv))))

        at : Dec (i ≡ L.lacks) → τ i ≡ pos 0
        at (yes e) = ap τ e ∙ zero_if (τ L.lacks) (λ t. somewhere_nowhere z.somewhere (three_nowhere n P z.by z.dependency L.p L.q L.lacks t off))
        at (no ne) = ⊎_elim (λ e. ap τ e ∙ turn_ends (P L.p) (P L.q)) (λ e. ap τ e ∙ turn_last (P L.p) (P L.q)) (reflects_yes (on_ends i) ((piece_on n X L.lacks i il).1 (nz, ne)))

    module _ (k : ℕ) (l : Linked n T X s (k ∷ [])) where
      kn : k < n
      kn = l.2.0.1

      apex_off : X k ≡ nought
      apex_off = linked_off g z (k ∷ []) l k kn (on_head k [])

      -- the member over p and q with this apex
      abbrev over : List ℕ
      over = joined n X L.lacks (k ∷ [])

      over_old : T over
      over_old = joined_old g z d h L.lacks L.lacks_low L.side (k ∷ []) l

      over_ends : (i : ℕ) → On ends i → On over i
      over_ends i y =
          let il = (on_low ends 0 n i (dropped_within n L.lacks (support n X)) y).1 in
          let (nz, ne) = (piece_on n X L.lacks i il).0 y in
          (on-joined n X L.lacks (k ∷ []) l.2.0 i il).1 (λ e. absurd (nz e), ne)

      over_apex : On over k
      over_apex = (on-joined n X L.lacks (k ∷ []) l.2.0 k kn).1 (λ _. on_head k [], λ e. side-nought d L.side (ap X (sym e) ∙ apex_off))

      apex_turns : NZ (τ k)
      apex_turns = simplex_turns n P over (g.simplices over over_old) L.p L.q k (λ e. omega (arith, L.order)) (λ e. zp (ap X e ∙ apex_off)) (λ e. zq (ap X e ∙ apex_off))
          (over_ends L.p on_p) (over_ends L.q on_q) over_apex

      module _ (t : List ℕ) (m : T t) (holds : Holds n X s t) (x : ℕ) (o : On t x) (xo : X x ≡ nought) (xk : x ≡ k → ⊥) where
        pub apex_apart : (Neg (sides P L.p L.q k x) → On t k) → ⊥
        apex_apart in_t = nothing_across t m holds (k ∷ []) l L.p L.q k pn L.low kn zp zq apex_turns (λ _. on_head k []) x o xo xk (λ _. in_t)

        -- its other point is on the other side of the line
        apex-opposite : Neg (sides P L.p L.q k x)
        apex-opposite = dec→stable (dec_pos (neg_ℤ (sides P L.p L.q k x))) (λ f. apex_apart (λ y. absurd (f y)))

    pub other_apex : (k : ℕ) → Linked n T X s (k ∷ []) → Border n (plane P) ends ⊎ ((x : ℕ) × Linked n T X s (x ∷ []) × (x ≡ k → ⊥) × Neg (sides P L.p L.q k x))
    other_apex k l = ⊎_elim inl (λ (t, m, ne, e). inr (second t m ne e)) (g.up (over k l) (over_old k l) ends (dropped_within n L.lacks (support n X), ap (λ (u : List ℕ). suc (length u)) L.is, over_ends k l))
      where
        piece : Piece n X s ends
        piece = piece-of n X s L.lacks L.lacks_low L.side

        second : (t : List ℕ) → T t → (t ≡ over k l → ⊥) → Face n (plane P) ends t → (x : ℕ) × Linked n T X s (x ∷ []) × (x ≡ k → ⊥) × Neg (sides P L.p L.q k x)
        second t m ne e =
            let w = (g.simplices t m).within in
            let (x, on, y) = face_drops n (plane P) ends t w (g.simplices t m).size e in
            let joins : Joins ends (x ∷ []) t = subst (λ (b : List ℕ). Joins b (x ∷ []) t) (sym y) (dropped-joins n x t w on) in
            let linked : Linked n T X s (x ∷ []) = (ends, piece, ((omega arith, (on_low t 0 n x w on).1, tt), (t, m, joins))) in
            let xk : x ≡ k → ⊥ = λ e. ne (joins_known g z d ends (x ∷ []) t piece linked w joins ∙ ap (λ i. joined n X L.lacks (i ∷ [])) e) in
            (x, linked, xk, apex-opposite k l t m (star_holds n X d t (w, (ends, x ∷ [], ends, piece, linked.2, piece, joins))) x on (apex_off x linked) xk)

    pub point_linked : (k : ℕ) → Linked n T X s (k ∷ []) → (t : List ℕ) → T t → Holds n X s t → (x : ℕ) → On t x → X x ≡ nought → Linked n T X s (x ∷ [])
    point_linked k l t m holds x o xo = at (ℕ_discrete x k)
      where
        same : (i : ℕ) → Linked n T X s (i ∷ []) → x ≡ i → Linked n T X s (x ∷ [])
        same i l e = subst (λ (j : ℕ). Linked n T X s (j ∷ [])) (sym e) l

        at : Dec (x ≡ k) → Linked n T X s (x ∷ [])
        at (yes e) = same k l e
        at (no xk) = ⊎_elim (λ b. absurd ((border_sides n P L.p L.q).0 (subst (Border n (plane P)) L.is b) k x (kn k l) (on_low t 0 n x (g.simplices t m).within o).1 opposed))
            (λ (i, li, _, w). second i li w (ℕ_discrete x i)) (other_apex k l)
          where
            opposed : Neg (sides P L.p L.q k x)
            opposed = apex-opposite k l t m holds x o xo xk

            -- three points are not on three sides
            second : (i : ℕ) → Linked n T X s (i ∷ []) → Neg (sides P L.p L.q k i) → Dec (x ≡ i) → Linked n T X s (x ∷ [])
            second i li w (yes e) = same i li e
            second i li w (no xi) = two_alike (τ k) (τ i) (τ x) w opposed (apex-opposite i li t m holds x o xo xi)
