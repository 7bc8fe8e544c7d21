-- Sides of points in the plane. An edge of a triangle may be half a side (document 02, E1); a border pair is always on exactly one.
--
--   side_turned           a side, the other way round
--   border_on_one_side    a border pair of different points is on exactly one side
use mathlib.Core.Path.{◌≡◌, refl, sym, ◌∙◌, ap}
use mathlib.Core.Logic.{◌⊎◌, inl, inr, ⊎_elim}
use mathlib.Core.List.{[], ◌∷◌}
use Prim.Native.Nat.{ℕ, ◌<◌}
use native.Mathlib.Omega.{arith}
use native.Mathlib.Decide.{ℕ_discrete, dec_lt}
use lib.IntN.{ℤ, pos, neg_ℤ, ◌+ℤ◌, ◌-ℤ◌, ◌*ℤ◌, +ℤ_idr, +ℤ_invr, ℤ_discrete}
use Rattle.algebra.specs.Sign.{Pos, Neg, NN, NZ}
use Rattle.algebra.proofs.Ring.{cst, var, ◌⊕◌, ◌⊝◌, ◌⊗◌, neg, ring}
use Rattle.algebra.proofs.SignLaws.{pos_cast, nn_cast, pos-mul, neg_pos_mul, nn-add, pos_nn_add, pos_nn, pos_of_nn, pos-add, pos-zero, neg_nn, pos_of_mul, neg_of_mul, zero_of_mul, mul-zero, both_zero}
use Rattle.matroid.specs.Borders.{Aligned, Side, OnSide}
use Rattle.matroid.specs.Points.{Points, plane, Between, Distinct, dot}
use Rattle.matroid.specs.Triangulations.{Border}
use Rattle.matroid.proofs.Borders.{far, turn_along, border-along}
use Rattle.matroid.proofs.Lines.{between_iff, between_turned}
use Rattle.matroid.proofs.Planar.{points_differ}
use Rattle.matroid.proofs.Search.{Min, minimum}
use Rattle.matroid.proofs.Sides.{turn_at}
use Rattle.matroid.proofs.Turns.{coordinates, D, O, turn_cycle, turn_swap_first, turn_last, turn_ends, dot-zero, dot_pos}

module _ (n : ℕ) (P : Points) (ds : Distinct n P) where
  differ : (a b : ℕ) → a < n → b < n → (a ≡ b → ⊥) → P a ≡ P b → ⊥
  differ = points_differ ds

  pub side_turned : (i j : ℕ) → i < n → j < n → (i ≡ j → ⊥) → Side n P i j → Side n P j i
  side_turned i j il jl ij s = record {
    border = border-along n P i j j i (λ e. differ i j il jl ij (sym e)) (turn_last (P i) (P j)) (turn_ends (P i) (P j)) s.border;
    between = λ k kn kj ki z. between_turned (P k) (P i) (P j) (s.between k kn ki kj (turn_swap_first (P j) (P i) (P k) ∙ ap neg_ℤ z));
  }

  -- ---- the line of a pair

  module _ (p q : ℕ) (pn : p < n) (qn : q < n) (pq : p ≡ q → ⊥) where
    abbrev On : ℕ → Type 0
    On = Aligned P p q

    abbrev way : ℕ → ℤ
    way = far P p q

    long : Pos (way q)
    long = dot_pos (P p) (P q) (λ e. differ p q pn qn pq (sym e))

    not-nought : NZ (way q)
    not-nought = pos-zero long

    -- three points of the line are on a line
    flat : (a b c : ℕ) → On a → On b → On c → Aligned P a b c
    flat a b c ea eb ec = zero_of_mul not-nought (turn_along P p q a b c ea eb ∙ mul-zero (way b -ℤ way a) ec)

    -- a scalar product by how far its points are along the line
    ways : (m a b : ℕ) → On m → On a → On b → way q *ℤ dot (P m) (P a) (P b) ≡ (way a -ℤ way m) *ℤ (way b -ℤ way m)
    ways m a b em ea eb =
        ring (coordinates (P p ∷ P q ∷ P m ∷ P a ∷ P b ∷ [])) (O 0 1 1 ⊗ O 2 3 4)
        ((O 0 3 1 ⊝ O 0 2 1) ⊗ (O 0 4 1 ⊝ O 0 2 1) ⊕ ((D 0 1 4 ⊝ D 0 1 2) ⊗ D 0 1 3 ⊕ neg (D 0 1 4 ⊝ D 0 1 2) ⊗ D 0 1 2)) tt
        ∙ ap (λ z. (way a -ℤ way m) *ℤ (way b -ℤ way m) +ℤ z) (both_zero (turn_at P p q b -ℤ turn_at P p q m) (neg_ℤ (turn_at P p q b -ℤ turn_at P p q m)) ea em) ∙ +ℤ_idr _

    -- two points of the line are not equally far along it
    apart : (a b : ℕ) → a < n → b < n → (a ≡ b → ⊥) → On a → On b → NZ (way b -ℤ way a)
    apart a b an bn ab ea eb z = differ a b an bn ab (sym (dot-zero (P a) (P b) (zero_of_mul not-nought (ways a b b ea eb eb ∙ mul-zero (way b -ℤ way a) z))))

    -- ---- the two ends: the point of the line that is least far along it, and the one that is farthest

    abbrev End : (ℕ → ℤ) → Type 0
    End f = Min f (λ _. pos 1) On n

    end : (f : ℕ → ℤ) → End f
    end f = ⊎_elim (λ e. e) (λ none. absurd (none p pn (turn_ends (P p) (P q)))) (minimum f (λ _. pos 1) On (λ m. ℤ_discrete (turn_at P p q m) (pos 0)) (λ _ _. record { by = 0; is = refl }) n)

    i : ℕ
    i = (end way).at

    j : ℕ
    j = (end (λ m. neg_ℤ (way m))).at

    from_first : (m : ℕ) → m < n → On m → NN (way m -ℤ way i)
    unfolding i
    from_first m mn e = nn_cast (ring (way m ∷ way i ∷ []) (var 0 ⊗ cst (pos 1) ⊝ var 1 ⊗ cst (pos 1)) (var 0 ⊝ var 1) tt) ((end way).least_of m mn e)

    to_last : (m : ℕ) → m < n → On m → NN (way j -ℤ way m)
    unfolding j
    to_last m mn e = nn_cast (ring (way m ∷ way j ∷ []) (neg (var 0) ⊗ cst (pos 1) ⊝ neg (var 1) ⊗ cst (pos 1)) (var 1 ⊝ var 0) tt) ((end (λ k. neg_ℤ (way k))).least_of m mn e)

    wide : Pos (way j -ℤ way i)
    wide = pos_cast (ring (way j ∷ way q ∷ way p ∷ way i ∷ []) (var 1 ⊝ var 2 ⊕ (var 0 ⊝ var 1 ⊕ (var 2 ⊝ var 3))) (var 0 ⊝ var 3) tt)
        (pos_nn_add (pos_cast (ring (coordinates (P p ∷ P q ∷ [])) (O 0 1 1) (O 0 1 1 ⊝ O 0 0 1) tt) long) (nn-add (to_last q qn (turn_last (P p) (P q))) (from_first p pn (turn_ends (P p) (P q)))))

    il : i < n
    unfolding i
    il = (end way).low

    jl : j < n
    unfolding j
    jl = (end (λ m. neg_ℤ (way m))).low

    ei : On i
    unfolding i
    ei = (end way).is

    ej : On j
    unfolding j
    ej = (end (λ m. neg_ℤ (way m))).is

    ij : i ≡ j → ⊥
    ij e = pos-zero wide (ap (λ k. way j -ℤ way k) e ∙ +ℤ_invr (way j))

    inside : (k : ℕ) → k < n → (k ≡ i → ⊥) → (k ≡ j → ⊥) → Aligned P i j k → Between (P k) (P i) (P j)
    inside k kn ki kj z = (between_iff (P k) (P i) (P j) (turn_cycle (P k) (P i) (P j) ∙ z) (differ k j kn jl kj)).0
        (neg_of_mul (dot (P k) (P i) (P j)) long (pos_cast (ap neg_ℤ (sym (ways k i j ek ei ej))) (neg_pos_mul (way i -ℤ way k) before after)))
      where
        ek : On k
        ek = zero_of_mul (λ e. pos-zero wide e) (sym (turn_along P p q i j k ei ej) ∙ mul-zero (way q) z)

        before : Neg (way i -ℤ way k)
        before = pos_cast (ring (way k ∷ way i ∷ []) (var 0 ⊝ var 1) (neg (var 1 ⊝ var 0)) tt) (pos_of_nn (way k -ℤ way i) (from_first k kn ek) (apart i k il kn (λ e. ki (sym e)) ei ek))

        after : Pos (way j -ℤ way k)
        after = pos_of_nn (way j -ℤ way k) (to_last k kn ek) (apart k j kn jl kj ek ej)

    side-along : Border n (plane P) (p ∷ q ∷ []) → (i : ℕ) × (j : ℕ) × OnSide n P p q i j
    side-along b = go (dec_lt i j)
      where
        side : Side n P i j
        side = record { border = border-along n P p q i j (λ e. differ p q pn qn pq (sym e)) ei ej b; between = inside }

        ep : On p
        ep = turn_ends (P p) (P q)

        eq : On q
        eq = turn_last (P p) (P q)

        go : Dec (i < j) → (i : ℕ) × (j : ℕ) × OnSide n P p q i j
        go (yes l) = (i, j, record { ordered = l; low = jl; side = side; first = flat i j p ei ej ep; second = flat i j q ei ej eq })
        go (no l) = (j, i, record { ordered = omega (arith, ij); low = il; side = side_turned i j il jl ij side; first = flat j i p ej ei ep; second = flat j i q ej ei eq })

  -- ---- two sides on one line

  module _ (i j : ℕ) (il : i < n) (jl : j < n) (ij : i ≡ j → ⊥) (s : Side n P i j) where
    module _ (i' j' : ℕ) (il' : i' < n) (jl' : j' < n) (ij' : i' ≡ j' → ⊥) (s' : Side n P i' j') (ei : Aligned P i j i') (ej : Aligned P i j j') where
      -- the other points of the line are all on the side of j' from i'
      toward : (m : ℕ) → m < n → (m ≡ i' → ⊥) → Aligned P i j m → Pos (dot (P i') (P m) (P j'))
      toward m mn mi em = go (ℕ_discrete m j')
        where
          z : Aligned P i' j' m
          z = flat i j il jl ij i' j' m ei ej em

          go : Dec (m ≡ j') → Pos (dot (P i') (P m) (P j'))
          go (yes e) = pos_cast (ap (λ k. dot (P i') (P k) (P j')) (sym e)) (dot_pos (P i') (P j') (λ q. differ i' j' il' jl' ij' (sym q)))
          go (no mj) = pos_cast (ring (coordinates (P i' ∷ P m ∷ P j' ∷ [])) (O 0 1 1 ⊕ neg (O 1 0 2)) (O 0 1 2) tt) (pos-add (dot_pos (P i') (P m) (differ m i' mn il' mi)) inside)
            where
              inside : Neg (dot (P m) (P i') (P j'))
              inside = (between_iff (P m) (P i') (P j') (turn_cycle (P m) (P i') (P j') ∙ z) (differ m j' mn jl' mj)).1 (s'.between m mn mi mj z)

      -- so i' is not between i and j
      end_of : (i' ≡ i) ⊎ (i' ≡ j)
      end_of = go (ℕ_discrete i' i) (ℕ_discrete i' j)
        where
          oi : Aligned P i j i
          oi = turn_ends (P i) (P j)

          oj : Aligned P i j j
          oj = turn_last (P i) (P j)

          on : (m : ℕ) → Aligned P i j m → Aligned P i' j' m
          on m em = flat i j il jl ij i' j' m ei ej em

          -- how far along i' j' from i'
          from : (m : ℕ) → m < n → (i' ≡ m → ⊥) → Aligned P i j m → Pos (far P i' j' m -ℤ far P i' j' i')
          from m mn im em = pos_cast (ring (coordinates (P i' ∷ P j' ∷ P m ∷ [])) (O 0 2 1) (O 0 2 1 ⊝ O 0 0 1) tt) (toward m mn (λ e. im (sym e)) em)

          go : Dec (i' ≡ i) → Dec (i' ≡ j) → (i' ≡ i) ⊎ (i' ≡ j)
          go (yes e) _ = inl e
          go (no _) (yes e) = inr e
          go (no ni) (no nj) = neg_nn
              ((between_iff (P i') (P i) (P j) (turn_cycle (P i') (P i) (P j) ∙ ei) (differ i' j il' jl nj)).1 (s.between i' il' ni nj ei))
              (pos_nn (pos_of_mul (long i' j' il' jl' ij') (pos_cast (sym (ways i' j' il' jl' ij' i' i j (on i' ei) (on i oi) (on j oj))) (pos-mul (from i il ni oi) (from j jl nj oj)))))

  side-only : (i j i' j' : ℕ) → i < j → j < n → i' < j' → j' < n → Side n P i j → Side n P i' j' → Aligned P i j i' → Aligned P i j j' → (i' ≡ i) × (j' ≡ j)
  side-only i j i' j' l jl l' jl' s s' ei ej =
      let end = end_of i j (omega arith) jl (omega arith) s in
      go (end i' j' (omega arith) jl' (omega arith) s' ei ej) (end j' i' jl' (omega arith) (omega arith) (side_turned i' j' (omega arith) jl' (omega arith) s') ej ei)
    where
      go : (i' ≡ i) ⊎ (i' ≡ j) → (j' ≡ i) ⊎ (j' ≡ j) → (i' ≡ i) × (j' ≡ j)
      go (inl e) (inl f) = absurd (omega arith)
      go (inl e) (inr f) = (e, f)
      go (inr e) (inl f) = absurd (omega arith)
      go (inr e) (inr f) = absurd (omega arith)

  -- ---- both

  pub border_on_one_side : (p q : ℕ) → p < n → q < n → (p ≡ q → ⊥) → Border n (plane P) (p ∷ q ∷ [])
      → (i : ℕ) × (j : ℕ) × OnSide n P p q i j × ((i' j' : ℕ) → OnSide n P p q i' j' → (i' ≡ i) × (j' ≡ j))
  border_on_one_side p q pn qn pq b =
      let (i, j, s) = side-along p q pn qn pq b in
      (i, j, s, λ i' j' s'. side-only i j i' j' s.ordered s.low s'.ordered s'.low s.side s'.side (one i j i' j' s s' i' (turn_ends (P i') (P j'))) (one i j i' j' s s' j' (turn_last (P i') (P j'))))
    where
      -- the line of a side that p and q are on is theirs
      out : (i j : ℕ) → OnSide n P p q i j → (m : ℕ) → Aligned P i j m → Aligned P p q m
      out i j s m e = let l = s.ordered in let k = s.low in flat i j (omega arith) k (omega arith) p q m s.first s.second e

      one : (i j i' j' : ℕ) → OnSide n P p q i j → OnSide n P p q i' j' → (m : ℕ) → Aligned P i' j' m → Aligned P i j m
      one i j i' j' s s' m e = flat p q pn qn pq i j m (out i j s i (turn_ends (P i) (P j))) (out i j s j (turn_last (P i) (P j))) (out i' j' s' m e)
