-- A corner of an outline, and two triples on one side of an edge.
--
--   outline_corner    at a the outline has the edges to b and to b', with third points v and v'. A point m sees the edge to b and not the one to b': then x, which is on
--                     the inner side of both, is on the inner side of the new edge from m to a
--   same-side         two third points of a and b on one side: the two triples are separated
use mathlib.Core.Path.{◌≡◌, refl, sym, ◌∙◌, ap}
use mathlib.Core.Logic.{inl, inr}
use mathlib.Core.List.{List, [], ◌∷◌}
use Prim.Native.Nat.{ℕ, ◌<◌}
use lib.IntN.{ℤ, pos, neg_ℤ, ◌+ℤ◌, ◌-ℤ◌, ◌*ℤ◌, *ℤ_comm, +ℤ_idr, ℤ_discrete}
use Rattle.algebra.specs.Sign.{Pos, NN, Neg, NZ}
use Rattle.algebra.proofs.IntLaws.{*ℤ-neg-r}
use Rattle.algebra.proofs.Ring.{var, ◌⊕◌, ◌⊝◌, ◌⊗◌, neg, ring}
use Rattle.algebra.proofs.SignLaws.{pos_cast, nn_cast, nn-mul, nn-add, pos_nn, pos-zero, neg_nn, nn_of_mul, zero_of_mul, mul-zero, zero-mul, nn-shared, square_nn, square_pos, square-mul, factor_l}
use Rattle.algebra.proofs.TrioLaws.{Among}
use Rattle.matroid.specs.Points.{Point, Points, plane, turn, dot}
use Rattle.matroid.specs.Dependencies.{Separated}
use Rattle.matroid.proofs.Turns.{coordinates, D, O, turn_swap, turn-first, dot-zero}
use Rattle.matroid.proofs.Sides.{turn_at, sides, sides_first, sides_second, across, across_dependency, across_each, across-first, across_second}

module _ (P : Points) where
  -- ---- the corner

  module _ (a b b' v v' m x : ℕ) (seen : Neg (sides P a b v m)) (inner-b' : NN (sides P a b v b')) (inner-v' : NN (sides P a b v v')) (inner-x : NN (sides P a b v x))
      (full : NZ (turn_at P a b' v')) (unseen : NN (sides P a b' v' m)) (inner'-b : NN (sides P a b' v' b)) (inner'-x : NN (sides P a b' v' x)) where
    off : NZ (turn_at P a b v)
    off = factor_l (turn_at P a b v) (turn_at P a b m) seen

    -- a, b and b' are not on a line
    turning : NZ (turn_at P a b' b) → NN (sides P m a b x)
    turning nz = nn-shared u (turn_at P m a b) (turn_at P m a x) nz near far
      where
        u : ℤ
        u = turn_at P a b' b

        ρ : List ℤ
        ρ = coordinates (P a ∷ P b ∷ P b' ∷ P m ∷ P x ∷ [])

        near : NN (u *ℤ turn_at P m a b)
        near = nn_cast (ring ρ (D 0 1 2 ⊗ neg (D 0 1 3)) (D 0 2 1 ⊗ D 3 0 1) tt)
            (nn-shared (turn_at P a b v) (turn_at P a b b') (neg_ℤ (turn_at P a b m)) off inner-b' (nn_cast (sym (*ℤ-neg-r (turn_at P a b v) (turn_at P a b m))) (pos_nn seen)))

        from_x : NN (turn_at P a b b' *ℤ turn_at P a b x)
        from_x = nn-shared (turn_at P a b v) (turn_at P a b b') (turn_at P a b x) off inner-b' inner-x

        to : (y : ℕ) → NN (sides P a b' v' y) → NN (u *ℤ turn_at P a b' y)
        to y = nn-shared (turn_at P a b' v') u (turn_at P a b' y) full inner'-b

        -- the relation of four directions at a
        relation : turn_at P m a b *ℤ turn_at P a b' x -ℤ turn_at P a b x *ℤ turn_at P a b' m ≡ u *ℤ turn_at P m a x
        relation = ring ρ (D 3 0 1 ⊗ D 0 2 4 ⊝ D 0 1 4 ⊗ D 0 2 3) (D 0 2 1 ⊗ D 3 0 4) tt

        is : u *ℤ turn_at P m a b *ℤ (u *ℤ turn_at P a b' x) +ℤ turn_at P a b b' *ℤ turn_at P a b x *ℤ (u *ℤ turn_at P a b' m) ≡ u *ℤ u *ℤ (u *ℤ turn_at P m a x)
        is = ap (λ (t : ℤ). u *ℤ turn_at P m a b *ℤ (u *ℤ turn_at P a b' x) +ℤ t *ℤ turn_at P a b x *ℤ (u *ℤ turn_at P a b' m)) (turn_swap (P a) (P b') (P b))
            ∙ ring (u ∷ turn_at P m a b ∷ turn_at P a b x ∷ turn_at P a b' m ∷ turn_at P a b' x ∷ [])
            (var 0 ⊗ var 1 ⊗ (var 0 ⊗ var 4) ⊕ neg (var 0) ⊗ var 2 ⊗ (var 0 ⊗ var 3)) (var 0 ⊗ var 0 ⊗ (var 1 ⊗ var 4 ⊝ var 2 ⊗ var 3)) tt
            ∙ ap (λ (t : ℤ). u *ℤ u *ℤ t) relation

        far : NN (u *ℤ turn_at P m a x)
        far = nn_of_mul (square_pos u nz) (nn_cast is (nn-add (nn-mul near (to x inner'-x)) (nn-mul from_x (to m unseen))))

    -- they are on a line: m sees both edges or none
    straight : turn_at P a b' b ≡ pos 0 → ⊥
    straight e = neg_nn seen (nn-shared (turn_at P a b v') (turn_at P a b v) (turn_at P a b m) v'-off (nn_cast (*ℤ_comm (turn_at P a b v) (turn_at P a b v')) inner-v')
        (nn_of_mul (square_pos d d_off) (nn_cast same (nn-mul (square_nn l) unseen))))
      where
        l : ℤ
        l = dot (P a) (P b) (P b)

        d : ℤ
        d = dot (P a) (P b) (P b')

        -- the turns to b' are those to b, scaled
        scaled : (y : ℕ) → l *ℤ turn_at P a b' y ≡ d *ℤ turn_at P a b y
        scaled y = ring (coordinates (P a ∷ P b ∷ P b' ∷ P y ∷ [])) (O 0 1 1 ⊗ D 0 2 3) (O 0 1 2 ⊗ D 0 1 3 ⊕ O 0 1 3 ⊗ D 0 2 1) tt
            ∙ ap (λ (z : ℤ). d *ℤ turn_at P a b y +ℤ z) (mul-zero (dot (P a) (P b) (P y)) e) ∙ +ℤ_idr (d *ℤ turn_at P a b y)

        l_off : NZ l
        l_off z = off (ap (λ (p : Point). turn (P a) p (P v)) (dot-zero (P a) (P b) z) ∙ turn-first (P a) (P v))

        v'-off : NZ (turn_at P a b v')
        v'-off z = full (zero_of_mul l_off (scaled v' ∙ mul-zero d z))

        d_off : NZ d
        d_off z = full (zero_of_mul l_off (scaled v' ∙ zero-mul (turn_at P a b v') z))

        same : l *ℤ l *ℤ sides P a b' v' m ≡ d *ℤ d *ℤ sides P a b v' m
        same = square-mul l (turn_at P a b' v') (turn_at P a b' m) ∙ (λ k. scaled v' k *ℤ scaled m k) ∙ sym (square-mul d (turn_at P a b v') (turn_at P a b m))

    pub outline_corner : NN (sides P m a b x)
    outline_corner = go (ℤ_discrete (turn_at P a b' b) (pos 0))
      where
        go : Dec (turn_at P a b' b ≡ pos 0) → NN (sides P m a b x)
        go (yes e) = absurd (straight e)
        go (no nz) = turning nz

  -- ---- two triples on one side

  pub same-side : (n a b c d : ℕ) → a < n → b < n → c < n → d < n → (d ≡ c → ⊥) → Pos (sides P a b c d) → Separated n (plane P) (Among a b c) (Among a b d)
  same-side n a b c d an bn cn dn ne p = record {
    by = across P a b c d;
    dependency = across_dependency P a b c d n an bn cn dn;
    somewhere = record { at = c; low = cn; so = λ z. pos-zero at_c z };
    left = λ i _ h. across_each P a b c d (λ k. Pos (across P a b c d k) → Among a b c k) (λ _. inr (inr refl)) (λ k. neg_nn at_d (pos_nn k)) (λ _. inl refl) (λ _. inr (inl refl)) i (λ z. pos-zero h z) h;
    right = λ i _ h. across_each P a b c d (λ k. Neg (across P a b c d k) → Among a b d k) (λ k. neg_nn k (pos_nn at_c)) (λ _. inr (inr refl)) (λ _. inl refl) (λ _. inr (inl refl)) i (λ z. pos-zero h (ap neg_ℤ z)) h;
  }
    where
      off : NZ (turn_at P a b c)
      off z = pos-zero p (zero-mul (turn_at P a b d) z)

      at_c : Pos (across P a b c d c)
      at_c = pos_cast (sym (across-first P a b c d off ne)) p

      at_d : Neg (across P a b c d d)
      at_d = across_second P a b c d off ne (λ e. pos-zero p (sides_first P a b c d e)) (λ e. pos-zero p (sides_second P a b c d e))
