-- Every dependency of points that span their space has a circuit inside it, sign by sign.
--
--   Fits u v             u has not the opposite sign of v, and is 0 where v is
--   mixed a b u v        the combination of u and v whose weights take a and b to 0
--   Opposed f g n        of the places where f and g have opposite signs one at which - f / g is least
--   Conforming n P f     a part whose signs are a circuit, and that fits f at every place
--
-- Main theorem: `circuit_inside`.
use mathlib.Core.Path.{◌≡◌, sym, ◌∙◌, ap}
use mathlib.Core.Logic.{◌⊎◌, inl, inr}
use mathlib.Core.List.{[], ◌∷◌}
use Prim.Native.Nat.{ℕ, zero, suc, ◌<◌}
use native.Mathlib.Omega.{arith}
use native.Mathlib.Nat.{not-suc-le-zero}
use lib.IntN.{ℤ, pos, neg_ℤ, ◌+ℤ◌, ◌-ℤ◌, ◌*ℤ◌, neg_ℤ-neg_ℤ, *ℤ_comm, ℤ_discrete}
use Rattle.algebra.specs.Sign.{nought, sign_of, Pos, NN, Neg, NZ, Tri, below, at-nought, above}
use Rattle.algebra.proofs.Ring.{Ex, cst, var, ◌⊕◌, ◌⊝◌, ◌⊗◌, neg, ring}
use Rattle.algebra.proofs.SignLaws.{tri, zero-mul, both_zero, neg-zero, pos_cast, nn_cast, pos-mul, nn-mul, nn-add, pos_nn_add, pos_nn, nn-zero, pos-zero, neg_nn, nn_of_mul, pos_neg_mul, nn-shared}
use Rattle.algebra.proofs.SignLaws.{square_nn, square_pos, np_of, factor_l, factor_r, dec_pos, sign_of_pos, sign_of-neg, sign_of-zero, sign_of-opposite}
use Rattle.matroid.specs.Configurations.{Configuration, Spans}
use Rattle.matroid.specs.Dependencies.{Dependency, Somewhere}
use Rattle.matroid.specs.Circuits.{SignVector, Circuit}
use Rattle.matroid.proofs.Search.{Least, least, Min, minimum, cnt, cnt_lt}
use Rattle.matroid.proofs.Dependent.{dep_lin}
use Rattle.matroid.proofs.Bases.{Elementary, elementary_dependency, elementary_circuit}
use Rattle.matroid.proofs.Inside.{Inside, inside}
use Rattle.matroid.proofs.CircuitLaws.{circuit_alike, circuit-against}

-- ---- one number fits another

pub record Fits (u v : ℤ) : Type 0 where
  pub agree : NN (u *ℤ v)
  pub under : v ≡ pos 0 → u ≡ pos 0

fits_of : (u v : ℤ) → (Neg (u *ℤ v) → ⊥) → (v ≡ pos 0 → u ≡ pos 0) → Fits u v
fits_of u v h k = record { agree = nn_cast (neg_ℤ-neg_ℤ (u *ℤ v)) (np_of (neg_ℤ (u *ℤ v)) h); under = k }

fits_trans : {u v w : ℤ} → Fits u v → Fits v w → Fits u w
fits_trans {u} {v} {w} h k = record { agree = go (ℤ_discrete v (pos 0)); under = λ e. h.under (k.under e) }
  where
    go : Dec (v ≡ pos 0) → NN (u *ℤ w)
    go (yes e) = nn-zero (zero-mul w (h.under e))
    go (no nz) = nn-shared v u w nz (nn_cast (*ℤ_comm u v) h.agree) k.agree

fits_pos : {u v : ℤ} → Fits u v → Pos u → Pos v
fits_pos {u} {v} h p = go (tri v)
  where
    go : Tri v → Pos v
    go (above q) = q
    go (at-nought e) = pos-zero p (h.under e)
    go (below q) = neg_nn (pos_neg_mul v p q) h.agree

fits_neg : (u v : ℤ) → Fits u v → Neg u → Neg v
fits_neg u v h = fits_pos {u = neg_ℤ u} {v = neg_ℤ v} (record {
  agree = nn_cast (ring (u ∷ v ∷ []) (var 0 ⊗ var 1) (neg (var 0) ⊗ neg (var 1)) tt) h.agree;
  under = λ e. ap neg_ℤ (h.under (neg-zero v e));
})

fits_sign : (u v : ℤ) → Fits u v → NZ u → sign_of u ≡ sign_of v
fits_sign u v h nz = go (tri u)
  where
    go : Tri u → sign_of u ≡ sign_of v
    go (above p) = sign_of_pos u p ∙ sym (sign_of_pos v (fits_pos h p))
    go (at-nought e) = absurd (nz e)
    go (below p) = sign_of-neg u p ∙ sym (sign_of-neg v (fits_neg u v h p))

-- ---- two numbers of opposite signs mixed to 0, and others with them

abbrev mixed : ℤ → ℤ → ℤ → ℤ → ℤ
mixed a b u v = (b *ℤ b) *ℤ u +ℤ neg_ℤ (a *ℤ b) *ℤ v

abbrev M : Ex
M = (var 1 ⊗ var 1) ⊗ var 2 ⊕ neg (var 0 ⊗ var 1) ⊗ var 3

mixed_self : (a b : ℤ) → mixed a b a b ≡ pos 0
mixed_self a b = ring (a ∷ b ∷ []) ((var 1 ⊗ var 1) ⊗ var 0 ⊕ neg (var 0 ⊗ var 1) ⊗ var 1) (cst (pos 0)) tt

module _ (a b u v : ℤ) (o : Neg (a *ℤ b)) where
  -- the product with u: a part of the sign of u v, and a square part
  mixed_by : neg_ℤ (a *ℤ b) *ℤ (u *ℤ v) +ℤ (b *ℤ b) *ℤ (u *ℤ u) ≡ mixed a b u v *ℤ u
  mixed_by = ring (a ∷ b ∷ u ∷ v ∷ []) (neg (var 0 ⊗ var 1) ⊗ (var 2 ⊗ var 3) ⊕ (var 1 ⊗ var 1) ⊗ (var 2 ⊗ var 2)) (M ⊗ var 2) tt

  -- where u and v have one sign the mixture is not 0
  mixed_same : Pos (u *ℤ v) → NZ (mixed a b u v)
  mixed_same s e = pos-zero (pos_nn_add (pos-mul o s) (nn-mul (square_nn b) (square_nn u))) (mixed_by ∙ zero-mul u e)

  -- where they have opposite signs, - u / v is to be no less than - a / b
  mixed_fits : (u ≡ pos 0 → v ≡ pos 0) → (Neg (u *ℤ v) → NN (neg_ℤ (u *ℤ v) *ℤ (b *ℤ b) -ℤ neg_ℤ (a *ℤ b) *ℤ (v *ℤ v))) → Fits (mixed a b u v) u
  mixed_fits under ratio = record { agree = go (tri (u *ℤ v)); under = λ e. both_zero (b *ℤ b) (neg_ℤ (a *ℤ b)) e (under e) }
    where
      one_sign : NN (u *ℤ v) → NN (mixed a b u v *ℤ u)
      one_sign h = nn_cast mixed_by (nn-add (nn-mul (pos_nn o) h) (nn-mul (square_nn b) (square_nn u)))

      go : Tri (u *ℤ v) → NN (mixed a b u v *ℤ u)
      go (above h) = one_sign (pos_nn h)
      go (at-nought e) = one_sign (nn-zero e)
      go (below h) = nn_of_mul (square_pos v (factor_r u v h)) (nn_cast
          (ring (a ∷ b ∷ u ∷ v ∷ []) (neg (var 2 ⊗ var 3) ⊗ (neg (var 2 ⊗ var 3) ⊗ (var 1 ⊗ var 1) ⊝ neg (var 0 ⊗ var 1) ⊗ (var 3 ⊗ var 3))) ((var 3 ⊗ var 3) ⊗ (M ⊗ var 2)) tt)
          (nn-mul (pos_nn h) (ratio h)))

-- ---- a circuit inside every dependency

pub record Conforming (n : ℕ) (P : Configuration) (f : ℕ → ℤ) : Type 0 where
  pub part : ℕ → ℤ
  pub circuit : Circuit n P (λ i. sign_of (part i))
  pub fits : (m : ℕ) → m < n → Fits (part m) (f m)

abbrev Opposed : (ℕ → ℤ) → (ℕ → ℤ) → ℕ → Type 0
Opposed f g n = Min (λ m. neg_ℤ (f m *ℤ g m)) (λ m. g m *ℤ g m) (λ m. Neg (f m *ℤ g m)) n

module _ (n : ℕ) (P : Configuration) where
  -- one round: an elementary dependency inside f fits it, or its negative does, or the two are mixed where the ratio is least, and fewer places are left
  module _ (f : ℕ → ℤ) (h : Dependency n P f) (smaller : (g : ℕ → ℤ) → Dependency n P g → cnt n g < cnt n f → Somewhere n g → Conforming n P g) where
    mix : (g : ℕ → ℤ) → Dependency n P g → ((m : ℕ) → f m ≡ pos 0 → g m ≡ pos 0) → Least n (λ m. Pos (f m *ℤ g m)) → Opposed f g n → Conforming n P f
    mix g k under s r = record { part = c.part; circuit = c.circuit; fits = λ m l. fits_trans (c.fits m l) (fit m l) }
      where
        a : ℤ
        a = f r.at

        b : ℤ
        b = g r.at

        both : ℕ → ℤ
        both m = mixed a b (f m) (g m)

        fit : (m : ℕ) → m < n → Fits (both m) (f m)
        fit m l = mixed_fits a b (f m) (g m) r.is (under m) (r.least_of m l)

        c : Conforming n P both
        c = smaller both (dep_lin n P (b *ℤ b) (neg_ℤ (a *ℤ b)) f g h k)
            (cnt_lt n r.at both f (λ m l. (fit m l).under) r.low (mixed_self a b) (factor_l a b r.is))
            (record { at = s.here; low = s.low; so = mixed_same a b (f s.here) (g s.here) r.is s.so })

    round : Inside (Elementary n P) f → Conforming n P f
    round i = go (minimum (λ m. neg_ℤ (f m *ℤ g m)) (λ m. g m *ℤ g m) (λ m. Neg (f m *ℤ g m)) (λ m. dec_pos (neg_ℤ (f m *ℤ g m))) (λ m o. square_pos (g m) (factor_r (f m) (g m) o)) n)
        (least n (λ m. Pos (f m *ℤ g m)) (λ m. dec_pos (f m *ℤ g m)))
      where
        g : ℕ → ℤ
        g = i.part

        go : Opposed f g n ⊎ ((m : ℕ) → m < n → Neg (f m *ℤ g m) → ⊥) → Least n (λ m. Pos (f m *ℤ g m)) ⊎ ((m : ℕ) → m < n → Pos (f m *ℤ g m) → ⊥) → Conforming n P f
        go (inr none) s = record { part = g; circuit = elementary_circuit n P g i.kind; fits = λ m l. fits_of (g m) (f m) (λ p. none m l (pos_cast (ap neg_ℤ (*ℤ_comm (g m) (f m))) p)) (i.under m) }
        go (inl r) (inr none) = record {
          part = λ m. neg_ℤ (g m);
          circuit = circuit_alike (λ m l. sym (sign_of-opposite (g m))) (circuit-against (elementary_circuit n P g i.kind));
          fits = λ m l. fits_of (neg_ℤ (g m)) (f m) (λ p. none m l (pos_cast (ring (f m ∷ g m ∷ []) (neg (neg (var 1) ⊗ var 0)) (var 0 ⊗ var 1) tt) p)) (λ e. ap neg_ℤ (i.under m e));
        }
        go (inl r) (inl s) = mix g (elementary_dependency n P g i.kind) i.under s r

  by_count : Spans n P → (b : ℕ) (f : ℕ → ℤ) → cnt n f < b → Dependency n P f → Somewhere n f → Conforming n P f
  by_count sp zero f l h s = absurd (not-suc-le-zero l)
  by_count sp (suc b) f l h s = round f h (λ g k j t. by_count sp b g (omega arith) k t) (inside n P f h s sp)

  conformal : Spans n P → (f : ℕ → ℤ) → Dependency n P f → Somewhere n f → Conforming n P f
  conformal sp f h s = by_count sp (suc (cnt n f)) f (omega arith) h s

pub circuit_inside : (n : ℕ) (P : Configuration) → Spans n P → (f : ℕ → ℤ) → Dependency n P f → Somewhere n f → (X : SignVector) × Circuit n P X × ((i : ℕ) → i < n → (X i ≡ nought → ⊥) → X i ≡ sign_of (f i))
circuit_inside n P sp f h s = (λ i. sign_of (c.part i), c.circuit, λ i l nz. fits_sign (c.part i) (f i) (c.fits i l) (λ e. nz (sign_of-zero (c.part i) e)))
  where
    c : Conforming n P f
    c = conformal n P sp f h s
