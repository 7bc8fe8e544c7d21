-- Laws of finite sums.
--
--   sum_cong, sum_lin              the same terms; a linear combination
--   sum_none, sum_lone             no term, one term at most is not nought
--   unit_on, unit_off, sum-unit    the unit vectors: their values, and a sum weighed by one
--   nn-sum, nn_sum_zero            a sum of numbers that are not negative is not negative, and 0 only where they all are
use mathlib.Core.Path.{◌≡◌, refl, sym, ◌∙◌, ap}
use mathlib.Core.Logic.{⊎_elim}
use mathlib.Core.Bool.{Bool, true, false, cond}
use mathlib.Core.List.{[], ◌∷◌}
use Prim.Native.Nat.{ℕ, zero, suc, ◌<◌}
use native.Mathlib.Omega.{arith}
use native.Mathlib.Decide.{ℕ_discrete}
use lib.Dec.{T, eqb, eqb→eq, eqb_refl}
use lib.IntN.{ℤ, pos, ◌+ℤ◌, ◌*ℤ◌, zero-*ℤ, +ℤ_comm, +ℤ_idl, +ℤ_idr}
use native.Mathlib.Nat.{not-suc-le-zero}
use Rattle.algebra.specs.Sign.{NN, Tri, below, at-nought, above}
use Rattle.algebra.specs.Sum.{sum, unit}
use Rattle.algebra.proofs.IntLaws.{one-*ℤ}
use Rattle.algebra.proofs.LoopLaws.{last}
use Rattle.algebra.proofs.Ring.{cst, var, ◌⊕◌, ◌⊗◌, ring}
use Rattle.algebra.proofs.SignLaws.{tri, nn-zero, nn-add, pos-zero, pos_nn_add, neg_nn}

pub sum_cong : (n : ℕ) {f g : ℕ → ℤ} → ((i : ℕ) → f i ≡ g i) → sum n f ≡ sum n g
sum_cong zero h = refl
sum_cong (suc n) h = rw (sum_cong n h, h n) refl

pub sum_lin : (n : ℕ) (a b : ℤ) (f g : ℕ → ℤ) → sum n (λ i. a *ℤ f i +ℤ b *ℤ g i) ≡ a *ℤ sum n f +ℤ b *ℤ sum n g
sum_lin zero a b f g = ring (a ∷ b ∷ []) (cst (pos 0)) (var 0 ⊗ cst (pos 0) ⊕ var 1 ⊗ cst (pos 0)) tt
sum_lin (suc n) a b f g =
    rw (sum_lin n a b f g) (ring (a ∷ b ∷ sum n f ∷ sum n g ∷ f n ∷ g n ∷ []) (var 0 ⊗ var 2 ⊕ var 1 ⊗ var 3 ⊕ (var 0 ⊗ var 4 ⊕ var 1 ⊗ var 5)) (var 0 ⊗ (var 2 ⊕ var 4) ⊕ var 1 ⊗ (var 3 ⊕ var 5)) tt)

pub sum_none : (n : ℕ) (h : ℕ → ℤ) → ((m : ℕ) → m < n → h m ≡ pos 0) → sum n h ≡ pos 0
sum_none zero h e = refl
sum_none (suc n) h e = rw (sum_none n h (λ m l. e m (omega arith)), e n (omega arith)) refl

-- one term at most is not zero
pub sum_lone : (n i : ℕ) (h : ℕ → ℤ) → i < n → ((m : ℕ) → m < n → (m ≡ i → ⊥) → h m ≡ pos 0) → sum n h ≡ h i
sum_lone zero i h l e = absurd (not-suc-le-zero l)
sum_lone (suc n) i h l e = go (ℕ_discrete n i) (λ k. sum_lone n i h k (λ m j. e m (omega arith)))
  where
    go : Dec (n ≡ i) → (i < n → sum n h ≡ h i) → sum n h +ℤ h n ≡ h i
    go (yes q) ih = rw (sum_none n h (λ m j. e m (omega arith) (λ r. absurd (off m j (r ∙ sym q))))) (+ℤ_idl (h n) ∙ ap h q)
      where
        off : (m : ℕ) → m < n → m ≡ n → ⊥
        off m j r = omega arith
    go (no q) ih = rw (ih (under q), e n (omega arith) q) (+ℤ_idr (h i))
      where
        under : (n ≡ i → ⊥) → i < n
        under q = omega arith

pub unit_on : (a : ℕ) → unit a a ≡ pos 1
unit_on a = go (eqb a a) (eqb_refl a)
  where
    go : (b : Bool) → T b → cond b (pos 1) (pos 0) ≡ pos 1
    go true t = refl
    go false t = absurd t

pub unit_off : (a i : ℕ) → (i ≡ a → ⊥) → unit a i ≡ pos 0
unit_off a i h = go (eqb i a) (eqb→eq i a)
  where
    go : (b : Bool) → (T b → i ≡ a) → cond b (pos 1) (pos 0) ≡ pos 0
    go true t = absurd (h (t tt))
    go false t = refl

pub sum-unit : (n a : ℕ) (g : ℕ → ℤ) → a < n → sum n (λ i. unit a i *ℤ g i) ≡ g a
sum-unit n a g l = sum_lone n a (λ i. unit a i *ℤ g i) l (λ m k q. rw (unit_off a m q) (zero-*ℤ (g m))) ∙ rw (unit_on a) (one-*ℤ (g a))

-- ---- numbers that are not negative

pub nn-sum : (n : ℕ) (f : ℕ → ℤ) → ((i : ℕ) → i < n → NN (f i)) → NN (sum n f)
nn-sum zero f h = nn-zero refl
nn-sum (suc n) f h = nn-add (nn-sum n f (λ i l. h i (omega arith))) (h n (omega arith))

part-zero : {a b : ℤ} → NN a → NN b → a +ℤ b ≡ pos 0 → a ≡ pos 0
part-zero {a} {b} h k e = go (tri a)
  where
    go : Tri a → a ≡ pos 0
    go (below p) = neg_nn p h
    go (at-nought q) = q
    go (above p) = pos-zero (pos_nn_add p k) e

pub nn_sum_zero : (n : ℕ) (f : ℕ → ℤ) → ((i : ℕ) → i < n → NN (f i)) → sum n f ≡ pos 0 → (i : ℕ) → i < n → f i ≡ pos 0
nn_sum_zero zero f h e i l = absurd (not-suc-le-zero l)
nn_sum_zero (suc n) f h e i l =
    let k : NN (sum n f) = nn-sum n f (λ j m. h j (omega arith)) in
    ⊎_elim (nn_sum_zero n f (λ j m. h j (omega arith)) (part-zero k (h n (omega arith)) e) i) (λ q. ap f q ∙ part-zero (h n (omega arith)) k (+ℤ_comm (f n) (sum n f) ∙ e)) (last i n l)
