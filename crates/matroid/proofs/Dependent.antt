-- Laws of affine dependencies, in any dimension.
--
--   dep_lin, dep_scale, dep-neg    a combination of two, a multiple of one, its negative
--   dep-row                 the weighted rows sum to 0 in every column, the ones among them
--   somewhere-neg           the negative is not 0 where the weights are not
--   somewhere_nowhere       weights that are not 0 somewhere and 0 everywhere
--   separated_more          sets that hold separated sets are separated; `separated_turned`: the two sets exchanged
--   also_at                 where the weights are 0 at p, the place p need not be left out
--   one_nowhere             a dependency that lives on one point is 0 there
--   two_same                one that lives on two points, and is not 0, has them at one place
use mathlib.Core.Path.{◌≡◌, sym, ◌∙◌, ap, subst}
use mathlib.Core.List.{[], ◌∷◌}
use Prim.Native.Nat.{ℕ, zero, suc, ◌<◌}
use native.Mathlib.Omega.{arith}
use native.Mathlib.Decide.{ℕ_discrete}
use lib.IntN.{ℤ, pos, negsuc, neg_ℤ, ◌+ℤ◌, ◌-ℤ◌, ◌*ℤ◌, neg_ℤ-neg_ℤ}
use Rattle.algebra.specs.Sign.{NZ}
use Rattle.algebra.specs.Sum.{sum}
use Rattle.algebra.proofs.Ring.{cst, var, ◌⊕◌, ◌⊝◌, ◌⊗◌, neg, ring, sub-zero→eq}
use Rattle.algebra.proofs.SignLaws.{pos_cast, both_zero, neg-zero, mul-zero, zero-mul, zero_of_mul}
use Rattle.algebra.proofs.SumLaws.{sum_cong, sum_lin, sum_lone}
use Rattle.matroid.specs.Configurations.{Configuration, row, rank}
use Rattle.matroid.specs.Dependencies.{Dependency, Somewhere, Separated}

pub somewhere_nowhere : {A : Type 0} {n : ℕ} {f : ℕ → ℤ} → Somewhere n f → ((m : ℕ) → m < n → f m ≡ pos 0) → A
somewhere_nowhere s none = absurd (s.so (none s.at s.low))

pub somewhere-neg : (n : ℕ) (f : ℕ → ℤ) → Somewhere n f → Somewhere n (λ i. neg_ℤ (f i))
somewhere-neg n f s = record { at = s.at; low = s.low; so = λ e. s.so (neg-zero (f s.at) e) }

pub also_at : (f : ℕ → ℤ) (p m : ℕ) → f p ≡ pos 0 → ((m ≡ p → ⊥) → f m ≡ pos 0) → f m ≡ pos 0
also_at f p m z k = go (ℕ_discrete m p)
  where
    go : Dec (m ≡ p) → f m ≡ pos 0
    go (yes e) = ap f e ∙ z
    go (no e) = k e

module _ (n : ℕ) (P : Configuration) where
  pub dep_lin : (a b : ℤ) (f g : ℕ → ℤ) → Dependency n P f → Dependency n P g → Dependency n P (λ i. a *ℤ f i +ℤ b *ℤ g i)
  dep_lin a b f g h k = record {
    ones = sum_lin n a b f g ∙ both_zero a b h.ones k.ones;
    each = λ c l. sum_cong n (λ i. shift (f i) (g i) (P.at i c)) ∙ sum_lin n a b (λ i. f i *ℤ P.at i c) (λ i. g i *ℤ P.at i c) ∙ both_zero a b (h.each c l) (k.each c l);
  }
    where
      shift : (u v w : ℤ) → (a *ℤ u +ℤ b *ℤ v) *ℤ w ≡ a *ℤ (u *ℤ w) +ℤ b *ℤ (v *ℤ w)
      shift u v w = ring (a ∷ b ∷ u ∷ v ∷ w ∷ []) ((var 0 ⊗ var 2 ⊕ var 1 ⊗ var 3) ⊗ var 4) (var 0 ⊗ (var 2 ⊗ var 4) ⊕ var 1 ⊗ (var 3 ⊗ var 4)) tt

  pub dep_scale : (a : ℤ) (f : ℕ → ℤ) → Dependency n P f → Dependency n P (λ i. a *ℤ f i)
  dep_scale a f h = subst (Dependency n P) (λ k i. alone (f i) k) (dep_lin a (pos 0) f f h h)
    where
      alone : (z : ℤ) → a *ℤ z +ℤ pos 0 *ℤ z ≡ a *ℤ z
      alone z = ring (a ∷ z ∷ []) (var 0 ⊗ var 1 ⊕ cst (pos 0) ⊗ var 1) (var 0 ⊗ var 1) tt

  pub dep-neg : (f : ℕ → ℤ) → Dependency n P f → Dependency n P (λ i. neg_ℤ (f i))
  dep-neg f h = subst (Dependency n P) (λ k i. ring (f i ∷ []) (cst (negsuc 0) ⊗ var 0) (neg (var 0)) tt k) (dep_scale (negsuc 0) f h)

  module _ (f : ℕ → ℤ) (h : Dependency n P f) where
    pub dep-row : (c : ℕ) → c < rank P → sum n (λ i. f i *ℤ row P i c) ≡ pos 0
    dep-row zero l = sum_cong n (λ i. ring (f i ∷ []) (var 0 ⊗ cst (pos 1)) (var 0) tt) ∙ h.ones
    dep-row (suc c) l = h.each c (omega arith)

    pub one_nowhere : (i : ℕ) → i < n → ((m : ℕ) → m < n → (m ≡ i → ⊥) → f m ≡ pos 0) → f i ≡ pos 0
    one_nowhere i l off = sym (sum_lone n i f l off) ∙ h.ones

    pub two_same : (i j : ℕ) → i < n → ((m : ℕ) → m < n → (m ≡ i → ⊥) → (m ≡ j → ⊥) → f m ≡ pos 0) → NZ (f i) → (c : ℕ) → c < P.dimension → P.at i c ≡ P.at j c
    two_same i j l off nz c k = sub-zero→eq (P.at i c) (P.at j c) (zero_of_mul nz (sym (sum_lone n i (λ m. f m *ℤ apart m) l (λ m ml ni. at m ml ni (ℕ_discrete m j))) ∙ whole))
      where
        -- how far from j
        apart : ℕ → ℤ
        apart m = P.at m c -ℤ P.at j c

        at : (m : ℕ) → m < n → (m ≡ i → ⊥) → Dec (m ≡ j) → f m *ℤ apart m ≡ pos 0
        at m ml ni (yes e) = mul-zero (f m) (ap apart e ∙ ring (P.at j c ∷ []) (var 0 ⊝ var 0) (cst (pos 0)) tt)
        at m ml ni (no nj) = zero-mul (apart m) (off m ml ni nj)

        whole : sum n (λ m. f m *ℤ apart m) ≡ pos 0
        whole = sum_cong n (λ m. ring (f m ∷ P.at m c ∷ P.at j c ∷ []) (var 0 ⊗ (var 1 ⊝ var 2)) (cst (pos 1) ⊗ (var 0 ⊗ var 1) ⊕ neg (var 2) ⊗ var 0) tt)
            ∙ sum_lin n (pos 1) (neg_ℤ (P.at j c)) (λ m. f m *ℤ P.at m c) f ∙ both_zero (pos 1) (neg_ℤ (P.at j c)) (h.each c k) h.ones

-- ---- separated sets

module _ {n : ℕ} {P : Configuration} where
  pub separated_more : {S T S' T' : ℕ → Type 0} → Separated n P S T → ((i : ℕ) → i < n → S i → S' i) → ((i : ℕ) → i < n → T i → T' i) → Separated n P S' T'
  separated_more c f g = record { by = c.by; dependency = c.dependency; somewhere = c.somewhere; left = λ i l p. f i l (c.left i l p); right = λ i l p. g i l (c.right i l p) }

  unfoldable pub separated_turned : {S T : ℕ → Type 0} → Separated n P S T → Separated n P T S
  separated_turned c = record {
    by = λ i. neg_ℤ (c.by i);
    dependency = dep-neg n P c.by c.dependency;
    somewhere = somewhere-neg n c.by c.somewhere;
    left = λ i l p. c.right i l p;
    right = λ i l p. c.left i l (pos_cast (neg_ℤ-neg_ℤ (c.by i)) p);
  }
