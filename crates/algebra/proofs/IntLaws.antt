-- The laws of a commutative ring that the kit's ℤ (`lib.IntN`) lacks.
--
--   +ℤ-left-comm, +ℤ-swap, *ℤ-assoc, *ℤ-left-comm, *ℤ-add-l, *ℤ-add-r, *ℤ-neg-l, *ℤ-neg-r, one-*ℤ
use mathlib.Core.Path.{◌≡◌, sym, ◌∙◌, ap}
use Prim.Native.Nat.{zero, suc}
use lib.IntN.{ℤ, pos, negsuc, neg_ℤ, ◌+ℤ◌, ◌*ℤ◌, suc_ℤ, pred_ℤ, one, +ℤ_assoc, +ℤ_comm, +ℤ_idr, *ℤ_comm, *ℤ-one, zero-*ℤ, suc_ℤ-*ℤ, pred_ℤ-*ℤ, neg_ℤ-+ℤ, neg_ℤ-neg_ℤ, +ℤ-suc_ℤ, +ℤ-pred_ℤ, neg_ℤ-suc_ℤ, neg_ℤ-pred_ℤ}

-- induction by successor and predecessor
ℤ-steps : (P : ℤ → Type 0) → P (pos zero) → ((k : ℤ) → P k → P (suc_ℤ k)) → ((k : ℤ) → P k → P (pred_ℤ k)) → (k : ℤ) → P k
ℤ-steps P z s p (pos zero) = z
ℤ-steps P z s p (pos (suc n)) = s (pos n) (ℤ-steps P z s p (pos n))
ℤ-steps P z s p (negsuc zero) = p (pos zero) z
ℤ-steps P z s p (negsuc (suc n)) = p (negsuc n) (ℤ-steps P z s p (negsuc n))

pub +ℤ-left-comm : (a b c : ℤ) → a +ℤ (b +ℤ c) ≡ b +ℤ (a +ℤ c)
+ℤ-left-comm a b c = sym (+ℤ_assoc a b c) ∙ ap (λ x. x +ℤ c) (+ℤ_comm a b) ∙ +ℤ_assoc b a c

-- four summands, the inner two exchanged
pub +ℤ-swap : (a b c d : ℤ) → (a +ℤ b) +ℤ (c +ℤ d) ≡ (a +ℤ c) +ℤ (b +ℤ d)
+ℤ-swap a b c d = simp (+ℤ_assoc, +ℤ-left-comm)

pub *ℤ-add-l : (a b c : ℤ) → (a +ℤ b) *ℤ c ≡ a *ℤ c +ℤ b *ℤ c
*ℤ-add-l a b c = ℤ-steps (λ b. (a +ℤ b) *ℤ c ≡ a *ℤ c +ℤ b *ℤ c)
    (simp (+ℤ_idr, zero-*ℤ))
    (λ k h. simp (+ℤ-suc_ℤ, suc_ℤ-*ℤ, h, +ℤ_assoc))
    (λ k h. simp (+ℤ-pred_ℤ, pred_ℤ-*ℤ, h, +ℤ_assoc)) b

pub *ℤ-neg-l : (a b : ℤ) → neg_ℤ a *ℤ b ≡ neg_ℤ (a *ℤ b)
*ℤ-neg-l a b = ℤ-steps (λ a. neg_ℤ a *ℤ b ≡ neg_ℤ (a *ℤ b))
    (simp zero-*ℤ)
    (λ k h. simp (neg_ℤ-suc_ℤ, pred_ℤ-*ℤ, suc_ℤ-*ℤ, h, neg_ℤ-+ℤ))
    (λ k h. simp (neg_ℤ-pred_ℤ, pred_ℤ-*ℤ, suc_ℤ-*ℤ, h, neg_ℤ-+ℤ, neg_ℤ-neg_ℤ)) a

pub *ℤ-assoc : (a b c : ℤ) → (a *ℤ b) *ℤ c ≡ a *ℤ (b *ℤ c)
*ℤ-assoc a b c = ℤ-steps (λ a. (a *ℤ b) *ℤ c ≡ a *ℤ (b *ℤ c))
    (simp zero-*ℤ)
    (λ k h. simp (suc_ℤ-*ℤ, *ℤ-add-l, h))
    (λ k h. simp (pred_ℤ-*ℤ, *ℤ-add-l, h, *ℤ-neg-l)) a

pub *ℤ-left-comm : (a b c : ℤ) → a *ℤ (b *ℤ c) ≡ b *ℤ (a *ℤ c)
*ℤ-left-comm a b c = sym (*ℤ-assoc a b c) ∙ ap (λ x. x *ℤ c) (*ℤ_comm a b) ∙ *ℤ-assoc b a c

pub *ℤ-add-r : (a b c : ℤ) → a *ℤ (b +ℤ c) ≡ a *ℤ b +ℤ a *ℤ c
*ℤ-add-r a b c = *ℤ_comm a (b +ℤ c) ∙ *ℤ-add-l b c a ∙ simp *ℤ_comm

pub *ℤ-neg-r : (a b : ℤ) → a *ℤ neg_ℤ b ≡ neg_ℤ (a *ℤ b)
*ℤ-neg-r a b = *ℤ_comm a (neg_ℤ b) ∙ *ℤ-neg-l b a ∙ ap neg_ℤ (*ℤ_comm b a)

pub one-*ℤ : (a : ℤ) → pos 1 *ℤ a ≡ a
unfolding one
one-*ℤ a = *ℤ_comm (pos 1) a ∙ *ℤ-one a
