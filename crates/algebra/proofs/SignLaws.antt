-- Signs of whole numbers, by witnesses.
--
--   tri              which of the three
--   pos-mul, pos-add, pos_nn_add, nn-mul, nn-add     sums and products
--   pos_nn, nn-zero  what is positive, and what is 0, is not negative; `pos_of_nn`: positive where it is not 0; `pos_cast`, `nn_cast` along an equation
--   pos_neg_mul, neg_pos_mul, neg-mul     products with a negative factor
--   pos-zero, neg_nn     the signs exclude one another
--   mul-zero, zero-mul, both_zero, neg-zero     products, combinations and negatives that are 0
--   self-neg         a number that is its own negative is 0
--   pos_of_mul, neg_of_mul, nn_of_mul, zero_of_mul     a factor taken away
--   factor_l, factor_r   no factor of a negative product is 0
--   dec_pos, dec_nz, np_of, nn_of, zero_if     positive or not, 0 or not, and what is not positive, not negative, not other than 0
--   nn_np, sum_zero_l, sum_zero_r     neither negative nor positive is 0; a sum of numbers that are not negative is 0 where both are
--   nn-shared        two numbers that have not the opposite sign of a third one, which is not 0, have not opposite signs
--   two_alike        of three numbers, two have not opposite signs
--   square_nn, square_pos, squares-zero, square-mul     squares; one times a product
--   sign_of_pos, sign_of-neg, sign_of-zero     the sign as a value, from the statement
--   pos-sign_of, neg-sign_of, zero-sign_of     and back
--   value_nz, value_plus, value_minus, valued_pos, valued_nn     a number times the sign of a side
--   scaled_sign      numbers that are the same up to positive factors have the same sign
--   sign_of-opposite, opposite-opposite, nought-opposite     a number and its negative
--   plus_minus, plus-nought, minus-nought     signs are told apart
--   other-side, nought-side, sides_differ     the opposite of a side is a side, and another one; nought is none
--   opposite-signed, same_self, same_turned, turned_other, value-nought      the tests of signs
use mathlib.Core.Path.{◌≡◌, refl, sym, ◌∙◌, ap, ap₂, subst}
use mathlib.Core.Logic.{inl, inr, ⊎_elim, ◌↔◌}
use mathlib.Core.Bool.{true, false, not, true≢false}
use mathlib.Core.List.{[], ◌∷◌}
use Prim.Native.Nat.{ℕ, zero, suc, ◌+◌, ◌*◌}
use native.Mathlib.Omega.{arith}
use lib.IntN.{ℤ, pos, negsuc, neg_ℤ, ◌+ℤ◌, ◌*ℤ◌, +ℤ_comm, neg_ℤ-neg_ℤ, *ℤ-zero, zero-*ℤ, ℤ_discrete}
use Rattle.algebra.specs.Sign.{Sign, minus, nought, plus, sign_of, opposite, value, is_nought, same_sign, eq_z, Pos, NN, Neg, NP, NZ, Tri, below, at-nought, above, Side}
use Rattle.algebra.proofs.IntLaws.{*ℤ-neg-r}
use Rattle.algebra.proofs.Ring.{cst, var, ◌⊕◌, ◌⊗◌, neg, ring}

pub tri : (z : ℤ) → Tri z
tri (pos zero) = at-nought refl
tri (pos (suc n)) = above (record { by = n; is = refl })
tri (negsuc n) = below (record { by = n; is = refl })

pub pos_cast : {a b : ℤ} → a ≡ b → Pos a → Pos b
pos_cast e h = record { by = h.by; is = sym e ∙ h.is }

pub nn_cast : {a b : ℤ} → a ≡ b → NN a → NN b
nn_cast e h = record { by = h.by; is = sym e ∙ h.is }

pub pos-mul : {a b : ℤ} → Pos a → Pos b → Pos (a *ℤ b)
pos-mul h k = record { by = h.by * k.by + h.by + k.by; is = rw (h.is, k.is) (ap pos (step h.by k.by)) }
  where
    step : (m n : ℕ) → suc m * suc n ≡ suc (m * n + m + n)
    step m n = omega arith

pub pos_neg_mul : {a : ℤ} (b : ℤ) → Pos a → Neg b → Neg (a *ℤ b)
pos_neg_mul {a} b h k = pos_cast (ring (a ∷ b ∷ []) (var 0 ⊗ neg (var 1)) (neg (var 0 ⊗ var 1)) tt) (pos-mul h k)

pub neg_pos_mul : (a : ℤ) {b : ℤ} → Neg a → Pos b → Neg (a *ℤ b)
neg_pos_mul a {b} h k = pos_cast (ring (a ∷ b ∷ []) (neg (var 0) ⊗ var 1) (neg (var 0 ⊗ var 1)) tt) (pos-mul h k)

pub neg-mul : (a b : ℤ) → Neg a → Neg b → Pos (a *ℤ b)
neg-mul a b h k = pos_cast (ring (a ∷ b ∷ []) (neg (var 0) ⊗ neg (var 1)) (var 0 ⊗ var 1) tt) (pos-mul h k)

pub nn-mul : {a b : ℤ} → NN a → NN b → NN (a *ℤ b)
nn-mul h k = record { by = h.by * k.by; is = rw (h.is, k.is) refl }

pub nn-add : {a b : ℤ} → NN a → NN b → NN (a +ℤ b)
nn-add h k = record { by = h.by + k.by; is = rw (h.is, k.is) refl }

pub pos_nn_add : {a b : ℤ} → Pos a → NN b → Pos (a +ℤ b)
pos_nn_add h k = record { by = h.by + k.by; is = rw (h.is, k.is) (ap pos (step h.by k.by)) }
  where
    step : (m n : ℕ) → suc m + n ≡ suc (m + n)
    step m n = omega arith

pub pos_nn : {a : ℤ} → Pos a → NN a
pos_nn h = record { by = suc h.by; is = h.is }

pub pos-add : {a b : ℤ} → Pos a → Pos b → Pos (a +ℤ b)
pos-add h k = pos_nn_add h (pos_nn k)

pub nn-zero : {a : ℤ} → a ≡ pos 0 → NN a
nn-zero e = record { by = 0; is = e }

-- what is 0 because a part is
pub mul-zero : (a : ℤ) {b : ℤ} → b ≡ pos 0 → a *ℤ b ≡ pos 0
mul-zero a e = ap (λ x. a *ℤ x) e ∙ *ℤ-zero a

pub zero-mul : {a : ℤ} (b : ℤ) → a ≡ pos 0 → a *ℤ b ≡ pos 0
zero-mul b e = ap (λ x. x *ℤ b) e ∙ zero-*ℤ b

pub both_zero : (a b : ℤ) {s t : ℤ} → s ≡ pos 0 → t ≡ pos 0 → a *ℤ s +ℤ b *ℤ t ≡ pos 0
both_zero a b p q = ap₂ (λ s t. s +ℤ t) (mul-zero a p) (mul-zero b q)

pub neg-zero : (z : ℤ) → neg_ℤ z ≡ pos 0 → z ≡ pos 0
neg-zero z e = sym (neg_ℤ-neg_ℤ z) ∙ ap neg_ℤ e

pub self-neg : (z : ℤ) → z ≡ neg_ℤ z → z ≡ pos 0
self-neg (pos zero) e = refl
self-neg (pos (suc n)) e = let q : ◌≡◌ {A = ℕ} 0 1 = cc in absurd (omega arith)
self-neg (negsuc n) e = let q : ◌≡◌ {A = ℕ} 0 1 = cc in absurd (omega arith)

-- the three signs exclude one another
pub pos-zero : {X : Type 0} {a : ℤ} → Pos a → a ≡ pos 0 → X
pos-zero h e = let z : ◌≡◌ {A = ℤ} (pos (suc h.by)) (pos 0) = sym h.is ∙ e in absurd (clash h.by z)
  where
    clash : (n : ℕ) → pos (suc n) ≡ pos 0 → ⊥
    clash n p = let q : ◌≡◌ {A = ℕ} (suc n) 0 = cc in omega arith

pos_np : {X : Type 0} {a : ℤ} → Pos a → NP a → X
pos_np {X} {a} h k = pos-zero (pos_nn_add h k) (ring (a ∷ []) (var 0 ⊕ neg (var 0)) (cst (pos 0)) tt)

pub neg_nn : {X : Type 0} {a : ℤ} → Neg a → NN a → X
neg_nn {X} {a} h k = pos_np h (nn_cast (sym (neg_ℤ-neg_ℤ a)) k)

pub pos_of_nn : (z : ℤ) → NN z → NZ z → Pos z
pos_of_nn z h nz = go (tri z)
  where
    go : Tri z → Pos z
    go (below n) = neg_nn n h
    go (at-nought e) = absurd (nz e)
    go (above p) = p

-- a positive factor taken away
pub pos_of_mul : {a b : ℤ} → Pos a → Pos (a *ℤ b) → Pos b
pos_of_mul {a} {b} h k = go (tri b)
  where
    go : Tri b → Pos b
    go (below n) = pos_np k (pos_nn (pos_neg_mul b h n))
    go (at-nought e) = pos-zero k (mul-zero a e)
    go (above p) = p

pub neg_of_mul : {a : ℤ} (b : ℤ) → Pos a → Neg (a *ℤ b) → Neg b
neg_of_mul {a} b h k = pos_of_mul h (pos_cast (ring (a ∷ b ∷ []) (neg (var 0 ⊗ var 1)) (var 0 ⊗ neg (var 1)) tt) k)

pub nn_of_mul : {a b : ℤ} → Pos a → NN (a *ℤ b) → NN b
nn_of_mul {a} {b} h k = go (tri b)
  where
    go : Tri b → NN b
    go (below n) = neg_nn (pos_neg_mul b h n) k
    go (at-nought e) = nn-zero e
    go (above p) = pos_nn p

-- a product that is zero, one factor of which is not
pub zero_of_mul : {a b : ℤ} → (a ≡ pos 0 → ⊥) → a *ℤ b ≡ pos 0 → b ≡ pos 0
zero_of_mul {a} {b} h e = go (tri a) (tri b)
  where
    go : Tri a → Tri b → b ≡ pos 0
    go (at-nought z) t = absurd (h z)
    go (above p) (above q) = pos-zero (pos-mul p q) e
    go (above p) (at-nought z) = z
    go (above p) (below q) = pos-zero (pos_neg_mul b p q) (ap neg_ℤ e)
    go (below p) (above q) = pos-zero (neg_pos_mul a p q) (ap neg_ℤ e)
    go (below p) (at-nought z) = z
    go (below p) (below q) = pos-zero (neg-mul a b p q) e

-- a square that is zero, and a sum of squares
pub square_nn : (a : ℤ) → NN (a *ℤ a)
square_nn a = go (tri a)
  where
    go : Tri a → NN (a *ℤ a)
    go (below n) = pos_nn (neg-mul a a n n)
    go (at-nought e) = nn-zero (zero-mul a e)
    go (above p) = pos_nn (pos-mul p p)

pub squares-zero : (a b : ℤ) → a *ℤ a +ℤ b *ℤ b ≡ pos 0 → a ≡ pos 0
squares-zero a b e = go (tri a)
  where
    go : Tri a → a ≡ pos 0
    go (below n) = pos-zero (pos_nn_add (neg-mul a a n n) (square_nn b)) e
    go (at-nought z) = z
    go (above p) = pos-zero (pos_nn_add (pos-mul p p) (square_nn b)) e

-- ---- decisions

pub dec_pos : (z : ℤ) → Dec (Pos z)
dec_pos z = go (tri z)
  where
    go : Tri z → Dec (Pos z)
    go (above p) = yes p
    go (at-nought e) = no (λ p. pos-zero p e)
    go (below p) = no (λ q. pos_np q (pos_nn p))

pub square_pos : (z : ℤ) → NZ z → Pos (z *ℤ z)
square_pos z k = go (tri z)
  where
    go : Tri z → Pos (z *ℤ z)
    go (above p) = pos-mul p p
    go (at-nought e) = absurd (k e)
    go (below p) = neg-mul z z p p

-- not positive is at most nought
pub np_of : (z : ℤ) → (Pos z → ⊥) → NP z
np_of z k = go (tri z)
  where
    go : Tri z → NP z
    go (above p) = absurd (k p)
    go (at-nought e) = nn-zero (ap neg_ℤ e)
    go (below p) = pos_nn p

pub nn_of : (z : ℤ) → (Neg z → ⊥) → NN z
nn_of z k = nn_cast (neg_ℤ-neg_ℤ z) (np_of (neg_ℤ z) k)

pub nn_np : (z : ℤ) → NN z → NP z → z ≡ pos 0
nn_np z h k = go (tri z)
  where
    go : Tri z → z ≡ pos 0
    go (above p) = pos_np p k
    go (at-nought e) = e
    go (below p) = neg_nn p h

pub sum_zero_l : (x y : ℤ) → NN x → NN y → x +ℤ y ≡ pos 0 → x ≡ pos 0
sum_zero_l x y h k e = go (tri x)
  where
    go : Tri x → x ≡ pos 0
    go (above p) = pos-zero (pos_nn_add p k) e
    go (at-nought z) = z
    go (below p) = neg_nn p h

pub sum_zero_r : (x y : ℤ) → NN x → NN y → x +ℤ y ≡ pos 0 → y ≡ pos 0
sum_zero_r x y h k e = sum_zero_l y x k h (+ℤ_comm y x ∙ e)

pub factor_l : (a b : ℤ) → Neg (a *ℤ b) → NZ a
factor_l a b h e = pos-zero h (ap neg_ℤ (zero-mul b e))

pub factor_r : (a b : ℤ) → Neg (a *ℤ b) → NZ b
factor_r a b h e = pos-zero h (ap neg_ℤ (mul-zero a e))

pub square-mul : (a b c : ℤ) → a *ℤ a *ℤ (b *ℤ c) ≡ a *ℤ b *ℤ (a *ℤ c)
square-mul a b c = ring (a ∷ b ∷ c ∷ []) (var 0 ⊗ var 0 ⊗ (var 1 ⊗ var 2)) (var 0 ⊗ var 1 ⊗ (var 0 ⊗ var 2)) tt

-- signs of three numbers, by their products
pub nn-shared : (a b c : ℤ) → NZ a → NN (a *ℤ b) → NN (a *ℤ c) → NN (b *ℤ c)
nn-shared a b c nz h k = nn_of_mul (square_pos a nz) (nn_cast (sym (square-mul a b c)) (nn-mul h k))

pub two_alike : {X : Type 0} (a b c : ℤ) → Neg (a *ℤ b) → Neg (a *ℤ c) → Neg (b *ℤ c) → X
two_alike a b c h k l = neg_nn l (pos_nn (pos_of_mul (square_pos a (factor_l a b h)) (pos_cast (sym (square-mul a b c)) (neg-mul (a *ℤ b) (a *ℤ c) h k))))

pub dec_nz : (z : ℤ) → Dec (NZ z)
dec_nz z = go (ℤ_discrete z (pos 0))
  where
    go : Dec (z ≡ pos 0) → Dec (NZ z)
    go (yes e) = no (λ f. f e)
    go (no f) = yes f

pub zero_if : (z : ℤ) → (NZ z → ⊥) → z ≡ pos 0
zero_if z h = go (ℤ_discrete z (pos 0))
  where
    go : Dec (z ≡ pos 0) → z ≡ pos 0
    go (yes e) = e
    go (no f) = absurd (h f)

-- ---- the sign as a value

pub sign_of_pos : (z : ℤ) → Pos z → sign_of z ≡ plus
unfolding sign_of
sign_of_pos z h = ap sign_of h.is

pub sign_of-neg : (z : ℤ) → Neg z → sign_of z ≡ minus
unfolding sign_of
sign_of-neg z h = ap sign_of (sym (neg_ℤ-neg_ℤ z) ∙ ap neg_ℤ h.is)

pub sign_of-zero : (z : ℤ) → z ≡ pos 0 → sign_of z ≡ nought
unfolding sign_of
sign_of-zero z e = ap sign_of e

abbrev IsPlus : Sign → Type 0
IsPlus minus = ⊥
IsPlus nought = ⊥
IsPlus plus = Unit {0}

abbrev IsMinus : Sign → Type 0
IsMinus minus = Unit {0}
IsMinus nought = ⊥
IsMinus plus = ⊥

pub plus_minus : {X : Type 0} → plus ≡ minus → X
plus_minus e = absurd (subst IsPlus e tt)

pub plus-nought : {X : Type 0} → plus ≡ nought → X
plus-nought e = absurd (subst IsPlus e tt)

pub minus-nought : {X : Type 0} → minus ≡ nought → X
minus-nought e = absurd (subst IsMinus e tt)

pub nought-side : Side nought → ⊥
nought-side d = ⊎_elim (λ e. plus-nought (sym e)) (λ e. minus-nought (sym e)) d

pub other-side : (s : Sign) → Side s → Side (opposite s)
unfolding opposite
other-side s d = ⊎_elim (λ e. inr (ap opposite e)) (λ e. inl (ap opposite e)) d

pub sides_differ : (s : Sign) → Side s → opposite s ≡ s → ⊥
unfolding opposite
sides_differ s d e = ⊎_elim (λ q. plus_minus (sym q ∙ sym e ∙ ap opposite q)) (λ q. plus_minus (sym (ap opposite q) ∙ e ∙ q)) d

pub pos-sign_of : (z : ℤ) → sign_of z ≡ plus → Pos z
pos-sign_of z e = go (tri z)
  where
    go : Tri z → Pos z
    go (below p) = plus_minus (sym e ∙ sign_of-neg z p)
    go (at-nought q) = plus-nought (sym e ∙ sign_of-zero z q)
    go (above p) = p

pub neg-sign_of : (z : ℤ) → sign_of z ≡ minus → Neg z
neg-sign_of z e = go (tri z)
  where
    go : Tri z → Neg z
    go (below p) = p
    go (at-nought q) = minus-nought (sym e ∙ sign_of-zero z q)
    go (above p) = plus_minus (sym (sign_of_pos z p) ∙ e)

pub zero-sign_of : (z : ℤ) → sign_of z ≡ nought → z ≡ pos 0
zero-sign_of z e = go (tri z)
  where
    go : Tri z → z ≡ pos 0
    go (below p) = minus-nought (sym (sign_of-neg z p) ∙ e)
    go (at-nought q) = q
    go (above p) = plus-nought (sym (sign_of_pos z p) ∙ e)

pub scaled_sign : {a b : ℤ} (x y : ℤ) → Pos a → Pos b → a *ℤ x ≡ b *ℤ y → sign_of x ≡ sign_of y
scaled_sign {a} {b} x y h k e = go (tri x)
  where
    go : Tri x → sign_of x ≡ sign_of y
    go (below p) = sign_of-neg x p ∙ sym (sign_of-neg y (pos_of_mul k (pos_cast (*ℤ-neg-r a x ∙ ap neg_ℤ e ∙ sym (*ℤ-neg-r b y)) (pos-mul h p))))
    go (at-nought z) = sign_of-zero x z ∙ sym (sign_of-zero y (zero_of_mul (λ q. pos-zero k q) (sym e ∙ mul-zero a z)))
    go (above p) = sign_of_pos x p ∙ sym (sign_of_pos y (pos_of_mul k (pos_cast e (pos-mul h p))))

pub sign_of-opposite : (z : ℤ) → sign_of (neg_ℤ z) ≡ opposite (sign_of z)
unfolding sign_of opposite
sign_of-opposite (pos zero) = refl
sign_of-opposite (pos (suc n)) = refl
sign_of-opposite (negsuc n) = refl

pub opposite-opposite : (s : Sign) → opposite (opposite s) ≡ s
unfolding opposite
opposite-opposite minus = refl
opposite-opposite nought = refl
opposite-opposite plus = refl

pub nought-opposite : (s : Sign) → s ≡ nought → opposite s ≡ nought
unfolding opposite
nought-opposite s e = ap opposite e

-- a number times the sign of a side, as 1 or -1
pub value_nz : (s : Sign) → Side s → NZ (value s)
unfolding value
value_nz plus _ = pos-zero (record { by = 0; is = refl })
value_nz minus _ = λ e. pos-zero (record { by = 0; is = refl }) (ap neg_ℤ e)
value_nz nought k = absurd (nought-side k)

pub value_plus : (z : ℤ) → value plus *ℤ z ≡ z
unfolding value
value_plus z = ring (z ∷ []) (cst (pos 1) ⊗ var 0) (var 0) tt

pub value_minus : (z : ℤ) → value minus *ℤ z ≡ neg_ℤ z
unfolding value
value_minus z = ring (z ∷ []) (cst (negsuc 0) ⊗ var 0) (neg (var 0)) tt

pub valued_pos : (s : Sign) → Side s → (z : ℤ) → Pos (value s *ℤ z) ↔ (sign_of z ≡ s)
valued_pos plus _ z = (λ h. sign_of_pos z (pos_cast (value_plus z) h), λ e. pos_cast (sym (value_plus z)) (pos-sign_of z e))
valued_pos minus _ z = (λ h. sign_of-neg z (pos_cast (value_minus z) h), λ e. pos_cast (sym (value_minus z)) (neg-sign_of z e))
valued_pos nought k z = absurd (nought-side k)

pub valued_nn : (s : Sign) → Side s → (z : ℤ) → NN (value s *ℤ z) ↔ (sign_of z ≡ opposite s → ⊥)
unfolding opposite
valued_nn plus _ z = (λ h e. neg_nn (neg-sign_of z e) (nn_cast (value_plus z) h), λ f. nn_of _ (λ h. f (sign_of-neg z (pos_cast (ap neg_ℤ (value_plus z)) h))))
valued_nn minus _ z = (λ h e. neg_nn (pos_cast (sym (neg_ℤ-neg_ℤ z)) (pos-sign_of z e)) (nn_cast (value_minus z) h), λ f. nn_of _ (λ h. f (sign_of_pos z (pos_cast (ap neg_ℤ (value_minus z) ∙ neg_ℤ-neg_ℤ z) h))))
valued_nn nought k z = absurd (nought-side k)

-- ---- tests of signs

pub opposite-signed : (s : Sign) → is_nought (opposite s) ≡ is_nought s
unfolding opposite
opposite-signed minus = refl
opposite-signed nought = refl
opposite-signed plus = refl

pub same_self : (s : Sign) → same_sign s s ≡ true
same_self minus = refl
same_self nought = refl
same_self plus = refl

pub same_turned : (s t : Sign) → same_sign s (opposite t) ≡ same_sign (opposite s) t
unfolding opposite
same_turned minus minus = refl
same_turned minus nought = refl
same_turned minus plus = refl
same_turned nought minus = refl
same_turned nought nought = refl
same_turned nought plus = refl
same_turned plus minus = refl
same_turned plus nought = refl
same_turned plus plus = refl

-- of two signs that are not nought, one is the other or its opposite
pub turned_other : (s t : Sign) → is_nought s ≡ false → is_nought t ≡ false → same_sign (opposite s) t ≡ not (same_sign s t)
unfolding opposite
turned_other minus minus h k = refl
turned_other minus nought h k = absurd (true≢false k)
turned_other minus plus h k = refl
turned_other nought t h k = absurd (true≢false h)
turned_other plus minus h k = refl
turned_other plus nought h k = absurd (true≢false k)
turned_other plus plus h k = refl

pub value-nought : (s : Sign) → eq_z (value s) (pos 0) ≡ is_nought s
unfolding value
value-nought minus = refl
value-nought nought = refl
value-nought plus = refl
