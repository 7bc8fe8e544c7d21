-- Sizes of whole numbers (`nat_abs`), and what a signed width holds.
--
--   nat_abs-zero               a number of size 0 is 0
--   nat_abs-neg, nat_abs-add, nat_abs-sub, nat_abs_mul, mul_size    sizes of sums and products
--   size_nn                   a number and a bound of its size
--   sfits_size, size_sfits    a number fits a signed width where its size is small, and the other way round
--   read-back                 what is read from the bits of a result is the result
--   eqb_of_z                   two numbers are the same where their bits are
--   signs_same, sign_is_plus, sign_is_nought, below_is_minus    the machine's tests of signs -1, 0, 1, and of a number below 0
use mathlib.Core.Path.{◌≡◌, refl, sym, ◌∙◌, ap, subst}
use mathlib.Core.Bool.{Bool, true, false, cond}
use Prim.Native.Nat.{ℕ, zero, suc, ◌+◌, ◌*◌, ◌-◌, ◌^◌, ◌<◌, ◌≤◌}
use native.Mathlib.Omega.{arith}
use native.Mathlib.Nat.{mul-le-mul}
use borrow.Author.Tests.{eqb-true, eq-eqb, ne_eqb, le-ltb}
use lib.Dec.{ltb, eqb}
use lib.IntN.{ℤ, pos, negsuc, nat_abs, neg_ℤ, ◌+ℤ◌, ◌-ℤ◌, ◌*ℤ◌}
use lib.Signed.{mag, lt_z}
use mir.Syntax.{Width, w8}
use mir.Val.{SFits, hbits, bits, to_z, of_z}
use mir.ValLaws.{to_z-of_z, pow-bits}
use Rattle.algebra.specs.Sign.{Sign, minus, nought, plus, sign_of, value, NN, is_minus, is_nought, is_plus, same_sign, eq_z}

pub nat_abs-zero : (z : ℤ) → nat_abs z ≡ 0 → z ≡ pos 0
nat_abs-zero (pos n) e = ap pos e
nat_abs-zero (negsuc n) e = absurd (omega arith)

pub nat_abs-neg : (z : ℤ) → nat_abs (neg_ℤ z) ≡ nat_abs z
nat_abs-neg (pos zero) = refl
nat_abs-neg (pos (suc n)) = refl
nat_abs-neg (negsuc n) = refl

sub_size : (a b : ℕ) (t : Bool) → nat_abs (cond t (negsuc (suc b - suc a)) (pos (a - suc b))) ≤ a + suc b
sub_size a b true = omega arith
sub_size a b false = omega arith

pub nat_abs-add : (a b : ℤ) → nat_abs (a +ℤ b) ≤ nat_abs a + nat_abs b
nat_abs-add (pos a) (pos b) = omega arith
nat_abs-add (pos a) (negsuc b) = sub_size a b (ltb a (suc b))
nat_abs-add (negsuc a) (pos b) = omega (arith, sub_size b a (ltb b (suc a)))
nat_abs-add (negsuc a) (negsuc b) = omega arith

pub nat_abs-sub : (a b : ℤ) → nat_abs (a -ℤ b) ≤ nat_abs a + nat_abs b
nat_abs-sub a b = omega (arith, nat_abs-add a (neg_ℤ b), nat_abs-neg b)

pub nat_abs_mul : (a b : ℤ) → nat_abs (a *ℤ b) ≡ nat_abs a * nat_abs b
nat_abs_mul (pos a) (pos b) = refl
nat_abs_mul (pos a) (negsuc b) = nat_abs-neg (pos (a * suc b))
nat_abs_mul (negsuc a) (pos b) = nat_abs-neg (pos (suc a * b))
nat_abs_mul (negsuc a) (negsuc b) = refl

pub size_nn : (z : ℤ) (m : ℕ) → nat_abs z ≤ m → NN (z +ℤ pos m)
size_nn (pos k) m h = record { by = k + m; is = refl }
size_nn (negsuc k) m h = record { by = m - suc k; is = ap (λ (t : Bool). cond t (negsuc (suc k - suc m)) (pos (m - suc k))) (le-ltb m (suc k) h) }

mag_size : (z : ℤ) → mag z ≤ nat_abs z
mag_size (pos n) = omega arith
mag_size (negsuc n) = omega arith

-- a number whose size is below half of the width's power fits
pub sfits_size : (w : Width) (z : ℤ) → nat_abs z < 2 ^ hbits w → SFits w z
sfits_size w z h = record { sfits = omega (arith, mag_size z) }

-- an i32 is of size at most 2^31
pub size_sfits : (w : Width) (z : ℤ) → SFits w z → nat_abs z ≤ 2 ^ hbits w
size_sfits w (pos n) h = omega (arith, h.sfits)
size_sfits w (negsuc n) h = omega (arith, h.sfits)

pub mul_size : (a b : ℤ) (m n : ℕ) → nat_abs a ≤ m → nat_abs b ≤ n → nat_abs (a *ℤ b) ≤ m * n
mul_size a b m n h k = subst (λ (x : ℕ). x ≤ m * n) (sym (nat_abs_mul a b)) (mul-le-mul h k)

-- what the machine reads back from the bits of a result is what the callee says of it
pub read_back : (w : Width) (r : ℤ) {x : ℤ} → mag r < 2 ^ hbits w → r ≡ x → to_z w (of_z w r) ≡ x
read_back w r ok e = to_z-of_z w r (record { sfits = ok }) ∙ e

same_test : (s t : Bool) → (s ≡ true → t ≡ true) → (t ≡ true → s ≡ true) → s ≡ t
same_test true t f g = sym (f refl)
same_test false true f g = g refl
same_test false false f g = refl

-- the bits of two numbers are the same where the numbers are
pub eqb_of_z : (w : Width) (x y : ℤ) → mag x < 2 ^ hbits w → mag y < 2 ^ hbits w → eqb (of_z w x) (of_z w y) ≡ eq_z x y
eqb_of_z w (pos a) (pos b) hx hy = refl
eqb_of_z w (pos a) (negsuc b) hx hy = ne_eqb a (2 ^ bits w - suc b) (λ e. omega (arith, pow-bits w))
eqb_of_z w (negsuc a) (pos b) hx hy = ne_eqb (2 ^ bits w - suc a) b (λ e. omega (arith, pow-bits w))
eqb_of_z w (negsuc a) (negsuc b) hx hy =
    same_test (eqb (2 ^ bits w - suc a) (2 ^ bits w - suc b)) (eqb a b)
    (λ t. eq-eqb a b (omega (arith, pow-bits w, eqb-true (2 ^ bits w - suc a) (2 ^ bits w - suc b) t)))
    (λ t. eq-eqb (2 ^ bits w - suc a) (2 ^ bits w - suc b) (omega (arith, pow-bits w, eqb-true a b t)))

-- ---- the machine's tests of a sign that a callee has given as -1, 0 or 1

value_same : (s t : Sign) → eqb (of_z w8 (value t)) (of_z w8 (value s)) ≡ same_sign s t
unfolding value
value_same minus minus = refl
value_same minus nought = refl
value_same minus plus = refl
value_same nought minus = refl
value_same nought nought = refl
value_same nought plus = refl
value_same plus minus = refl
value_same plus nought = refl
value_same plus plus = refl

pub signs_same : {x y : ℤ} (s t : Sign) → x ≡ value s → y ≡ value t → eqb (of_z w8 y) (of_z w8 x) ≡ same_sign s t
signs_same s t e f = rw (e, f) (value_same s t)

pub sign_is_plus : (r : ℤ) (s : Sign) → r ≡ value s → eqb (of_z w8 r) (of_z w8 (pos 1)) ≡ is_plus s
unfolding value
sign_is_plus r s e = signs_same plus s refl e

pub sign_is_nought : (r : ℤ) (s : Sign) → r ≡ value s → eqb (of_z w8 r) (of_z w8 (pos 0)) ≡ is_nought s
unfolding value
sign_is_nought r s e = signs_same nought s refl e

pub below_is_minus : (z : ℤ) → lt_z z (pos 0) ≡ is_minus (sign_of z)
unfolding sign_of
below_is_minus (pos zero) = refl
below_is_minus (pos (suc n)) = le-ltb (suc n) 0 (omega arith)
below_is_minus (negsuc n) = refl
