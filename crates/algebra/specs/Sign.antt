-- Signs of whole numbers: as a value, and as statements with a witness.
--
--   Sign          minus, nought, plus
--   sign_of z      the sign of z
--   opposite s    plus and minus exchanged
--   value s       -1, 0, 1
--   Pos z, Neg z  z is positive, negative: z ≡ by + 1, -z ≡ by + 1
--   NN z, NP z    z is not negative, not positive: z ≡ by, -z ≡ by
--   NZ z          z is not 0
--   Tri z         one of the three
--   Side s        one of the two sides: plus or minus
--   is_minus, is_nought, is_plus, same_sign, eq_z    the same as tests
--
-- Laws: proofs/SignLaws.
use Rattle.std.specs.Prelude.{◌≡◌, ◌⊎◌, Bool, true, false, ℕ, zero, suc, eqb, ℤ, pos, negsuc, neg_ℤ}

pub data Sign : Type 0 where
  minus nought plus : Sign

unfoldable pub sign_of : ℤ → Sign
sign_of (pos zero) = nought
sign_of (pos (suc n)) = plus
sign_of (negsuc n) = minus

unfoldable pub opposite : Sign → Sign
opposite minus = plus
opposite nought = nought
opposite plus = minus

unfoldable pub value : Sign → ℤ
value minus = negsuc 0
value nought = pos 0
value plus = pos 1

pub record Pos (z : ℤ) : Type 0 where
  pub by : ℕ
  pub is : z ≡ pos (suc by)

pub record NN (z : ℤ) : Type 0 where
  pub by : ℕ
  pub is : z ≡ pos by

abbrev pub Neg : ℤ → Type 0
Neg z = Pos (neg_ℤ z)

abbrev pub NP : ℤ → Type 0
NP z = NN (neg_ℤ z)

abbrev pub NZ : ℤ → Type 0
NZ z = z ≡ pos 0 → ⊥

pub data Tri (z : ℤ) : Type 0 where
  below : Neg z → Tri z
  at-nought : z ≡ pos 0 → Tri z
  above : Pos z → Tri z

abbrev pub Side : Sign → Type 0
Side s = (s ≡ plus) ⊎ (s ≡ minus)

-- ---- tests

abbrev pub is_minus : Sign → Bool
is_minus minus = true
is_minus nought = false
is_minus plus = false

abbrev pub is_nought : Sign → Bool
is_nought minus = false
is_nought nought = true
is_nought plus = false

abbrev pub is_plus : Sign → Bool
is_plus minus = false
is_plus nought = false
is_plus plus = true

abbrev pub same_sign : Sign → Sign → Bool
same_sign minus s = is_minus s
same_sign nought s = is_nought s
same_sign plus s = is_plus s

abbrev pub eq_z : ℤ → ℤ → Bool
eq_z (pos a) (pos b) = eqb a b
eq_z (pos a) (negsuc b) = false
eq_z (negsuc a) (pos b) = false
eq_z (negsuc a) (negsuc b) = eqb a b
