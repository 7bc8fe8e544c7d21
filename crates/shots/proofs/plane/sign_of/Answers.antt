-- `shots::plane::sign_of` meets its contract: the sign of 64 bits fits 8.
use Rattle.std.proofs.Common.{refl, ◌≡◌, ◌∙◌, ap, zero, suc, min, w8, w64, to_z, of_z}
use native.Mathlib.Omega.{arith}
use lib.IntN.{ℤ, pos, negsuc}
use mir.Facts.{to_z-of_z}
use Rattle.std.specs.Int.{int_signum}
use Rattle.algebra.specs.Sign.{Sign, minus, nought, plus, sign_of, value}
use Rattle.shots.proofs.plane.sign_of.Goals as goal

signum_is : (x : ℤ) → int_signum x ≡ value (sign_of x)
unfolding sign_of value
signum_is (pos zero) = refl
signum_is (pos (suc n)) = ap pos (let e : min (suc n) 1 ≡ 1 = omega arith in e)
signum_is (negsuc n) = refl

narrowed : (s : Sign) → to_z w8 (of_z w8 (to_z w64 (of_z w64 (value s)))) ≡ value s
unfolding value
narrowed minus = refl
narrowed nought = refl
narrowed plus = refl

pub returns : goal.returns
returns c = ap (λ (x : ℤ). to_z w8 (of_z w8 (to_z w64 (of_z w64 x)))) (c.signum.ensures.value ∙ ap int_signum (to_z-of_z c.ranges.x) ∙ signum_is c.args.x) ∙ narrowed (sign_of c.args.x)
