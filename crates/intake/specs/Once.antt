-- What it is that an answer is rounded once, said without the operation that gave it.
--
--   Once x s a c      x is the exact value a / c, negative where s is so, rounded once to an f64. The smallest f64 is 1 / 2 ^ 1074, and a step is 2 ^ step of these: the least such that a / c is below
--                     2 ^ 53 steps, so that 53 binary digits hold the whole steps of a / c. And x is digits steps, the number of steps nearest to a / c, a half to the even one
--   ByFactors t o x y x is multiplied by the whole number t, which is rounded once, and that is divided by o, which is rounded once to y
--
-- That every finite product and quotient is so, and that there is one such value: proofs/Rounded. Source: document 02, E2, E13.
use Rattle.std.specs.Prelude.{◌≡◌, ◌⊎◌, Bool, ℕ, ◌*◌, ◌^◌, ◌≤◌, ◌<◌, pos, Float}
use Rattle.std.specs.Float.Ieee.Exact.{HasValue}
use Rattle.std.specs.Float.Ieee.Positive.{num, den}
use Rattle.intake.specs.Nearest.{is_negative, NearestTo}

pub record Once (x : Float) (s : Bool) (a c : ℕ) : Type 0 where
  pub digits : ℕ
  pub step : ℕ
  pub value : HasValue x s (digits * 2 ^ step) (2 ^ 1074)
  pub near : NearestTo (pos (a * 2 ^ 1074)) (c * 2 ^ step) (pos digits)
  pub below : a * 2 ^ 1074 < 2 ^ 53 * (c * 2 ^ step)
  pub least : (step ≡ 0) ⊎ (2 ^ 52 * (c * 2 ^ step) ≤ a * 2 ^ 1074)

pub record ByFactors (t o : ℕ) (x y : Float) : Type 0 where
  pub product : Float
  pub first : Once product (is_negative x) (num x * t) (den x)
  pub then : Once y (is_negative product) (num product) (o * den product)
