-- What is said of the coordinates that a call hands out.
--
--   PlacedAt foot s c i  x and y number i of the coordinates c are nearest to the scaled east and north of the shot s
--   FromMetres x n       x metres are n millimetres: times 1000, rounded once to a float, and n is the whole number nearest to that
--   FromFeet t o x n     x feet are n millimetres: times t, over o, each rounded once to a float, and n is the whole number nearest to the last
--   TakenAt t o s c i    so it is of the shot s with x and y number i of c, by the unit of s: no operation is in it
--   Edition e t o        the edition e multiplies feet by t and divides by o
--
-- The theorems: proofs/Promises. Source: document 02, E2, E13.
use Rattle.std.specs.Prelude.{List, ℕ, ◌*◌, ℤ, Float}
use Rattle.std.specs.Float.Ieee.Positive.{num, den}
use Rattle.shots.specs.Coordinates.{x_of, y_of}
use Rattle.intake.specs.Nearest.{is_negative, Nearest}
use Rattle.intake.specs.Once.{Once, ByFactors}
use Rattle.intake.specs.Scaling.{scaled_of}
use Rattle.intake.specs.declared.Shot.{Shot}
use Rattle.intake.specs.declared.Shot.TheVariants.{Metres, Feet}
use Rattle.intake.specs.declared.Foot.{Foot}

abbrev pub PlacedAt : Foot → Shot → List ℤ → ℕ → Type 0
PlacedAt foot s c i = Nearest (scaled_of foot s).east (x_of c i) × Nearest (scaled_of foot s).north (y_of c i)

abbrev pub FromMetres : Float → ℤ → Type 0
FromMetres x n = (y : Float) × Once y (is_negative x) (num x * 1000) (den x) × Nearest y n

abbrev pub FromFeet : ℕ → ℕ → Float → ℤ → Type 0
FromFeet t o x n = (y : Float) × ByFactors t o x y × Nearest y n

abbrev pub TakenAt : ℕ → ℕ → Shot → List ℤ → ℕ → Type 0
TakenAt t o (Metres e n) c i = FromMetres e (x_of c i) × FromMetres n (y_of c i)
TakenAt t o (Feet e n) c i = FromFeet t o e (x_of c i) × FromFeet t o n (y_of c i)

pub data Edition : ℕ → ℕ → ℕ → Type 0 where
  survey : Edition 1 1200000 3937
  international : Edition 2 3048 10
