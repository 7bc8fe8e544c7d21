-- The whole number nearest to a float: as a statement, with no rounding in it, and as a number that computes.
--
--   signed s k         the number of size k, negative where s is so: of size 0 there is one
--   value_of x          a finite float is exactly value_of x / den x; num x / den x is its size
--   off_by A D n        how far n is from A / D, in parts of 1 / D
--   NearestTo A D n    n is nearest to A / D of all whole numbers: it is off by a half at most, and even where it is off by a half
--   Nearest x n        x is finite, and n is nearest to its exact value
--   whole_of x          that number: the one nearest to the size, with the sign
--
-- That `whole_of x` is nearest and that no other number is: proofs/Nearness. Source: document 02, E2.
use Rattle.std.specs.Prelude.{◌≡◌, Bool, true, false, cond, ℕ, ◌*◌, ◌%◌, ◌≤◌, ℤ, pos, neg_ℤ, nat_abs, ◌-ℤ◌, ◌*ℤ◌, Float}
use Rattle.std.specs.Float.{nan, inf, fin}
use Rattle.std.specs.Float.Ieee.Nearest.{closest}
use Rattle.std.specs.Float.Ieee.Positive.{num, den}
use Rattle.std.specs.Float.Ieee.Scale.{finite}

abbrev pub signed : Bool → ℕ → ℤ
signed s k = cond s (neg_ℤ (pos k)) (pos k)

abbrev pub is_negative : Float → Bool
is_negative nan = false
is_negative (inf s) = s
is_negative (fin s m e) = s

unfoldable pub value_of : Float → ℤ
value_of x = signed (is_negative x) (num x)

abbrev pub off_by : ℤ → ℕ → ℤ → ℕ
off_by A D n = nat_abs (A -ℤ n *ℤ pos D)

pub record NearestTo (A : ℤ) (D : ℕ) (n : ℤ) : Type 0 where
  pub close : 2 * off_by A D n ≤ D
  pub even : 2 * off_by A D n ≡ D → nat_abs n % 2 ≡ 0

pub record Nearest (x : Float) (n : ℤ) : Type 0 where
  pub is_finite : finite x ≡ true
  pub nearest : NearestTo (value_of x) (den x) n

unfoldable pub whole_of : Float → ℤ
whole_of x = signed (is_negative x) (closest (num x) (den x))
