-- How many circuits a patch can have; src/lib.rt has the most as a constant.
--
--   candidates n    the sets of three and of four of n shots, with nothing known of the shots: as many circuits as there can be
--   circuits_most    that number for the largest patch
use Rattle.std.specs.Prelude.{ℕ, ◌++◌, length}
use Rattle.algebra.specs.Sets.{sets_of}

abbrev pub circuits_most : ℕ
circuits_most = 330

unfoldable pub candidates : ℕ → ℕ
candidates n = length (sets_of 3 n ++ sets_of 4 n)
