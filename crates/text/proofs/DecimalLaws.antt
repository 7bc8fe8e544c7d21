-- The decimal text of a number is what the library writes.
--
--   decimal_same    so it is
use Rattle.std.proofs.Common.{◌≡◌, ℕ, ◌^◌, ◌<◌, suc, rules, arith}
use Rattle.std.specs.Fmt.{decimal}
use Rattle.std.proofs.lemmas.Fmt.{decimal_from_appends, length-decimal-le_succ}
use Rattle.algebra.specs.Writing.{digits_of, decimal_of}

pub decimal_same : (n : ℕ) → n < 2 ^ 64 → decimal_of n ≡ decimal n
unfolding decimal_of digits_of
decimal_same n h = decimal_from_appends digits_of (search rules) (suc n) n h (omega (arith, length-decimal-le_succ n h))
