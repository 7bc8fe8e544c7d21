-- `triples::masks::lowest` meets its contract: the zeros that the machine counts stand below the first bit.
use native.Mathlib.Omega.{arith}
use lib.Count.{trailing_le}
use Rattle.algebra.proofs.BitOps.{lowest-bit, lowest_is}
use Rattle.shots.specs.Sizes.{mask_bits}
use Rattle.triples.proofs.masks.lowest.Goals as goal

pub returns : goal.returns
returns c = let h = c.ranges.x.fits in (lowest_is mask_bits c.args.x h c.requires, (lowest-bit mask_bits c.args.x h c.requires).0)

pub overflow_cast-result : goal.overflow_cast-result
overflow_cast-result c = omega (arith, trailing_le mask_bits c.args.x)
