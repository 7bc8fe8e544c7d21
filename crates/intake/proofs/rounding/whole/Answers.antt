-- `intake::rounding::whole` meets its contract: the sum is whole, and what is left of it without the base is the nearest whole number, which fits.
use lib.Ieee.{of_bits}
use Rattle.intake.proofs.Sums.{Whole, sum_whole, sum_cast, left_fits, left_narrow, left_whole}
use Rattle.intake.proofs.rounding.whole.Lts
use Rattle.intake.proofs.rounding.whole.Reads
use Rattle.intake.proofs.rounding.whole.Goals as goal

abbrev Start : Type 0
Start = Lts.Start Reads.Pre Reads.Post

found : (s : Start) → Whole s.args.x
found s = sum_whole s.args.x s.requires.0 s.requires.1

pub float_to_int-result : goal.float_to_int-result
unfolding of_bits
float_to_int-result c = sum_cast c.args.x (found c.before)

pub overflow_sub-result : goal.overflow_sub-result
unfolding of_bits
overflow_sub-result c = let s = c.before in left_fits s.args.x (found c.before) s.requires.1

pub overflow_cast-result : goal.overflow_cast-result
unfolding of_bits
overflow_cast-result c = let s = c.before in left_narrow s.args.x (found c.before) s.requires.1

pub returns : goal.returns
unfolding of_bits
returns c = let s = c.before in left_whole s.args.x (found c.before) s.requires.1
