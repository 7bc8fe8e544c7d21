-- `intake::rounding::is_far` meets its contract: a whole number is beyond its range where the number is beyond the half on the edge, on either side.
use mathlib.Core.Path.{◌∙◌}
use lib.Ieee.{of_bits, neg}
use Rattle.intake.proofs.Sums.{far_below, far_above}
use Rattle.intake.proofs.rounding.is_far.Goals as goal

pub returns-then-x : goal.returns-then-x
unfolding of_bits neg
returns-then-x c = c.if-x.true ∙ far_below c.args.x c.requires c.if-x.true

pub returns-else-x : goal.returns-else-x
unfolding of_bits neg
returns-else-x c = far_above c.args.x c.requires c.if-x.false
