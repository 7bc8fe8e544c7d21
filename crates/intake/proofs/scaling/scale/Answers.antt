-- `intake::scaling::scale` meets its contract, unit by unit.
use mathlib.Core.Path.{sym, ap}
use lib.Ieee.{of_bits, of_int}
use Rattle.intake.specs.Scaling.{scaled_of, float}
use Rattle.intake.proofs.scaling.scale.Goals as goal

pub returns-in-Metres : goal.returns-in-Metres
unfolding scaled_of float of_bits of_int
returns-in-Metres c = sym (ap (scaled_of c.args.foot) c.in-Metres.is)

pub returns-in-Feet : goal.returns-in-Feet
unfolding scaled_of
returns-in-Feet c = sym (ap (scaled_of c.args.foot) c.in-Feet.is)
