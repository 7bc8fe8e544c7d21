-- With its sign's bit taken off, a pattern that is no NaN's is not above an infinity's.
use Rattle.std.proofs.Common.{◌∙◌, le-ltb}
use lib.Ieee.{binary64}
use lib.Ieee.Bits.{nan_bits_above}
use Rattle.runcases.proofs.parse.double.Goals as goal

pub float_from_bits-result : goal.float_from_bits-result
float_from_bits-result c = rw (nan_bits_above binary64 c.args.pattern ∙ le-ltb _ _ c.if-pattern-gt9218868437227405312.false) tt
