-- `triples::masks::with` meets its contract: 1 shifted by i, and a bit set by an or.
use mathlib.Core.Path.{◌∙◌, ap}
use lib.Bits.{bit_or}
use Rattle.algebra.proofs.BitOps.{one_shl, or_set}
use Rattle.shots.specs.Sizes.{mask_bits}
use Rattle.triples.proofs.masks.with.Goals as goal

pub returns : goal.returns
returns c = ap (bit_or c.args.x) (one_shl mask_bits c.args.i c.requires) ∙ or_set c.args.x c.args.i
