-- `triples::masks::without` meets its contract: 1 shifted by i, and a bit cleared by an and with all bits but that one.
use mathlib.Core.Path.{◌∙◌, ap}
use Prim.Native.Nat.{ℕ, ◌-◌, ◌^◌}
use lib.Bits.{bit_and}
use Rattle.algebra.proofs.BitOps.{one_shl, and_clear}
use Rattle.shots.specs.Sizes.{mask_bits}
use Rattle.triples.proofs.masks.without.Goals as goal

pub returns : goal.returns
returns c =
    ap (λ (y : ℕ). bit_and c.args.x (2 ^ mask_bits - 1 - y)) (one_shl mask_bits c.args.i c.requires)
    ∙ and_clear mask_bits c.args.x c.args.i c.requires c.ranges.x.fits
