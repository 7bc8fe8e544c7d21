-- `triples::masks::has` meets its contract: an and with 1 is the number modulo 2.
use mathlib.Core.Path.{ap}
use Prim.Native.Nat.{ℕ, ◌/◌, ◌^◌}
use lib.Dec.{eqb}
use lib.Bits.{and_mask}
use Rattle.algebra.specs.Sets.{bit}
use Rattle.triples.proofs.masks.has.Goals as goal

pub returns : goal.returns
unfolding bit
returns c = ap (λ (y : ℕ). eqb y 1) (and_mask (c.args.x / 2 ^ c.args.i) 1)
