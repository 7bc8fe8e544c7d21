-- `triples::words::has` meets its contract: an and with 1 is the number modulo 2.
use mathlib.Core.Path.{ap}
use Prim.Native.Nat.{ℕ, ◌/◌, ◌%◌, ◌^◌}
use lib.Dec.{eqb}
use lib.Bits.{and_mask}
use lib.ListN.{get_or}
use Rattle.algebra.specs.Sets.{bit}
use Rattle.algebra.specs.Words.{word_bits, member}
use Rattle.triples.proofs.words.has.Goals as goal

pub returns : goal.returns
unfolding member bit
returns c = let s = c.args in ap (λ (y : ℕ). eqb y 1) (and_mask (get_or s.list.now (s.r / word_bits) 0 / 2 ^ (s.r % word_bits)) 1)
