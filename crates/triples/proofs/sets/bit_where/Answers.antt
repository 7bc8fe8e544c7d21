-- `triples::sets::bit_where` meets its contract: 1 shifted to the bit, which an or sets.
use mathlib.Core.Path.{◌∙◌, ap}
use native.Mathlib.Omega.{arith}
use lib.Bits.{bit_or}
use Rattle.algebra.specs.Words.{word_bits}
use Rattle.algebra.proofs.BitOps.{one_shl, or_set}
use Rattle.triples.proofs.sets.bit_where.Goals as goal

pub returns-then-here : goal.returns-then-here
returns-then-here c =
    let a = c.args in
    rw c.if-here.true (ap (bit_or a.x) (one_shl word_bits a.k (omega arith)) ∙ or_set a.x a.k)
