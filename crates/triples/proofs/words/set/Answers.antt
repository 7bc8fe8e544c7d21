-- `triples::words::set` meets its contract: 1 shifted to the bit, which an or sets, and an and with all bits but that one clears.
use mathlib.Core.Path.{◌∙◌, ap}
use Prim.Native.Nat.{ℕ, ◌-◌, ◌/◌, ◌%◌, ◌^◌, ◌<◌}
use native.Mathlib.Omega.{arith}
use lib.Bits.{bit_and, bit_or}
use lib.ListN.{get_or, set}
use Rattle.algebra.specs.Words.{word_bits, put_in, take_out}
use Rattle.algebra.proofs.BitOps.{one_shl, or_set, and_clear}
use Rattle.triples.proofs.words.set.Goals as goal

pub returns-then-inward : goal.returns-then-inward
unfolding put_in
returns-then-inward c =
    let s = c.args in
    let q = s.r / word_bits in
    let k = s.r % word_bits in
    let x = get_or s.list.now q 0 in
    rw c.if-inward.true (ap (set s.list.now q) (ap (bit_or x) (one_shl word_bits k (omega arith)) ∙ or_set x k))

pub returns-else-inward : goal.returns-else-inward
unfolding take_out
returns-else-inward c =
    let s = c.args in
    let q = s.r / word_bits in
    let k = s.r % word_bits in
    let x = get_or s.list.now q 0 in
    let low : x < 2 ^ word_bits = omega arith in
    rw c.if-inward.false
    (ap (set s.list.now q)
    (ap (λ (y : ℕ). bit_and x (2 ^ word_bits - 1 - y)) (one_shl word_bits k (omega arith)) ∙ and_clear word_bits x k (omega arith) low))
