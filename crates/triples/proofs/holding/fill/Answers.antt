-- `triples::holding::fill` meets its contract: the rows filled so far.
use mathlib.Core.Path.{sym, ◌∙◌, ap}
use Prim.Native.Nat.{ℕ}
use native.Mathlib.Omega.{arith}
use native.Mathlib.Nat.{zero-add}
use Rattle.algebra.specs.Words.{set_row}
use Rattle.triples.specs.Sets.{words_of, holders_of}
use Rattle.triples.proofs.RowLaws.{written_more}
use Rattle.triples.proofs.holding.fill.Goals as goal

pub loop-k-preserved : goal.loop-k-preserved
loop-k-preserved c =
    let l = c.loop-k in
    let m =
    written_more 0 (holders_of c.args.n) c.args.held.now l.held l.k (omega arith) (omega arith) c.holders.ensures
    (c.put_row.ensures ∙ ap (λ (p : ℕ). set_row l.held p (words_of c.holders.result)) (sym (zero-add l.k))) l.invariant.1 in
    (m.lengths, m)
