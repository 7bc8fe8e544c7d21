-- `lists::edges::fill` meets its contract: the rows of the pairs so far, and those before them, which stay.
use native.Mathlib.Omega.{arith}
use Rattle.triples.proofs.RowLaws.{written_more}
use Rattle.lists.specs.Held.{inner_from, inner_of}
use Rattle.lists.proofs.edges.fill.Goals as goal

pub loop-i-preserved : goal.loop-i-preserved
loop-i-preserved c =
    let j = c.loop-j.j in
    written_more (inner_from j) (λ i. inner_of c.args.shots.now i j) c.loop-j.held c.loop-i.held c.loop-i.i (omega arith) (omega arith) c.inner-inner.ensures c.put_row.ensures c.loop-i.invariant
