use Rattle.triples.specs.Sets.{words_of}
use Rattle.walks.specs.Index.{covered_of}
use Rattle.walks.proofs.IndexLaws.{Chained}
use Rattle.walks.proofs.index.Rows.seen.Given as goal

abbrev pub invariant-loop-next : goal.invariant-loop-next
invariant-loop-next l = Chained l.self.table.now (covered_of l.self.walk.rows) (words_of l.list) l.next

abbrev pub decreases-loop-next : goal.decreases-loop-next
decreases-loop-next l = l.next
