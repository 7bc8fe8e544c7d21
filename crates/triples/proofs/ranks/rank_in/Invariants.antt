use Rattle.algebra.specs.Sets.{set_of}
use Rattle.triples.proofs.PieceLaws.{Passed}
use Rattle.triples.proofs.ranks.rank_in.Given as goal

abbrev pub invariant-loop-left : goal.invariant-loop-left
invariant-loop-left l = Passed l.n (set_of l.n l.x) l.after l.left l.y
