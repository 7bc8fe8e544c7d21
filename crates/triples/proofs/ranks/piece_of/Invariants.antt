use Rattle.triples.proofs.PieceLaws.{Reached}
use Rattle.triples.proofs.ranks.piece_of.Given as goal

abbrev pub invariant-loop-left : goal.invariant-loop-left
invariant-loop-left l = Reached l.size l.n l.r l.x l.a l.left l.rest
