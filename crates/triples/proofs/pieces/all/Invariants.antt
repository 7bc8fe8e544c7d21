use mathlib.Core.Path.{◌≡◌}
use lib.ListN.{length}
use Rattle.triples.proofs.PieceLaws.{RankedTo}
use Rattle.triples.proofs.pieces.all.Given as goal

abbrev pub invariant-loop-r : goal.invariant-loop-r
invariant-loop-r l = (length l.out ≡ length l.initial.out) × RankedTo l.size l.n l.out l.r
