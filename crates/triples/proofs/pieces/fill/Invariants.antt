use mathlib.Core.Path.{◌≡◌}
use Prim.Native.Nat.{◌-◌}
use lib.ListN.{length}
use Rattle.algebra.specs.Words.{member}
use Rattle.algebra.proofs.LoopLaws.{Found}
use Rattle.triples.proofs.PieceLaws.{Front}
use Rattle.triples.proofs.pieces.fill.Given as goal

abbrev pub invariant-loop-r : goal.invariant-loop-r
invariant-loop-r l = (length l.out ≡ length l.initial.out) × Found (member l.list) l.count (Front l.size l.n l.list l.out l.t) l.r

abbrev pub decreases-loop-r : goal.decreases-loop-r
decreases-loop-r l = l.count - l.r
