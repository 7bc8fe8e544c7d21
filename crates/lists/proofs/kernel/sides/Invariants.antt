use Rattle.std.specs.Prelude.{◌≡◌, length}
use Rattle.shots.specs.Sizes.{shots_most}
use Rattle.triples.specs.Sets.{SameBelow}
use Rattle.lists.specs.Held.{Around}
use Rattle.lists.proofs.kernel.sides.Given as goal

abbrev pub invariant-loop-z : goal.invariant-loop-z
invariant-loop-z l = (length l.held ≡ length l.fn.held) × Around l.n l.side-items l.z l.held × SameBelow shots_most l.fn.held l.held
