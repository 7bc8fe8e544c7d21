use mathlib.Core.Path.{◌≡◌}
use lib.ListN.{length}
use Rattle.shots.specs.Sizes.{coordinates_most}
use Rattle.intake.proofs.TurnLaws.{Writes, Kept}
use Rattle.intake.proofs.turns.coordinates.Given as goal

abbrev pub invariant-loop-i : goal.invariant-loop-i
invariant-loop-i l = (length l.out ≡ coordinates_most) × Writes l.foot l.shots l.i l.out × Kept l.foot l.shots l.i
