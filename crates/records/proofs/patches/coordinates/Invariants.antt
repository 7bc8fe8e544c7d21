use mathlib.Core.Path.{◌≡◌}
use mathlib.Core.List.{◌++◌}
use lib.ListN.{length, drop}
use Rattle.algebra.specs.Loops.{tabulate}
use Rattle.shots.specs.Sizes.{coordinates_most}
use Rattle.records.specs.Reading.{coordinate_at}
use Rattle.records.proofs.patches.coordinates.Given as goal

abbrev pub invariant-loop-i : goal.invariant-loop-i
invariant-loop-i l = (length l.out ≡ coordinates_most) × (l.out ≡ tabulate l.i (coordinate_at l.b) ++ drop l.i l.initial.out)
