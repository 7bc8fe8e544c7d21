use mathlib.Core.Path.{◌≡◌}
use lib.ListN.{take}
use Rattle.algebra.specs.Loops.{tabulate}
use Rattle.intake.specs.Runs.{shot_in}
use Rattle.intake.proofs.runs.gathered.Given as goal

abbrev pub invariant-loop-i : goal.invariant-loop-i
invariant-loop-i l = take l.i l.shot-items ≡ tabulate l.i (shot_in l.units l.values)
