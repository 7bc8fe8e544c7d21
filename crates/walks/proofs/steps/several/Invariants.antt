use Rattle.std.proofs.Common.{◌≡◌}
use Rattle.reach.specs.Walks.{steps_of}
use Rattle.walks.specs.Calls.{ground_of, read_walk}
use Rattle.walks.specs.Going.{Going}
use Rattle.walks.proofs.StepsLaws.{Wrote}
use Rattle.walks.proofs.steps.several.Given as goal

abbrev pub invariant-loop-left : goal.invariant-loop-left
invariant-loop-left l =
    let g = ground_of l.shots in
    (l.known.table.ghost_name ≡ l.initial.known.table.ghost_name)
    × (steps_of g l.b l.initial.known.table.now (read_walk l.initial.known.walk) ≡ steps_of g l.left l.known.table.now (read_walk l.known.walk))
    × Going l.shots l.ready l.known.table.now (read_walk l.known.walk) × Wrote l.shots l.lent l.known.table.now l.known.walk.rows

abbrev pub decreases-loop-left : goal.decreases-loop-left
decreases-loop-left l = l.left
