use Rattle.std.proofs.Common.{◌≡◌, ◌-◌, ◌/◌, ◌≤◌, ◌+◌, length}
use Rattle.algebra.specs.Words.{row_of}
use Rattle.reach.specs.Walks.{steps_of}
use Rattle.circuits.specs.Numbering.{circuits_of}
use Rattle.triples.specs.Sizes.{word_count}
use Rattle.triples.specs.Sets.{words_of}
use Rattle.walks.specs.Calls.{ground_of, read_walk}
use Rattle.walks.specs.Going.{Going}
use Rattle.walks.proofs.steps.along.Given as goal

abbrev pub invariant-loop-z : goal.invariant-loop-z
invariant-loop-z l =
    let g = ground_of l.shots in
    (l.known.table.ghost_name ≡ l.initial.known.table.ghost_name)
    × (steps_of g l.b l.initial.known.table.now (read_walk l.initial.known.walk) ≡ steps_of g (l.first + l.b - l.z) l.known.table.now (read_walk l.known.walk))
    × Going l.shots l.ready l.known.table.now (read_walk l.known.walk)
    × (l.initial.known.walk.rows ≤ l.known.walk.rows) × (l.known.walk.step + l.first ≡ l.initial.known.walk.step + l.z) × (row_of word_count l.known.table.now (l.initial.known.walk.step / length (circuits_of l.shots)) ≡ words_of l.row)
