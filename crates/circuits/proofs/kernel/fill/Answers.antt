-- `circuits::kernel::fill` meets its contract: the circuits still to come, behind those found, make the whole.
use Rattle.std.proofs.Common.{rules, refl, ap, List, ◌∙◌}
use Rattle.arrayvec.specs.ArrayVec.{ArrayVec}
use Rattle.circuits.specs.declared.Sides.{Sides}
use Rattle.circuits.specs.Numbering.{threes, threes_from, threes_with, fours, fours_from, fours_with, fours_upon, circuits_of}
use Rattle.circuits.proofs.FoundLaws.{pouring_start, pouring_last, pouring_into, pouring_room, pouring-turn, pouring_kept, pouring_out, pouring_end, found_most}
use Rattle.circuits.proofs.kernel.fill.Goals.{in-Some, in_default, in-Some-four, in_default-four}
use Rattle.circuits.proofs.kernel.fill.Goals as goal

abbrev items : ArrayVec Sides → List Sides
items v = v.items

pub loop-a-init : goal.loop-a-init
unfolding circuits_of threes
loop-a-init c = pouring_start (circuits_of c.args.shots.now) c.clear.ensures

pub loop-b-init : goal.loop-b-init
unfolding threes_from
loop-b-init c = pouring_into _ _ c.loop-a-test.true c.loop-a.invariant

pub loop-c-init : goal.loop-c-init
unfolding threes_with
loop-c-init c = pouring_into _ _ c.loop-b-test.true c.loop-b.invariant

pub push-requires : goal.push-requires
push-requires c = (search rules, pouring_room _ _ (pouring_into _ _ c.loop-c-test.true c.loop-c.invariant) c.in-Some.ensures (found_most _ refl c.requires.1))

pub loop-c-preserved : goal.loop-c-preserved
loop-c-preserved c =
    let p = pouring_into _ _ c.loop-c-test.true c.loop-c.invariant in
    elim c.match-three.branch [
      | in-Some w ↦ pouring-turn _ _ p (ap items w.found-is ∙ w.push.ensures.items) w.in-Some.ensures
      | in_default w ↦ pouring_kept _ _ p (ap items w.found-is) w.in_default.ensures
    ]

pub loop-b-preserved : goal.loop-b-preserved
loop-b-preserved c = pouring_out _ _ c.loop-c-test.false c.loop-c.invariant

pub loop-a-preserved : goal.loop-a-preserved
loop-a-preserved c = pouring_out _ _ c.loop-b-test.false c.loop-b.invariant

pub loop-a-2-init : goal.loop-a-2-init
unfolding fours
loop-a-2-init c = pouring_last (pouring_out _ _ c.loop-a-test.false c.loop-a.invariant)

pub loop-b-2-init : goal.loop-b-2-init
unfolding fours_from
loop-b-2-init c = pouring_into _ _ c.loop-a-2-test.true c.loop-a-2.invariant

pub loop-c-2-init : goal.loop-c-2-init
unfolding fours_with
loop-c-2-init c = pouring_into _ _ c.loop-b-2-test.true c.loop-b-2.invariant

pub loop-d-init : goal.loop-d-init
unfolding fours_upon
loop-d-init c = pouring_into _ _ c.loop-c-2-test.true c.loop-c-2.invariant

pub push-requires-in-Some-four : goal.push-requires-in-Some-four
push-requires-in-Some-four c = (search rules, pouring_room _ _ (pouring_into _ _ c.loop-d-test.true c.loop-d.invariant) c.in-Some-four.ensures (found_most _ refl c.requires.1))

pub loop-d-preserved : goal.loop-d-preserved
loop-d-preserved c =
    let p = pouring_into _ _ c.loop-d-test.true c.loop-d.invariant in
    elim c.match-four.branch [
      | in-Some-four w ↦ pouring-turn _ _ p (ap items w.found-is ∙ w.push-in-Some-four.ensures.items) w.in-Some-four.ensures
      | in_default-four w ↦ pouring_kept _ _ p (ap items w.found-is) w.in_default-four.ensures
    ]

pub loop-c-2-preserved : goal.loop-c-2-preserved
loop-c-2-preserved c = pouring_out _ _ c.loop-d-test.false c.loop-d.invariant

pub loop-b-2-preserved : goal.loop-b-2-preserved
loop-b-2-preserved c = pouring_out _ _ c.loop-c-2-test.false c.loop-c-2.invariant

pub loop-a-2-preserved : goal.loop-a-2-preserved
loop-a-2-preserved c = pouring_out _ _ c.loop-b-2-test.false c.loop-b-2.invariant

pub returns : goal.returns
returns c = pouring_end (pouring_out _ _ c.loop-a-2-test.false c.loop-a-2.invariant)
