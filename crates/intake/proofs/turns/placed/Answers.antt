-- `intake::turns::placed` meets its contract: its scaled numbers are not both finite, or one is far off, or they are rounded.
use Rattle.std.proofs.Common.{rules, ◌≡◌, sym, ◌∙◌, ap, ◌&&◌, Err, w32, to_z, of_z}
use mathlib.Core.Bool.{and-false}
use lib.Ieee.Scale.{finite}
use Rattle.algebra.specs.Answer.{gives}
use Rattle.shots.specs.Refusals.{answered}
use Rattle.intake.proofs.TurnLaws.{finite_tested, placed_infinite, placed_far_east, placed_far_north, placed_both}
use Rattle.intake.proofs.turns.placed.Goals.{Else-not-is_finite-2, then-not-is_finite-via-then-not-is_finite, then-not-is_finite-via-else-not-is_finite+then-not-is_finite-2}
use Rattle.intake.proofs.turns.placed.Goals as goal

pub returns-then-not-is_finite : goal.returns-then-not-is_finite
returns-then-not-is_finite c =
    let z = c.scale-scaled.result in
    placed_infinite _ _ c.scale-scaled.ensures (elim c.then-not-is_finite.branch [
      | then-not-is_finite-via-then-not-is_finite w ↦ ap (λ b. b && finite z.north) (sym (finite_tested z.east) ∙ sym w.if-not-is_finite.ensures.value)
      | then-not-is_finite-via-else-not-is_finite+then-not-is_finite-2 w ↦ ap (λ b. finite z.east && b) (sym (finite_tested z.north) ∙ sym w.if-not-is_finite-2.ensures.value) ∙ and-false (finite z.east)
    ])

pub millimetres-requires : goal.millimetres-requires
millimetres-requires c = sym (finite_tested _) ∙ sym c.if-not-is_finite.ensures.value

pub returns-in_err-east : goal.returns-in_err-east
returns-in_err-east c =
    let e : c.from_residual.result ≡ Err c.in_err-east.field-0.0 = search rules in
    ap answered e ∙ placed_far_east _ _ c.scale-scaled.ensures (sym (finite_tested _) ∙ sym c.if-not-is_finite.ensures.value) (sym (finite_tested _) ∙ sym c.if-not-is_finite-2.ensures.value) c.in_err-east.ensures

pub millimetres-requires-2 : goal.millimetres-requires-2
millimetres-requires-2 c = sym (finite_tested _) ∙ sym c.if-not-is_finite-2.ensures.value

pub returns-in_err-north : goal.returns-in_err-north
returns-in_err-north c =
    let e : c.from_residual-in_err-north.result ≡ Err c.in_err-north.field-0.0 = search rules in
    ap answered e ∙ placed_far_north _ _ c.scale-scaled.ensures (sym (finite_tested _) ∙ sym c.if-not-is_finite.ensures.value) (sym (finite_tested _) ∙ sym c.if-not-is_finite-2.ensures.value) c.in_ok-east.ensures c.in_err-north.ensures

pub returns : goal.returns
returns c =
    let east : to_z w32 (of_z w32 c.in_ok-east.east) ≡ c.in_ok-east.east = search rules in
    let north : to_z w32 (of_z w32 c.in_ok-north.north) ≡ c.in_ok-north.north = search rules in
    (λ k. gives (east k, north k)) ∙ placed_both _ _ c.scale-scaled.ensures (sym (finite_tested _) ∙ sym c.if-not-is_finite.ensures.value) (sym (finite_tested _) ∙ sym c.if-not-is_finite-2.ensures.value) c.in_ok-east.ensures c.in_ok-north.ensures
