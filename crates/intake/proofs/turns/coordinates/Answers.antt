-- `intake::turns::coordinates` meets its contract: after i turns the coordinates of the shots from i on are still to be written, and their rules to be looked at.
use Rattle.std.proofs.Common.{rules, ◌≡◌, refl, ◌∙◌, ap, Err, ◌+◌, ◌*◌, w32, to_z, of_z}
use lib.ListN.{set, drop, length-set}
use Rattle.algebra.specs.Writing.{wrote}
use Rattle.shots.specs.Refusals.{answered}
use Rattle.intake.specs.Scaling.{millimetres_of}
use Rattle.intake.proofs.TurnLaws.{writes_none, kept_none, turns_end, turn_stops, turn_goes, turn_writes}
use Rattle.intake.proofs.turns.coordinates.Goals as goal

pub loop-i-init : goal.loop-i-init
loop-i-init c = (refl, writes_none _ _, kept_none _ _)

pub returns-in_err-east : goal.returns-in_err-east
returns-in_err-east c =
    let e : c.from_residual.result ≡ Err c.in_err-east.field-0.0 = search rules in
    ap answered e ∙ turn_stops _ _ _ _ c.loop-i-test.true c.loop-i.invariant.2 c.in_err-east.ensures

pub loop-i-preserved : goal.loop-i-preserved
loop-i-preserved c =
    let east : to_z w32 (of_z w32 c.in_ok-east.east) ≡ c.in_ok-east.east = search rules in
    let north : to_z w32 (of_z w32 c.in_ok-east.north) ≡ c.in_ok-east.north = search rules in (
      length-set (set c.loop-i.out _ _) _ _ ∙ length-set c.loop-i.out _ _ ∙ c.loop-i.invariant.0,
      (λ k. wrote (set (set c.loop-i.out (2 * c.loop-i.i) (east k)) (2 * c.loop-i.i + 1) (north k)) (2 * (c.loop-i.i + 1)) (millimetres_of c.args.foot (drop (c.loop-i.i + 1) c.args.shots.now)))
          ∙ turn_writes _ _ _ _ c.loop-i-test.true c.in_ok-east.ensures c.loop-i.out c.loop-i.invariant.1,
      turn_goes _ _ _ _ c.loop-i-test.true c.in_ok-east.ensures c.loop-i.invariant.2,
    )

pub returns : goal.returns
returns c = turns_end _ _ _ c.loop-i-test.false c.loop-i.invariant.1 c.loop-i.invariant.2
