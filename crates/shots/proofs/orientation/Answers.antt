-- `shots::orientation` meets its contract: the chain stops at the run, at the numbers, or gives the area.
use Rattle.std.proofs.Common.{rules, ◌≡◌, ◌∙◌, ap, Err}
use mathlib.Core.List.{[], ◌∷◌}
use mir.Syntax.{w64}
use Rattle.algebra.proofs.SizeLaws.{read_back}
use Rattle.shots.specs.Refusals.{answered}
use Rattle.shots.specs.Patch.{count_of}
use Rattle.shots.specs.Calls.{orientation_of, shots_rule}
use Rattle.shots.proofs.Patch.{patch_near}
use Rattle.shots.proofs.Chains.{all_below, run_accepted, run_refused, rule_breaks, rule_keeps}
use Rattle.shots.proofs.orientation.Goals as goal

pub returns-in_err-accept : goal.returns-in_err-accept
unfolding orientation_of
returns-in_err-accept c =
    let a = c.args in
    let e : c.from_residual.result ≡ Err c.in_err-accept.field-0.0 = search rules in
    ap answered e ∙ run_refused a.shots.now (shots_rule a.shots.now a.a a.b a.c ∷ []) _ c.in_err-accept.ensures

pub returns-then-no_shot : goal.returns-then-no_shot
unfolding orientation_of
returns-then-no_shot c = let a = c.args in rule_breaks a.shots.now (shots_rule a.shots.now a.a a.b a.c) _ c.in_ok-accept.ensures c.no_shot.ensures c.if-no_shot.true

pub area-requires : goal.area-requires
area-requires c =
    let a = c.args in
    let n = count_of a.shots.now in
    let h = all_below n a.a n a.b n a.c c.no_shot.ensures c.if-no_shot.false in
    (h.0, h.1, h.2, patch_near a.shots.now (run_accepted a.shots.now c.in_ok-accept.ensures))

pub returns : goal.returns
unfolding orientation_of
returns c =
    let a = c.args in
    rule_keeps a.shots.now (shots_rule a.shots.now a.a a.b a.c) _ c.in_ok-accept.ensures c.no_shot.ensures c.if-no_shot.false
    (read_back w64 c.area.result c.area.type_inv c.area.ensures)
