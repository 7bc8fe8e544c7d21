-- `intake::taken` meets its contract: a shot is refused, the whole numbers are, or they are handed out.
use Rattle.std.proofs.Common.{rules, ◌≡◌, refl, ◌∙◌, ap, Err, length}
use Rattle.shots.specs.Calls.{read_patch}
use Rattle.intake.proofs.CallChains.{take_turned, take_unplaced, take_taken}
use Rattle.intake.proofs.taken.Goals as goal

pub returns-in_err-coordinates : goal.returns-in_err-coordinates
returns-in_err-coordinates c =
    let e : c.from_residual.result ≡ Err c.in_err-coordinates.field-0.0 = search rules in
    ap read_patch e ∙ take_turned c.args.foot c.args.shots.now (length c.args.shots.now) c.requires c.in_err-coordinates.ensures

pub returns-in_err-accept : goal.returns-in_err-accept
returns-in_err-accept c =
    let e : c.from_residual-in_err-accept.result ≡ Err c.in_err-accept.field-0.0 = search rules in
    ap read_patch e ∙ take_unplaced c.args.foot c.args.shots.now (length c.args.shots.now) c.requires refl c.in_ok-coordinates.ensures c.in_err-accept.ensures

pub returns : goal.returns
returns c = take_taken c.args.foot c.args.shots.now (length c.args.shots.now) c.requires refl c.in_ok-coordinates.ensures c.in_ok-accept.ensures
