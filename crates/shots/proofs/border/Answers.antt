-- `shots::border` meets its contract: the chain stops at the run, or gives the count.
use Rattle.std.proofs.Common.{rules, ◌≡◌, ◌∙◌, ap, Err}
use mathlib.Core.List.{[]}
use Rattle.algebra.specs.Answer.{gives, chain}
use Rattle.shots.specs.Refusals.{answered}
use Rattle.shots.specs.Calls.{border_call_of}
use Rattle.shots.proofs.Patch.{patch_near, patch_few}
use Rattle.shots.proofs.Chains.{run_accepted, run_refused, run_passed}
use Rattle.shots.proofs.border.Goals as goal

pub returns-in_err-accept : goal.returns-in_err-accept
unfolding border_call_of
returns-in_err-accept c =
    let e : c.from_residual.result ≡ Err c.in_err-accept.field-0.0 = search rules in
    ap answered e ∙ run_refused c.args.shots.now [] _ (c.in_err-accept.ensures)

pub side_count-requires : goal.side_count-requires
side_count-requires c = let e = run_accepted c.args.shots.now (c.in_ok-accept.ensures) in ((patch_few c.args.shots.now e).1, patch_near c.args.shots.now e)

pub returns : goal.returns
unfolding border_call_of chain
returns c = ap gives c.side_count.ensures ∙ run_passed c.args.shots.now [] _ (c.in_ok-accept.ensures)
