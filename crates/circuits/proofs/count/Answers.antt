-- `circuits::count` meets its contract: the chain stops at the run, or gives how many circuits were found.
use Rattle.std.proofs.Common.{rules, ◌≡◌, ◌∙◌, ap, Err, []}
use Rattle.algebra.specs.Answer.{gives, chain}
use Rattle.shots.specs.Refusals.{answered}
use Rattle.shots.proofs.Patch.{patch_near, patch_few}
use Rattle.shots.proofs.Chains.{run_accepted, run_refused, run_passed}
use Rattle.circuits.specs.Calls.{count_call_of}
use Rattle.circuits.proofs.FoundLaws.{found_count}
use Rattle.circuits.proofs.count.Goals as goal

pub returns-in_err-accept : goal.returns-in_err-accept
unfolding count_call_of
returns-in_err-accept c =
    let e : c.from_residual.result ≡ Err c.in_err-accept.field-0.0 = search rules in
    ap answered e ∙ run_refused c.args.shots.now [] _ c.in_err-accept.ensures

pub fill-requires : goal.fill-requires
fill-requires c =
    let l = c.args.shots.now in
    let ok = run_accepted l c.in_ok-accept.ensures in
    (patch_near l ok, (patch_few l ok).1)

pub returns : goal.returns
unfolding count_call_of chain
returns c = ap gives (c.len.ensures.value ∙ found_count _ c.fill.ensures) ∙ run_passed c.args.shots.now [] _ c.in_ok-accept.ensures
