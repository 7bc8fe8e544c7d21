-- `circuits::circuit` meets its contract: the chain stops at the run, or gives what stands at the place of the number, if there is such a place.
use Rattle.std.proofs.Common.{rules, ◌≡◌, ◌∙◌, ap, Err, [], ◌∷◌, ok_or}
use Rattle.std.specs.Option.{option_copied}
use Rattle.shots.specs.Refusals.{answered}
use Rattle.shots.specs.declared.refusal.Refusal.TheVariants as R
use Rattle.shots.proofs.Patch.{patch_near, patch_few}
use Rattle.shots.proofs.Chains.{run_accepted, run_refused, run_passed}
use Rattle.circuits.specs.Calls.{circuit_rule, circuit_call_of}
use Rattle.circuits.proofs.FoundLaws.{circuit_found}
use Rattle.circuits.proofs.circuit.Goals as goal

pub returns-in_err-accept : goal.returns-in_err-accept
unfolding circuit_call_of
returns-in_err-accept c =
    let a = c.args in
    let e : c.from_residual.result ≡ Err c.in_err-accept.field-0.0 = search rules in
    ap answered e ∙ run_refused a.shots.now (circuit_rule a.shots.now a.z ∷ []) _ c.in_err-accept.ensures

pub fill-requires : goal.fill-requires
fill-requires c =
    let l = c.args.shots.now in
    let ok = run_accepted l c.in_ok-accept.ensures in
    (patch_near l ok, (patch_few l ok).1)

pub returns : goal.returns
unfolding circuit_call_of
returns c =
    let a = c.args in
    let copied : c.ok_or.result ≡ ok_or (option_copied c.get.result) R.Circuit = search rules in
    ap answered copied ∙ circuit_found a.shots.now (c.deref.ensures.0 ∙ c.fill.ensures) a.z c.get.result c.get.ensures.lookup ∙ run_passed a.shots.now (circuit_rule a.shots.now a.z ∷ []) _ c.in_ok-accept.ensures
