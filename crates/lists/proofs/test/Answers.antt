-- `lists::test` meets its contract: the chain stops at the run, or goes on as the test of the list answers.
use Rattle.std.proofs.Common.{rules, ◌≡◌, ◌∙◌, ap, Err}
use Rattle.shots.specs.Refusals.{answered}
use Rattle.shots.proofs.Patch.{patch_near, patch_few}
use Rattle.shots.proofs.Chains.{run_accepted, run_refused, run_passed}
use Rattle.triples.specs.Sets.{words_of}
use Rattle.lists.specs.Tests.{list_rules}
use Rattle.lists.specs.Calls.{test_of}
use Rattle.lists.proofs.test.Goals as goal

pub returns-in_err-accept : goal.returns-in_err-accept
unfolding test_of
returns-in_err-accept c =
    let a = c.args in
    let e : c.from_residual.result ≡ Err c.in_err-accept.field-0.0 = search rules in
    ap answered e ∙ run_refused a.shots.now (list_rules a.shots.now (words_of a.list)) tt c.in_err-accept.ensures

pub prepare-requires : goal.prepare-requires
prepare-requires c =
    let l = c.args.shots.now in
    let e = run_accepted l c.in_ok-accept.ensures in
    (patch_near l e, (patch_few l e).1)

pub accept-requires-2 : goal.accept-requires-2
accept-requires-2 c =
    let l = c.args.shots.now in
    ((patch_few l (run_accepted l c.in_ok-accept.ensures)).1, c.prepare.ensures)

pub returns : goal.returns
unfolding test_of
returns c = let a = c.args in c.accept-2.ensures ∙ run_passed a.shots.now (list_rules a.shots.now (words_of a.list)) tt c.in_ok-accept.ensures
