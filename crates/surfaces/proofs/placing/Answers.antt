-- `surfaces::placing` meets its contract: the chain stops at the run, or gives the list.
use Rattle.std.proofs.Common.{rules, refl, ◌≡◌, ◌∙◌, ap, Err, []}
use native.Mathlib.Omega.{arith}
use Rattle.algebra.specs.Answer.{gives, chain}
use Rattle.shots.specs.Refusals.{answer_of}
use Rattle.shots.proofs.Patch.{patch_few}
use Rattle.shots.proofs.Chains.{run_accepted, run_refused, run_passed}
use Rattle.triples.specs.Sets.{words_of}
use Rattle.surfaces.specs.Placing.{placed_of}
use Rattle.surfaces.specs.Calls.{placing_of}
use Rattle.surfaces.proofs.placing.Goals as goal

pub returns-in_err-accept : goal.returns-in_err-accept
unfolding placing_of
returns-in_err-accept c =
    let e : c.from_residual.result ≡ Err c.in_err-accept.field-0.0 = search rules in
    ap (answer_of words_of) e ∙ run_refused c.args.shots.now [] _ c.in_err-accept.ensures

pub fill-requires : goal.fill-requires
fill-requires c = let l = c.args.shots.now in let few = (patch_few l (run_accepted l c.in_ok-accept.ensures)).1 in (few, omega (arith, few))

pub all-requires : goal.all-requires
all-requires c = (run_accepted c.args.shots.now c.in_ok-accept.ensures, refl)

pub invariant_of-all : goal.invariant_of-all
invariant_of-all c =
    let few = (patch_few _ (run_accepted c.args.shots.now c.in_ok-accept.ensures)).1 in
    record { few = few; room = omega (arith, few, c.fill.ensures.0); holding = c.fill.ensures.1 }

pub returns : goal.returns
unfolding placing_of chain
returns c = let l = c.args.shots.now in ap gives c.all.ensures ∙ run_passed l [] (placed_of l) c.in_ok-accept.ensures
