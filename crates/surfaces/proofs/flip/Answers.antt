-- `surfaces::flip` meets its contract: the chain stops at the run, at the list or at the circuit's number, or at the stars of the circuit's sides, neither of which is supported, or gives the list.
use Rattle.std.proofs.Common.{rules, ◌≡◌, ◌∙◌, refl, ap, ◌*◌, ◌≤◌, List, length, Option, Some, None, Err, option_map}
use lib.IntN.{ℤ}
use native.Mathlib.Omega.{arith}
use Rattle.algebra.specs.Answer.{gives}
use Rattle.shots.specs.Sizes.{shots_most}
use Rattle.std.specs.Option.{ok_or}
use Rattle.shots.specs.Refusals.{answer_of}
use Rattle.shots.specs.declared.refusal.Refusal.TheVariants as R
use Rattle.shots.specs.Patch.{count_of}
use Rattle.shots.specs.Calls.{accept_of}
use Rattle.shots.proofs.Patch.{patch_near, patch_few}
use Rattle.shots.proofs.Chains.{run_accepted}
use Rattle.circuits.proofs.FoundLaws.{found_count}
use Rattle.lists.proofs.HeldLaws.{held_low, held_sides}
use Rattle.lists.specs.Held.{held_rows}
use Rattle.triples.specs.Sizes.{word_count}
use Rattle.triples.specs.Sets.{words_of}
use Rattle.triples.specs.declared.Triples.{Triples}
use Rattle.triples.proofs.SetLaws.{words-of}
use Rattle.surfaces.specs.Stars.{found_answer}
use Rattle.surfaces.proofs.ByStars.{sum_below, sum_low}
use Rattle.surfaces.proofs.CallChains.{flip_stops, flip_unlisted, flip_unnumbered, flip_turned}
use Rattle.surfaces.proofs.flip.Goals as goal

pub returns-in_err-accept : goal.returns-in_err-accept
returns-in_err-accept c =
    let a = c.args in
    let e : c.from_residual.result ≡ Err c.in_err-accept.field-0.0 = search rules in
    ap (answer_of words_of) e ∙ flip_stops a.shots.now (words_of a.list) a.z c.in_err-accept.ensures

-- an accepted run has few shots
few : (l : List ℤ) → gives tt ≡ accept_of l → count_of l ≤ shots_most
few l e = (patch_few l (run_accepted l e)).1

pub prepare-requires : goal.prepare-requires
prepare-requires c = let l = c.args.shots.now in (patch_near l (run_accepted l c.in_ok-accept.ensures), few l c.in_ok-accept.ensures)

pub accept-requires-2 : goal.accept-requires-2
accept-requires-2 c = (few c.args.shots.now c.in_ok-accept.ensures, c.prepare.ensures)

pub returns-in_err-accept-2 : goal.returns-in_err-accept-2
returns-in_err-accept-2 c =
    let a = c.args in
    let e : c.from_residual-in_err-accept-2.result ≡ Err c.in_err-accept-2.field-0.0 = search rules in
    ap (answer_of words_of) e ∙ flip_unlisted a.shots.now (words_of a.list) a.z c.in_ok-accept.ensures c.in_err-accept-2.ensures

pub returns-in_default : goal.returns-in_default
returns-in_default c =
    let a = c.args in
    let held = c.prepare.ensures in
    flip_unnumbered a.shots.now (words_of a.list) a.z c.in_ok-accept.ensures c.in_ok-accept-2.ensures
    (omega (arith, found_count a.shots.now (c.deref.ensures.0 ∙ held.circuits), c.in_default.ensures.lookup.3))

pub overflow_add-x : goal.overflow_add-x
overflow_add-x c =
    let a = c.args in
    let l = a.shots.now in
    let e = c.deref.ensures.0 in
    let g = c.in-Some.ensures.lookup in
    let low = held_low l c.prepare.ensures e a.z g.3.0 in
    let sides = held_sides l c.prepare.ensures e a.z low c.in-Some.side.now g.1 in
    record { fits = sum_low l (few l c.in_ok-accept.ensures) a.z low _ _ sides }

pub invariant_of-holders : goal.invariant_of-holders
invariant_of-holders c =
    let n = few c.args.shots.now c.in_ok-accept.ensures in
    let long : length c.prepare.new.held.rows ≡ word_count * held_rows = search rules in
    record { few = n; room = omega (arith, n, long); holding = c.prepare.ensures.table.holding }

pub between-requires : goal.between-requires
between-requires c =
    let a = c.args in
    let l = a.shots.now in
    let e = c.deref.ensures.0 in
    let g = c.in-Some.ensures.lookup in
    let low = held_low l c.prepare.ensures e a.z g.3.0 in
    let sides = held_sides l c.prepare.ensures e a.z low c.in-Some.side.now g.1 in (
      sum_below l (few l c.in_ok-accept.ensures) a.z low _ _ sides,
      (_, c.star.ensures),
      (_, c.star-2.ensures),
    )

-- what `ok_or` makes of what is found
given : (o : Option Triples) → answer_of words_of (ok_or o R.Flip) ≡ found_answer (option_map words_of o)
given None = refl
given (Some t) = refl

pub returns : goal.returns
returns c =
    let a = c.args in
    let l = a.shots.now in
    let e = c.deref.ensures.0 in
    let g = c.in-Some.ensures.lookup in
    let low = held_low l c.prepare.ensures e a.z g.3.0 in
    let sides = held_sides l c.prepare.ensures e a.z low c.in-Some.side.now g.1 in
    ap (answer_of words_of) c.ok_or.ensures.value ∙ given c.between.result
    ∙ flip_turned l (words_of a.list) a.z c.in_ok-accept.ensures c.in_ok-accept-2.ensures (words-of a.list c.well_formed.1.0) low _ _ sides c.star.ensures c.star-2.ensures c.between.ensures
