-- `walks::run` meets its contract: the run's first rules refuse, or the steps are made over what is worked out.
use Rattle.std.proofs.Common.{rules, ◌≡◌, refl, ◌∙◌, sym, ap, ℕ, ◌/◌, Bool, true, false, List, [], ◌∷◌, length, Err}
use lib.IntN.{ℤ}
use native.Mathlib.Omega.{arith}
use native.Mathlib.Nat.{min-le_right}
use Rattle.algebra.specs.Answer.{gives, refuses}
use Rattle.reach.specs.Walks.{WalkRecord, rows_most, leaves, only_if, record_rule, capacity_of, impossible, run_of, steps_of}
use Rattle.reach.proofs.StepLaws.{walk-impossible}
use Rattle.shots.specs.Tests.{refusal_of}
use Rattle.shots.specs.Calls.{accept_of}
use Rattle.shots.proofs.Patch.{patch_few}
use Rattle.shots.proofs.Chains.{shots_numbered, run_accepted, run_refused}
use Rattle.circuits.specs.Numbering.{circuits_of}
use Rattle.circuits.proofs.FoundLaws.{found_count, found_most}
use Rattle.triples.specs.Sizes.{word_count}
use Rattle.ready.specs.declared.kernel.Ready.{Ready}
use Rattle.ready.specs.Ready.{ReadyFor}
use Rattle.walks.specs.Calls.{ground_of, read_walk, step_landing}
use Rattle.walks.specs.Going.{Going}
use Rattle.walks.proofs.IndexLaws.{indexed_none}
use Rattle.walks.proofs.StepsLaws.{going_fits, run_steps}
use Rattle.walks.proofs.run.Goals as goal

-- the first rules of a run: they refuse, or let it go; m, r, c and v are what the callees gave
module _ (l : List ℤ) (t : List ℕ) (w : WalkRecord) where
  run-refused : (b : ℕ) {n : ℕ} → refuses n ≡ accept_of l → leaves t w (refuses n) ≡ run_of (ground_of l) t w b
  unfolding run_of
  run-refused b e = ap (only_if t w) (run_refused l (record_rule (ground_of l) t w ∷ []) (steps_of (ground_of l) b t w) e)

  module _ (ok : gives tt ≡ accept_of l) {m : ℕ} (room : m ≡ capacity_of word_count (length t)) {r : Ready} (ready : ReadyFor l r) {c : ℕ} (count : c ≡ length r.held.circuits.items) {v : Bool} (is : v ≡ impossible m w c) where
    -- 15, by what the code has
    asked : impossible (capacity_of word_count (length t)) w (length (circuits_of l)) ≡ v
    asked = (λ i. impossible (sym room i) w (sym (count ∙ found_count l ready.tests.circuits) i)) ∙ sym is

    run-impossible : (b : ℕ) → v ≡ true → leaves t w (refuses 15) ≡ run_of (ground_of l) t w b
    unfolding run_of refusal_of
    run-impossible b e = sym (walk-impossible (ground_of l) t w (steps_of (ground_of l) b t w) (shots_numbered l) (run_accepted l ok) (asked ∙ e))

    run-goes : v ≡ false → Going l r t w
    run-goes e = record { patch = run_accepted l ok; ready = ready; possible = asked ∙ e }

pub returns-in_err-accept : goal.returns-in_err-accept
returns-in_err-accept c =
    let a = c.args in
    let e : c.from_residual.result ≡ Err c.in_err-accept.field-0.0 = search rules in
    ap (λ r. step_landing r a.walk.now a.table.now) e ∙ run-refused a.shots.now _ _ a.b c.in_err-accept.ensures

pub prepare-requires : goal.prepare-requires
prepare-requires c = run_accepted c.args.shots.now c.in_ok-accept.ensures

pub impossible-requires : goal.impossible-requires
impossible-requires c =
    let l = c.args.shots.now in
    let m = min-le_right (length c.args.table.now / word_count) rows_most in
    let f = found_most l c.prepare.ensures.tests.circuits (patch_few l (run_accepted l c.in_ok-accept.ensures)).1 in
    (omega (arith, c.capacity.ensures, m), omega (arith, c.len.ensures.value, f))

pub returns-then-impossible : goal.returns-then-impossible
returns-then-impossible c =
    let a = c.args in
    run-impossible a.shots.now _ _ c.in_ok-accept.ensures c.capacity.ensures c.prepare.ensures c.len.ensures.value c.impossible.ensures a.b c.if-impossible.true

pub invariant_of-known-clause-indexed : goal.invariant_of-known-clause-indexed
invariant_of-known-clause-indexed c = indexed_none c.args.table.now

pub fill-requires : goal.fill-requires
fill-requires c = (refl, going_fits (run-goes _ _ _ c.in_ok-accept.ensures c.capacity.ensures c.prepare.ensures c.len.ensures.value c.impossible.ensures c.if-impossible.false))

pub several-answer-requires : goal.several-answer-requires
several-answer-requires c =
    let same = c.fill.ensures.same_values in
    rw (same.0, same.1) (run-goes _ _ _ c.in_ok-accept.ensures c.capacity.ensures c.prepare.ensures c.len.ensures.value c.impossible.ensures c.if-impossible.false)

pub returns : goal.returns
returns c =
    let a = c.args in
    let g = ground_of a.shots.now in
    let same = c.fill.ensures.same_values in
    let going = run-goes _ _ _ c.in_ok-accept.ensures c.capacity.ensures c.prepare.ensures c.len.ensures.value c.impossible.ensures c.if-impossible.false in
    ap (λ (t : List ℕ). step_landing c.several-answer.result c.several-answer.new.known.walk t) (search rules)
    ∙ c.several-answer.ensures.leaves
    ∙ (λ i. steps_of g a.b (same.0 i) (read_walk (same.1 i))) ∙ run_steps going a.b
