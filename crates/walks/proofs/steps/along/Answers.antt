-- `walks::steps::along` meets its contract: the b steps answer what those that are left do, from here on.
use Rattle.std.proofs.Common.{rules, ◌≡◌, ◌∙◌, refl, sym, ap, ℕ, ◌/◌, ◌%◌, ◌<◌, length, Err}
use native.Mathlib.Omega.{arith}
use Rattle.algebra.specs.Words.{row_of}
use Rattle.algebra.proofs.AnswerLaws.{given-refused}
use Rattle.reach.specs.Walks.{steps_of}
use Rattle.reach.proofs.ReachLaws.{tried-row}
use Rattle.reach.proofs.RunLaws.{steps_none, steps_one}
use Rattle.circuits.specs.Numbering.{circuits_of}
use Rattle.triples.specs.Sizes.{word_count}
use Rattle.walks.specs.Calls.{ground_of, read_walk, made_landing}
use Rattle.walks.proofs.StepsLaws.{along_row, going_count, going_stop, going_on, going_left, step_counts, rows_grow, rows_stay}
use Rattle.walks.proofs.steps.along.Goals as goal

pub one-requires : goal.one-requires
one-requires c =
    let s = c.args.known.now.walk in
    let r = c.requires.0 in
    let i = c.loop-z.invariant in
    let n = length (circuits_of c.args.shots.now) in
    let first : s.step % c.len.result ≡ s.step % n = ap (λ (k : ℕ). s.step % k) (going_count r.going c.len.ensures.value) in
    let in_row : c.loop-z.z < n = omega (arith, c.loop-z-test.true, first, c.requires.1) in
    let row : s.step / n < c.loop-z.known.walk.rows = omega (arith, tried-row s.rows s.step n r.ahead, i.3) in
    let on = along_row s.step n c.loop-z.z c.loop-z.known.walk.rows c.loop-z.known.walk.step (omega (arith, first)) in_row (omega (arith, i.4, first)) row in
    (record { going = i.2; ahead = on.0; stands = sym i.5 ∙ ap (row_of word_count c.loop-z.known.table.now) (sym on.1); accepted = r.accepted }, on.2)

pub returns-in_err-one-clause-leaves : goal.returns-in_err-one-clause-leaves
returns-in_err-one-clause-leaves c =
    let g = ground_of c.args.shots.now in
    let i = c.loop-z.invariant in
    let v = c.one.new.known.walk in
    let u = c.one.new.known.table.now in
    let e : c.from_residual.result ≡ Err c.in_err-one.field-0.0 = search rules in
    ap (λ r. made_landing r v u) e
    ∙ going_stop i.2 1 (c.in_err-one.ensures.leaves ∙ sym (steps_one g c.loop-z.known.table.now (read_walk c.loop-z.known.walk))) (omega (arith, c.loop-z-test.true)) (λ q. given-refused (sym q))
    ∙ sym i.1

pub loop-z-preserved : goal.loop-z-preserved
loop-z-preserved c =
    let g = ground_of c.args.shots.now in
    let i = c.loop-z.invariant in
    let s = c.args.known.now.walk in
    let v = c.one.new.known.walk in
    let u = c.one.new.known.table.now in
    let is = c.in_ok-one.ensures.leaves ∙ sym (steps_one g c.loop-z.known.table.now (read_walk c.loop-z.known.walk)) in
    let n = length (circuits_of c.args.shots.now) in
    let row : s.step / n < c.loop-z.known.walk.rows = omega (arith, tried-row s.rows s.step n c.requires.0.ahead, i.3) in (
      c.one.ensures.same_reference ∙ i.0,
      i.1 ∙ going_left i.2 1 is refl (omega (arith, c.loop-z-test.true)) ∙ ap (λ (n : ℕ). steps_of g n u (read_walk v)) (omega arith),
      going_on i.2 1 is refl,
      omega (arith, i.3, rows_grow i.2 1 is refl),
      omega (arith, i.4, step_counts i.2 1 is refl),
      rows_stay i.2 1 is refl (s.step / n) row ∙ i.5,
    )

pub returns-clause-leaves : goal.returns-clause-leaves
returns-clause-leaves c =
    let g = ground_of c.args.shots.now in
    let i = c.loop-z.invariant in
    sym (i.1 ∙ ap (λ (n : ℕ). steps_of g n c.loop-z.known.table.now (read_walk c.loop-z.known.walk)) (omega arith) ∙ steps_none g c.loop-z.known.table.now (read_walk c.loop-z.known.walk))
