-- `walks::steps::several` meets its contract: the b steps answer what those that are left do, from here on.
use Rattle.std.proofs.Common.{rules, ◌≡◌, ◌∙◌, refl, sym, ap, subst, ℕ, ◌-◌, ◌*◌, ◌/◌, ◌%◌, ◌<◌, ◌≤◌, Err}
use native.Mathlib.Omega.{arith}
use native.Mathlib.Nat.{le_of_lt, mod-lt}
use Rattle.algebra.proofs.AnswerLaws.{given-refused}
use Rattle.algebra.specs.Words.{row_of}
use Rattle.reach.specs.Walks.{steps_of}
use Rattle.reach.proofs.ReachLaws.{tried-row}
use Rattle.reach.proofs.StepLaws.{done_made}
use Rattle.reach.proofs.RunLaws.{steps_none, steps_one}
use Rattle.shots.proofs.Patch.{patch_few}
use Rattle.triples.specs.Sizes.{word_count}
use Rattle.triples.specs.Sets.{words_of}
use Rattle.lists.specs.Tests.{list_refusal_of}
use Rattle.lists.proofs.Chains.{list_accepted}
use Rattle.walks.specs.Calls.{ground_of, read_walk, step_landing}
use Rattle.walks.proofs.StepsLaws.{turn_facts, going_count, going_ahead, going_some, going_small, going_room, going_stop, going_on, going_left, wrote_on, step_ends, step_unlisted}
use Rattle.walks.proofs.steps.several.Goals.{then-p-lent+in_ok-accept, else-p-lent}
use Rattle.walks.proofs.steps.several.Goals as goal

pub overflow_mul-known : goal.overflow_mul-known
overflow_mul-known c = let h = going_small c.loop-left.invariant.2 (going_count c.loop-left.invariant.2 c.len-count.ensures.value) in record { fits = omega arith }

pub returns-then-known-count-clause-leaves : goal.returns-then-known-count-clause-leaves
returns-then-known-count-clause-leaves c =
    let g = ground_of c.args.shots.now in
    let i = c.loop-left.invariant in
    going_stop i.2 1 (sym (steps_one g c.loop-left.known.table.now (read_walk c.loop-left.known.walk) ∙ step_ends i.2 (going_count i.2 c.len-count.ensures.value) c.if-known-count.true)) c.loop-left-test.true (λ e. done_made e) ∙ sym i.1

pub nonzero_div-p : goal.nonzero_div-p
nonzero_div-p c = going_some c.loop-left.invariant.2 (going_count c.loop-left.invariant.2 c.len-count.ensures.value) c.if-known-count.false

pub row-row-requires : goal.row-row-requires
row-row-requires c = let g = c.loop-left.invariant.2 in let n = going_count g c.len-count.ensures.value in going_room g n (going_ahead g n c.if-known-count.false)

pub accept-requires : goal.accept-requires
accept-requires c = let g = c.loop-left.invariant.2 in ((patch_few _ g.patch).1, g.ready.tests)

pub returns-in_err-accept-clause-leaves : goal.returns-in_err-accept-clause-leaves
returns-in_err-accept-clause-leaves c =
    let g = ground_of c.args.shots.now in
    let i = c.loop-left.invariant in
    let t = c.loop-left.known.table.now in
    let v = c.loop-left.known.walk in
    let n = going_count i.2 c.len-count.ensures.value in
    let e : c.from_residual.result ≡ Err c.in_err-accept.field-0.0 = search rules in
    ap (λ r. step_landing r v t) e
    ∙ going_stop i.2 1 (sym (steps_one g t (read_walk v) ∙ step_unlisted i.2 n (words_of c.row-row.result) (going_ahead i.2 n c.if-known-count.false) c.row-row.ensures c.in_err-accept.ensures)) c.loop-left-test.true (λ q. given-refused (sym q))
    ∙ sym i.1

pub nonzero_rem-known : goal.nonzero_rem-known
nonzero_rem-known c = going_some c.loop-left.invariant.2 (going_count c.loop-left.invariant.2 c.len-count.ensures.value) c.if-known-count.false

pub overflow_sub-count : goal.overflow_sub-count
overflow_sub-count c = le_of_lt (mod-lt c.loop-left.known.walk.step (going_some c.loop-left.invariant.2 (going_count c.loop-left.invariant.2 c.len-count.ensures.value) c.if-known-count.false))

pub along-requires : goal.along-requires
along-requires c =
    let l = c.args.shots.now in
    let i = c.loop-left.invariant in
    let v = c.loop-left.known.walk in
    let n = c.len-count.result in
    let is = going_count i.2 c.len-count.ensures.value in
    let h = going_ahead i.2 is c.if-known-count.false in
    let accepted : list_refusal_of l (words_of c.row-row.result) ≡ 0 =
    elim c.if-p-lent.branch [
      | then-p-lent+in_ok-accept w ↦ list_accepted l (words_of c.row-row.result) w.in_ok-accept.ensures
      | else-p-lent w ↦ ap (list_refusal_of l) c.row-row.ensures ∙ i.3 (v.step / n) w.if-p-lent.false (tried-row v.rows v.step n h)
    ] in
    let few = (turn_facts v.step n c.loop-left.left _ c.loop-left-test.true (going_some i.2 is c.if-known-count.false) c.min-turn.ensures).2 in
    let by = λ (m : ℕ). (v.step < v.rows * m) × (c.min-turn.result ≤ m - v.step % m) × (words_of c.row-row.result ≡ row_of word_count c.loop-left.known.table.now (v.step / m)) in
    let (below, on, row) = subst by is (h, few, c.row-row.ensures) in
    (record { going = i.2; ahead = below; stands = row; accepted = accepted }, on)

pub returns-in_err-along-clause-leaves : goal.returns-in_err-along-clause-leaves
returns-in_err-along-clause-leaves c =
    let i = c.loop-left.invariant in
    let u = c.along.new.known.table.now in
    let v = c.along.new.known.walk in
    let e : c.from_residual-in_err-along.result ≡ Err c.in_err-along.field-0.0 = search rules in
    ap (λ r. step_landing r v u) e ∙ going_stop i.2 c.min-turn.result c.in_err-along.ensures.leaves (omega (arith, c.min-turn.ensures)) (λ q. given-refused (sym q)) ∙ sym i.1

pub loop-left-smaller : goal.loop-left-smaller
loop-left-smaller c =
    let f = turn_facts c.loop-left.known.walk.step c.len-count.result c.loop-left.left _ c.loop-left-test.true (going_some c.loop-left.invariant.2 (going_count c.loop-left.invariant.2 c.len-count.ensures.value) c.if-known-count.false) c.min-turn.ensures in
    omega (arith, f.0, f.1)

pub loop-left-preserved : goal.loop-left-preserved
loop-left-preserved c =
    let i = c.loop-left.invariant in
    let n = c.min-turn.result in
    let is = c.in_ok-along.ensures.leaves in
    (c.along.ensures.same_reference ∙ i.0, i.1 ∙ going_left i.2 n is refl (omega (arith, c.min-turn.ensures)), going_on i.2 n is refl, wrote_on i.2 n is refl i.3)

pub returns-clause-leaves : goal.returns-clause-leaves
returns-clause-leaves c =
    let g = ground_of c.args.shots.now in
    let i = c.loop-left.invariant in
    sym (i.1 ∙ ap (λ (n : ℕ). steps_of g n c.loop-left.known.table.now (read_walk c.loop-left.known.walk)) (omega arith) ∙ steps_none g c.loop-left.known.table.now (read_walk c.loop-left.known.walk))
