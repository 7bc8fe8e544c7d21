-- A run: when it is refused, and what it leaves, for each of its answers.
--
--   run_refuses          a refusal number exactly at its first tests, or at a step after some that were made
--   run_keeps            refused at its first tests: everything stays
--   run_refused_leaves   refused at a step: the steps before it stand, and nothing else is changed
--   run_none             a run of no step tests the first rules and the record, and changes nothing
--   run_made             made: exactly as many steps as were asked for
--   run_done             done: fewer, all made, and then the walk is at step rows × C
--   run_done_at          done is answered exactly where the first tests pass and, after fewer steps than were asked for, all made, one more answers done
--
-- What each of those steps leaves: proofs/StepLaws (`step_made_leaves`, `row_by_row`). Source: document 01, "The walk", "Refusal numbers".
use mathlib.Core.Path.{◌≡◌, sym, ap, ◌∙◌}
use mathlib.Core.Logic.{◌⊎◌, inl, inr, ⊎_elim, ◌↔◌}
use mathlib.Core.List.{List}
use Prim.Native.Nat.{ℕ, ◌+◌, ◌*◌, ◌<◌}
use Rattle.algebra.specs.Answer.{Answer, gives, refuses, First, Clear}
use Rattle.algebra.proofs.AnswerLaws.{given-refused, first_clear, first_one}
use Rattle.reach.specs.Walks.{Ground, WalkRecord, Reply, made, done, Landing, leaves, steps_of, run_of}
use Rattle.reach.specs.Lines.{Lines, Lined, walk_lines, step_lines, RunRefuses}
use Rattle.reach.proofs.StepLaws.{done_made, done_end, run_let}
use Rattle.reach.proofs.RunLaws.{steps_none, steps_count, StopsAt, steps_stopped, stopped_steps}
use Rattle.reach.proofs.LineLaws.{walk_fronted, step_refuses}

abbrev answer_of : Landing Reply → Answer Reply
answer_of x = x.answer

refused_unmade : {n : ℕ} → ◌≡◌ {A = Answer Reply} (refuses n) (gives made) → ⊥
refused_unmade e = given-refused (sym e)

-- ---- made, done

module _ (g : Ground) (t : List ℕ) (w : WalkRecord) (b : ℕ) where
  pub run_made : (run_of g t w b).answer ≡ gives made → (run_of g t w b ≡ steps_of g b t w) × ((run_of g t w b).walk.step ≡ w.step + b)
  run_made e = let q = run_let g t w b e in (q, ap (λ (x : Landing Reply). x.walk.step) q ∙ steps_count g b t w (sym (ap answer_of q) ∙ e))

  pub run_done : (run_of g t w b).answer ≡ gives done
      → (k : ℕ) × (k < b) × ((steps_of g k t w).answer ≡ gives made) × (run_of g t w b ≡ leaves (steps_of g k t w).table (steps_of g k t w).walk (gives done))
      × ((run_of g t w b).walk.step ≡ w.step + k) × ((run_of g t w b).walk.step ≡ (run_of g t w b).walk.rows * g.circuits)
  run_done e =
      let q = run_let g t w b e in
      let (k, (h, m, d), l) = steps_stopped g t w b (gives done) done_made (sym (ap answer_of q) ∙ e) in
      let x = q ∙ l in
      let step = ap (λ (y : Landing Reply). y.walk.step) x in
      (k, h, m, x, step ∙ steps_count g k t w m, step ∙ done_end g _ _ d ∙ ap (λ (y : Landing Reply). y.walk.rows * g.circuits) (sym x))

-- ---- refused

module _ {g : Ground} {L : Lines} (lined : Lined g L) (t : List ℕ) (w : WalkRecord) where
  -- its first tests refuse it, or it is its steps
  run-front : (b : ℕ) → ((n : ℕ) × First n (walk_lines g L t w) × (run_of g t w b ≡ leaves t w (refuses n))) ⊎ (Clear (walk_lines g L t w) × (run_of g t w b ≡ steps_of g b t w))
  unfolding run_of
  run-front b = walk_fronted lined t w (steps_of g b t w)

  pub run_keeps : (b n : ℕ) → First n (walk_lines g L t w) → run_of g t w b ≡ leaves t w (refuses n)
  run_keeps b n f = ⊎_elim (λ (m, f', q). q ∙ ap (λ (i : ℕ). leaves t w (refuses i)) (first_one m n (walk_lines g L t w) f' f)) (λ (c, _). first_clear n (walk_lines g L t w) f c) (run-front b)

  pub run_none : Clear (walk_lines g L t w) → run_of g t w 0 ≡ leaves t w (gives made)
  run_none c = ⊎_elim (λ (n, f, _). first_clear n (walk_lines g L t w) f c) (λ (_, q). q ∙ steps_none g t w) (run-front 0)

  pub run_refused_leaves : (b n : ℕ) → (run_of g t w b).answer ≡ refuses n
      → (First n (walk_lines g L t w) × (run_of g t w b ≡ leaves t w (refuses n)))
      ⊎ (Clear (walk_lines g L t w)
      × ((k : ℕ) × (k < b) × ((steps_of g k t w).answer ≡ gives made) × First n (step_lines g L (steps_of g k t w).table (steps_of g k t w).walk)
      × (run_of g t w b ≡ leaves (steps_of g k t w).table (steps_of g k t w).walk (refuses n))))
  run_refused_leaves b n e = ⊎_elim (λ (m, f, q). let d : m ≡ n = let h = sym (ap answer_of q) ∙ e in cc in inl (rw d at f, q ∙ ap (λ (i : ℕ). leaves t w (refuses i)) d)) (λ (c, q). inr (c, at q)) (run-front b)
    where
      at : run_of g t w b ≡ steps_of g b t w
          → (k : ℕ) × (k < b) × ((steps_of g k t w).answer ≡ gives made) × First n (step_lines g L (steps_of g k t w).table (steps_of g k t w).walk)
          × (run_of g t w b ≡ leaves (steps_of g k t w).table (steps_of g k t w).walk (refuses n))
      at q = let (k, (h, m, d), l) = steps_stopped g t w b (refuses n) refused_unmade (sym (ap answer_of q) ∙ e) in (k, h, m, (step_refuses lined _ _ n).0 d, q ∙ l)

  pub run_refuses : (b n : ℕ) → ((run_of g t w b).answer ≡ refuses n) ↔ RunRefuses g L t w b n
  run_refuses b n = (
    λ e. ⊎_elim (λ (f, _). inl f) (λ (c, (k, h, m, f, _)). inr (c, (k, h, m, f))) (run_refused_leaves b n e),
    ⊎_elim (λ f. ap answer_of (run_keeps b n f))
        (λ (c, (k, h, m, f)). ⊎_elim (λ (i, f', _). first_clear i (walk_lines g L t w) f' c) (λ (_, q). ap answer_of q ∙ stopped_steps g t w b (refuses n) refused_unmade k (h, m, (step_refuses lined _ _ n).1 f)) (run-front b)),
  )

  pub run_done_at : (b : ℕ) → ((run_of g t w b).answer ≡ gives done) ↔ (Clear (walk_lines g L t w) × ((k : ℕ) × StopsAt g t w b (gives done) k))
  run_done_at b = (
    λ e. ⊎_elim (λ (n, _, q). given-refused (sym e ∙ ap answer_of q)) (λ (c, q). let (k, s, _) = steps_stopped g t w b (gives done) done_made (sym (ap answer_of q) ∙ e) in (c, (k, s))) (run-front b),
    λ (c, (k, s)). ⊎_elim (λ (n, f, _). first_clear n (walk_lines g L t w) f c) (λ (_, q). ap answer_of q ∙ stopped_steps g t w b (gives done) done_made k s) (run-front b),
  )
