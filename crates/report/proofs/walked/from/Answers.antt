-- `report::walked::from` meets its contract: a start in a table of zeros, a run that is long enough, and what its end is told as.
use Rattle.std.proofs.Common.{◌≡◌, ◌∙◌, sym, ap, ℕ, List, replicate, Ok, Err, Result, Bool, length, is_ok}
use lib.IntN.{ℤ}
use Rattle.algebra.specs.Answer.{Answer, gives, refuses}
use Rattle.reach.specs.Walks.{WalkRecord, Begun, Reply, Landing, leaves, run_of, start_of}
use Rattle.triples.specs.Sets.{words_of}
use Rattle.walks.specs.Calls.{ground_of}
use Rattle.report.specs.Sizes.{table_words, steps_most}
use Rattle.report.specs.Report.{no_walk, begun_of, walk_of, end_find, walk_find}
use Rattle.report.proofs.WalkLaws.{begun_started, walk_not_made, walk_full}
use Rattle.algebra.specs.Words.{Words}
use Rattle.algebra.proofs.AnswerLaws.{given-refused}
use Rattle.triples.specs.Sizes.{word_count}
use Rattle.triples.proofs.SetLaws.{words-of}
use Rattle.lists.specs.Calls.{test_of}
use Rattle.shots.specs.declared.refusal.Refusal.{Refusal}
use Rattle.walks.specs.Calls.{step_landing}
use Rattle.walks.specs.declared.Walk.{Walk}
use Rattle.walks.specs.declared.Progress.{Progress}
use Rattle.walks.specs.declared.Progress.TheVariants as P
use native.Mathlib.Omega.{arith}
use Rattle.shots.specs.Refusals.{number_of}
use Rattle.report.specs.Report.{ended_in, read_found}
use Rattle.report.proofs.walked.from.Goals as goal

module _ (l : List ℤ) (w : List ℕ) where
  -- a start in a table of zeros
  begun : {x : Landing Begun} (t : List ℕ) → x ≡ start_of (ground_of l) t no_walk w → t ≡ replicate table_words 0 → x ≡ begun_of l w
  unfolding begun_of
  begun t e z = e ∙ ap (λ (u : List ℕ). start_of (ground_of l) u no_walk w) z

  -- a run from where the start ended
  run-from : (t : List ℕ) (v : WalkRecord) (a : Answer Begun) → leaves t v a ≡ begun_of l w → run_of (ground_of l) t v steps_most ≡ walk_of l w
  unfolding walk_of
  run-from t v a e = λ k. run_of (ground_of l) (e k).table (e k).walk steps_most

  find-of : (x : Landing Reply) → x ≡ walk_of l w → end_find (record { walk = x.walk; table = x.table }) x.answer ≡ walk_find l w
  unfolding walk_find
  find-of x e = ap (λ (y : Landing Reply). end_find (record { walk = y.walk; table = y.table }) y.answer) e

  -- the start is not refused
  not_refused : {t : List ℕ} {v : WalkRecord} {n : ℕ} → test_of l w ≡ gives tt → leaves t v (refuses n) ≡ begun_of l w → ⊥
  not_refused accepted e = given-refused (sym (ap (λ (x : Landing Begun). x.answer) e ∙ begun_started l w accepted))

  module _ (accepted : test_of l w ≡ gives tt) (size : length w ≡ word_count) (words : Words word_count w) where
    -- the run's end, whichever it is
    ends : (r : Result Progress Refusal) {t : List ℕ} {v : Walk} {b : Bool} → step_landing r v t ≡ walk_of l w → b ≡ is_ok r → read_found (Ok (record { walk = v; complete = b })) t ≡ walk_find l w
    ends (Ok P.Done) {t} {v} e h = ap (λ (b : Bool). read_found (Ok (record { walk = v; complete = b })) t) h ∙ find-of _ e
    ends (Ok P.Made) e h = absurd (walk_not_made l w accepted size (sym (ap (λ (x : Landing Reply). x.answer) e)))
    ends (Err r) {t} {v} e h =
        ap (λ (b : Bool). read_found (Ok (record { walk = v; complete = b })) t) h
        ∙ ap (λ (n : ℕ). end_find (ended_in t v) (refuses n)) (sym (walk_full l w accepted words (number_of r) (sym (ap (λ (x : Landing Reply). x.answer) e))))
        ∙ find-of _ e

pub returns-in_err-start : goal.returns-in_err-start
returns-in_err-start c = absurd (not_refused c.args.shots.now (words_of c.args.list) c.requires.1 (begun c.args.shots.now (words_of c.args.list) c.args.table.now c.in_err-start.ensures c.requires.2))

pub returns : goal.returns
returns c =
    let l = c.args.shots.now in
    let w = words_of c.args.list in
    ends l w c.requires.1 (omega arith) (words-of c.args.list c.well_formed.1.0) c.run.result (c.run.ensures ∙ run-from l w _ _ _ (begun l w c.args.table.now c.in_ok-start.ensures c.requires.2)) c.is_ok-complete.ensures.value
