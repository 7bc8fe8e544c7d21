-- What the public calls of this room promise.
--
--   patch_lined               a patch refuses as its lines say
--   start_refuses, step_refuses, run_refuses    a refusal number exactly when its line is the first that holds
--   start_starts              started exactly when no line holds
--   step_done, step_made      done exactly where the shots and the record pass and the walk is at its end; made exactly where no line holds and it is not
--   step-leaves               what a step leaves that is made: the row that it wrote or none, and the same row by row
--   run_keeps                 a run that is refused at its first tests: everything stays
--   run_refused_leaves        one that is refused at a step: the steps before it stand, and nothing else
--   run_none                  a run of no step tests the shots and the record, and changes nothing
--   run_made                  one that is made: exactly so many steps
--   run_done                  one that is done: fewer, and it is at step rows × C
--   start_behind, step_behind, run_behind    words behind the last whole row are never touched, whatever is answered
--   start_one, step_one       two permitted answers of a call are the same, with the record and the table that they leave
--
-- For any ground: reach/proofs/LineLaws, Runs, TableLaws. That a refused start or step, and a step that is done, changes nothing: reach/proofs/StepLaws.
-- Source: document 01, "The walk", "Refusal numbers".
use Rattle.std.specs.Prelude.{◌≡◌, ℕ, ◌+◌, ◌*◌, ◌<◌, ◌⊎◌, ◌↔◌, List, [], ◌∷◌, ◌++◌, length, ℤ, Result}
use mathlib.Core.Path.{refl, sym, ◌∙◌, ap, subst}
use mathlib.Core.Logic.{inl, inr, ⊎_elim}
use native.Mathlib.Omega.{arith}
use Rattle.algebra.specs.Answer.{Answer, gives, refuses, Line, First, Clear}
use Rattle.algebra.proofs.AnswerLaws.{first_clear, first-append, clear-append}
use Rattle.reach.specs.Walks.{WalkRecord, Begun, started, Reply, made, done, Landing, leaves, step_of, steps_of, run_of, start_of}
use Rattle.reach.specs.Lines.{Says, first-line, no_line, FlipSays, row-refused, no-flip, flipped, Lined}
use Rattle.reach.specs.Leaving.{MadeStep, RowByRow}
use Rattle.reach.proofs.StepLaws.{possible_facts, step_possible, step_made_leaves, row_by_row}
use Rattle.reach.proofs.TableLaws.{Behind}
use Rattle.reach.proofs.TableLaws as tables
use Rattle.reach.proofs.LineLaws as reach
use Rattle.reach.proofs.Runs as runs
use Rattle.shots.specs.Lines.{shot_lines}
use Rattle.shots.specs.declared.refusal.Refusal.{Refusal}
use Rattle.shots.proofs.Promises.{shots_decided}
use Rattle.shots.proofs.RefusalLaws.{answer_one}
use Rattle.circuits.specs.Numbering.{circuits_of}
use Rattle.circuits.specs.Lines.{NotCircuit}
use Rattle.lists.specs.Lines.{list_lines, test_lines}
use Rattle.lists.specs.Calls.{test_of}
use Rattle.lists.proofs.Agreement.{accepted_iff_triangulation}
use Rattle.lists.proofs.Promises.{test_refuses, test_accepts}
use Rattle.surfaces.specs.Lines.{NoFlip}
use Rattle.surfaces.specs.Calls.{flip_of}
use Rattle.surfaces.proofs.Promises.{flip_refuses, flip_gives}
use Rattle.triples.specs.Sizes.{word_count}
use Rattle.walks.specs.Calls.{ground_of, walk_as, read_progress, landing, start_landing, step_landing}
use Rattle.walks.specs.Lines.{lines_of, start_lines, walk_lines, step_lines, RunRefuses}
use Rattle.walks.specs.declared.Walk.{Walk}
use Rattle.walks.specs.declared.Progress.{Progress}
use Rattle.walks.specs.declared.Progress.TheVariants as P
use Rattle.walks.proofs.StepsLaws.{flip_keeps}

-- ---- a patch refuses as its lines say

module _ (l : List ℤ) where
  test_says : (w : List ℕ) (a : Answer (Unit {0})) → test_of l w ≡ a → Says tt (test_lines l w) a
  test_says w (refuses n) e = first-line n ((test_refuses l w n).0 e)
  test_says w (gives v) e =
      let (c, p, g) = (test_accepts l w).0 e in
      no_line ((clear-append (shot_lines l) (list_lines l w)).1 (c, (accepted_iff_triangulation l w).1 (p, g)))

  -- no refusal of a list is 13
  list_not_13 : (w : List ℕ) (n : ℕ) → First n (list_lines l w) → n ≡ 13 → ⊥
  list_not_13 w n (inl p) e = let q = p.1 in omega arith
  list_not_13 w n (inr (_, inl p)) e = let q = p.1 in omega arith
  list_not_13 w n (inr (_, inr (_, inl p))) e = let q = p.1 in omega arith
  list_not_13 w n (inr (_, inr (_, inr (_, inl p)))) e = let q = p.1 in omega arith
  list_not_13 w n (inr (_, inr (_, inr (_, inr (_, f))))) e = f

  module _ (shots : Clear (shot_lines l)) (w : List ℕ) (z : ℕ) (below : NotCircuit l z → ⊥) where
    -- the lines of a flip behind those of the list
    abbrev flip_own : List Line
    flip_own = record { number = 12; when = NotCircuit l z } ∷ record { number = 13; when = NoFlip l w z } ∷ []

    refused_says : (n : ℕ) → flip_of l w z ≡ refuses n → FlipSays (lines_of l) w z (refuses n)
    refused_says n e =
        let f = (first-append n (shot_lines l) (list_lines l w ++ flip_own)).0 ((flip_refuses l w z n).0 e) in
        ⊎_elim (λ g. first_clear n (shot_lines l) g shots) (λ p. listed ((first-append n (list_lines l w) flip_own).0 p.1)) f
      where
        own : Clear (list_lines l w) → First n flip_own → FlipSays (lines_of l) w z (refuses n)
        own c (inl p) = absurd (below p.0)
        own c (inr (_, inl p)) = rw p.1 (no-flip c p.0)
        own c (inr (_, inr (_, f))) = absurd f

        listed : First n (list_lines l w) ⊎ (Clear (list_lines l w) × First n flip_own) → FlipSays (lines_of l) w z (refuses n)
        listed (inl f) = row-refused n (list_not_13 w n f) f
        listed (inr (c, f)) = own c f

    flip_says : (a : Answer (List ℕ)) → flip_of l w z ≡ a → FlipSays (lines_of l) w z a
    flip_says (refuses n) e = refused_says n e
    flip_says (gives w') e =
        let (c, q) = (flip_gives l w z w').0 e in
        let (_, d) = (clear-append (shot_lines l) (list_lines l w ++ flip_own)).0 c in
        let (a, (_, (k, _))) = (clear-append (list_lines l w) flip_own).0 d in
        subst (λ (u : List ℕ). FlipSays (lines_of l) w z (gives u)) q (flipped a k)

  pub patch_lined : Lined (ground_of l) (lines_of l)
  patch_lined = record {
    decided = shots_decided l;
    tests = λ w. test_says w (test_of l w) refl;
    flips = λ c w z h. flip_says c w z (λ k. omega arith) (flip_of l w z) refl;
  }

-- ---- the calls

module _ (l : List ℤ) (t : List ℕ) (r : WalkRecord) where
  pub start_refuses : (w : List ℕ) (n : ℕ) → ((start_of (ground_of l) t r w).answer ≡ refuses n) ↔ First n (start_lines l w t)
  start_refuses = reach.start_refuses (patch_lined l) t r

  pub start_starts : (w : List ℕ) → ((start_of (ground_of l) t r w).answer ≡ gives started) ↔ Clear (start_lines l w t)
  start_starts = reach.start_starts (patch_lined l) t r

  pub step_refuses : (n : ℕ) → ((step_of (ground_of l) t r).answer ≡ refuses n) ↔ First n (step_lines l t r)
  step_refuses = reach.step_refuses (patch_lined l) t r

  pub step_done : ((step_of (ground_of l) t r).answer ≡ gives done) ↔ (Clear (walk_lines l t r) × (r.step ≡ r.rows * length (circuits_of l)))
  step_done = reach.step_done (patch_lined l) t r

  pub step_made : ((step_of (ground_of l) t r).answer ≡ gives made) ↔ (Clear (step_lines l t r) × (r.step ≡ r.rows * length (circuits_of l) → ⊥))
  step_made = reach.step_made (patch_lined l) t r

  pub run_refuses : (b n : ℕ) → ((run_of (ground_of l) t r b).answer ≡ refuses n) ↔ RunRefuses l t r b n
  run_refuses = runs.run_refuses (patch_lined l) t r

-- ---- what they leave

module _ (l : List ℤ) (t : List ℕ) (r : WalkRecord) where
  pub step-leaves : (step_of (ground_of l) t r).answer ≡ gives made → MadeStep (ground_of l) t r (step_of (ground_of l) t r) × RowByRow (ground_of l) t r (step_of (ground_of l) t r)
  step-leaves e = let m = (step_made_leaves (ground_of l) t r e).1 in (m, row_by_row (flip_keeps l) (possible_facts _ r _ (step_possible (ground_of l) t r e)).1 m)

  pub run_keeps : (b n : ℕ) → First n (walk_lines l t r) → run_of (ground_of l) t r b ≡ leaves t r (refuses n)
  run_keeps = runs.run_keeps (patch_lined l) t r

  pub run_refused_leaves : (b n : ℕ) → (run_of (ground_of l) t r b).answer ≡ refuses n
      → (First n (walk_lines l t r) × (run_of (ground_of l) t r b ≡ leaves t r (refuses n)))
      ⊎ (Clear (walk_lines l t r)
      × ((k : ℕ) × (k < b) × ((steps_of (ground_of l) k t r).answer ≡ gives made) × First n (step_lines l (steps_of (ground_of l) k t r).table (steps_of (ground_of l) k t r).walk)
      × (run_of (ground_of l) t r b ≡ leaves (steps_of (ground_of l) k t r).table (steps_of (ground_of l) k t r).walk (refuses n))))
  run_refused_leaves = runs.run_refused_leaves (patch_lined l) t r

  pub run_none : Clear (walk_lines l t r) → run_of (ground_of l) t r 0 ≡ leaves t r (gives made)
  run_none = runs.run_none (patch_lined l) t r

  pub run_made : (b : ℕ) → (run_of (ground_of l) t r b).answer ≡ gives made → (run_of (ground_of l) t r b ≡ steps_of (ground_of l) b t r) × ((run_of (ground_of l) t r b).walk.step ≡ r.step + b)
  run_made = runs.run_made (ground_of l) t r

  pub run_done : (b : ℕ) → (run_of (ground_of l) t r b).answer ≡ gives done
      → (k : ℕ) × (k < b) × ((steps_of (ground_of l) k t r).answer ≡ gives made)
      × (run_of (ground_of l) t r b ≡ leaves (steps_of (ground_of l) k t r).table (steps_of (ground_of l) k t r).walk (gives done))
      × ((run_of (ground_of l) t r b).walk.step ≡ r.step + k) × ((run_of (ground_of l) t r b).walk.step ≡ (run_of (ground_of l) t r b).walk.rows * length (circuits_of l))
  run_done = runs.run_done (ground_of l) t r

  pub start_behind : (w : List ℕ) → length w ≡ word_count → Behind word_count t (start_of (ground_of l) t r w)
  start_behind = tables.start_behind (ground_of l) (flip_keeps l) t r

  pub step_behind : Behind word_count t (step_of (ground_of l) t r)
  step_behind = tables.step_behind (ground_of l) (flip_keeps l) t r

  pub run_behind : (b : ℕ) → Behind word_count t (run_of (ground_of l) t r b)
  run_behind = tables.run_behind (ground_of l) (flip_keeps l) t r

-- ---- one answer

abbrev progress_as : Reply → Progress
progress_as made = P.Made
progress_as done = P.Done

progress_back : (p : Progress) → progress_as (read_progress p) ≡ p
progress_back P.Made = refl
progress_back P.Done = refl

-- a landing tells the result, its record and its table
one_landing : {A B : Type 0} (f : A → B) (g : B → A) → ((a : A) → g (f a) ≡ a) → (x : Landing B) (r r' : Result A Refusal) (v v' : Walk) (u u' : List ℕ)
    → landing f r v u ≡ x → landing f r' v' u' ≡ x → (r ≡ r') × (v ≡ v') × (u ≡ u')
one_landing {A} {B} f g undone x r r' v v' u u' p q =
    let e = p ∙ sym q in
    let answer : Landing B → Answer B = λ y. y.answer in
    (answer_one f g undone (ap answer p) (ap answer q), ap (λ (y : Landing B). walk_as y.walk) e, ap (λ (y : Landing B). y.table) e)

pub start_one : (x : Landing Begun) (r r' : Result (Unit {0}) Refusal) (v v' : Walk) (u u' : List ℕ) → start_landing r v u ≡ x → start_landing r' v' u' ≡ x → (r ≡ r') × (v ≡ v') × (u ≡ u')
start_one = one_landing (λ _. started) (λ _. tt) (λ v. refl)

pub step_one : (x : Landing Reply) (r r' : Result Progress Refusal) (v v' : Walk) (u u' : List ℕ) → step_landing r v u ≡ x → step_landing r' v' u' ≡ x → (r ≡ r') × (v ≡ v') × (u ≡ u')
step_one = one_landing read_progress progress_as progress_back
