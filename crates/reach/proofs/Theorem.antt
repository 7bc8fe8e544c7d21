-- Demand 3, for any ground that is `Sound`: what is true of a table and a record that an accepted start and then steps and runs alone have written.
--
--   Kept g r₀ t w      what such a walk keeps: its invariant, room for its rows, and shots that pass
--   walk_closed        a walk keeps it
--   walk_tested        its first list passed the test
--   walked-run         its runs are so many steps
--   walk_listing       the rows are reached, each once; row by row their flips are listed; and they are all that is reached exactly where a step is done
--   walk_ends          the walk ends: with done, or with a refusal
--   last_of e           all that is left where it ends
--   ends_from_start    from the start, done comes after exactly rows × C steps
--   run_ends           a run that is long enough does not answer made
--   row_kept           what the first row has and every flip keeps, each row has
--
-- Source: demand 3; document 01, "The walk".
use mathlib.Core.Path.{◌≡◌, sym, ap, ◌∙◌}
use mathlib.Core.Logic.{⊎_elim}
use mathlib.Core.Bool.{false}
use mathlib.Core.List.{List}
use Prim.Native.Nat.{ℕ, zero, suc, ◌+◌, ◌*◌, ◌/◌, ◌<◌, ◌≤◌}
use native.Mathlib.Omega.{arith}
use native.Mathlib.Nat.{min-le_right, mul-le-mul_right}
use lib.ListN.{length}
use Rattle.algebra.specs.Answer.{gives, refusal}
use Rattle.algebra.specs.Words.{row_of, set_row}
use Rattle.algebra.proofs.AnswerLaws.{given-refused}
use Rattle.algebra.proofs.WordLaws.{row_same, row_other, set_row-length}
use Rattle.reach.specs.Walks.{Ground, WalkRecord, Begun, started, Reply, made, done, Landing, rows_most, capacity_of, impossible, try_of, step_of, steps_of, run_of, start_of}
use Rattle.reach.specs.Reach.{Closed}
use Rattle.reach.specs.Leaving.{MadeStep, no_row, new_row}
use Rattle.reach.specs.Walked.{FlipsTo, Sound, Walked, starts, steps, runs, moves, Listing, Ends}
use Rattle.reach.proofs.ReachLaws.{reach_kept, closed_start, closed_moved, closed_count, closed_new, closed_neighbours, closed_whole}
use Rattle.reach.proofs.StepLaws.{room_for, possible_holds, step_passed, run_passed, try_done, start_facts, made_dec, tried_size, step_made_leaves, step_unmade, step_stops, done_end}
use Rattle.reach.proofs.RunLaws.{steps_none, steps_first, steps_count, Stood, steps_stand}

-- ---- any walk

pub walk_tested : {g : Ground} {r₀ t : List ℕ} {w : WalkRecord} → Walked g r₀ t w → g.test r₀ ≡ gives tt
walk_tested {g} {r₀} (starts t w e) = (start_facts g t w r₀ e).0
walk_tested (steps t w h) = walk_tested h
walk_tested (runs t w b h) = walk_tested h
walk_tested (moves t t' w h room same) = walk_tested h

-- ---- what a walk keeps

abbrev pub Kept : Ground → List ℕ → List ℕ → WalkRecord → Type 0
Kept g r₀ t w = Closed g.circuits (FlipsTo g) r₀ (row_of g.words t) w.rows w.step × (w.rows ≤ capacity_of g.words (length t)) × (refusal g.before ≡ 0)

module _ {g : Ground} (sound : Sound g) (r₀ : List ℕ) where
  abbrev KeptBy : {A : Type 0} → Landing A → Type 0
  KeptBy l = Kept g r₀ l.table l.walk

  -- ---- a step keeps it

  module _ (t : List ℕ) (w : WalkRecord) (k : Kept g r₀ t w) where
    possible : impossible (capacity_of g.words (length t)) w g.circuits ≡ false
    possible = possible_holds _ w _ k.0.some k.1 k.0.below

    step_tries : step_of g t w ≡ try_of g t w
    step_tries = step_passed g t w sound.numbered k.2 possible

    kept_made : {l : Landing Reply} → w.step < w.rows * g.circuits → MadeStep g t w l → KeptBy l
    kept_made h (no_row p) = (closed_count k.0 h (λ x f. ⊎_elim (λ none. given-refused (sym f ∙ none)) (λ (r, e, s). let q : r ≡ x = cc in rw q at s) p), k.1, k.2)
    kept_made h (new_row r f new full) = (
      closed_new k.0 (row_of g.words (set_row t w.rows r)) (λ i m. row_other g.words t w.rows i r size (λ q. omega arith))
          (row_same g.words t w.rows r size (room_for g.words (length t) w.rows (let b = k.1 in omega arith))) (λ x z a b p q. cc) h f new,
      rw set_row-length (let b = k.1 in omega arith),
      k.2,
    )
      where
        size : length r ≡ g.words
        size = tried_size g t w sound.keeps r f

    kept_step : KeptBy (step_of g t w)
    kept_step = go (made_dec (step_of g t w).answer)
      where
        go : Dec ((step_of g t w).answer ≡ gives made) → KeptBy (step_of g t w)
        go (yes e) = let (ne, m) = step_made_leaves g t w e in kept_made (let b = k.0.below in omega arith) m
        go (no ne) = rw (step_unmade g t w ne) k

  -- ---- so do steps and runs, and a start begins with it

  kept_steps : (n : ℕ) (t : List ℕ) (w : WalkRecord) → Kept g r₀ t w → KeptBy (steps_of g n t w)
  kept_steps zero t w k = rw (steps_none g t w) k
  kept_steps (suc n) t w k =
      steps_first g n t w (λ e q. rw q (kept_steps n (step_of g t w).table (step_of g t w).walk (kept_step t w k))) (λ ne q. rw q (kept_step t w k))

  run_is_steps : (t : List ℕ) (w : WalkRecord) (b : ℕ) → Kept g r₀ t w → run_of g t w b ≡ steps_of g b t w
  run_is_steps t w b k = run_passed g t w b sound.numbered k.2 (possible t w k)

  kept_start : length r₀ ≡ g.words → (t : List ℕ) (w : WalkRecord) → (start_of g t w r₀).answer ≡ gives started → KeptBy (start_of g t w r₀)
  kept_start size t w e =
      let f = start_facts g t w r₀ e in
      let room = f.1 in
      rw f.2 (closed_start (row_of g.words (set_row t 0 r₀)) (row_same g.words t 0 r₀ size (room_for g.words (length t) 0 room)), rw set_row-length room, sound.passes r₀ f.0)

  module _ (size : length r₀ ≡ g.words) where
    pub walk_closed : {t : List ℕ} {w : WalkRecord} → Walked g r₀ t w → Kept g r₀ t w
    walk_closed (starts t w e) = kept_start size t w e
    walk_closed (steps t w h) = kept_step t w (walk_closed h)
    walk_closed (runs t w b h) = rw (run_is_steps t w b (walk_closed h)) (kept_steps b t w (walk_closed h))
    walk_closed (moves t t' w h room same) = let k = walk_closed h in (closed_moved (row_of g.words t') same k.0, room, k.2)

    pub walked-run : {t : List ℕ} {w : WalkRecord} → Walked g r₀ t w → (b : ℕ) → run_of g t w b ≡ steps_of g b t w
    walked-run {t} {w} h b = run_is_steps t w b (walk_closed h)

    -- ---- the promise

    pub walk_listing : {t : List ℕ} {w : WalkRecord} → Walked g r₀ t w → Listing g r₀ t w
    walk_listing {t} {w} h =
        let k = walk_closed h in
        record {
          possible = (k.0.some, k.1, k.0.below);
          first = k.0.first;
          once = k.0.once;
          reached = k.0.reached;
          neighbours = closed_neighbours k.0;
          done_at = (done_end g t w, λ e. ap (λ (l : Landing Reply). l.answer) (step_tries t w k ∙ try_done g t w e));
          whole = closed_whole k.0;
        }

    pub row_kept : {t : List ℕ} {w : WalkRecord} → Walked g r₀ t w → (P : List ℕ → Type 0)
        → ((r r' : List ℕ) (z : ℕ) → length r ≡ g.words → P r → z < g.circuits → FlipsTo g r z r' → P r') → P r₀ → (p : ℕ) → p < w.rows → P (row_of g.words t p)
    row_kept h P keeps first p l =
        (reach_kept (λ r. (length r ≡ g.words) × P r) (λ r r' q (z, m, f). (sound.keeps r r' z q.0 f, keeps r r' z q.0 q.1 m f)) (size, first) ((walk_closed h).0.reached p l)).1

    -- ---- the end

    steps-most : {t : List ℕ} {w : WalkRecord} → Walked g r₀ t w → (b : ℕ) → (steps_of g b t w).answer ≡ gives made → w.step + b ≤ rows_most * g.circuits
    steps-most {t} {w} h b e =
        let k = kept_steps b t w (walk_closed h) in
        let a = k.0.below in
        let c = k.1 in
        let d = min-le_right (length (steps_of g b t w).table / g.words) rows_most in
        let m : (steps_of g b t w).walk.rows ≤ rows_most = omega arith in
        let n = mul-le-mul_right g.circuits m in
        let s = steps_count g b t w e in
        omega arith

    pub run_ends : {t : List ℕ} {w : WalkRecord} → Walked g r₀ t w → (b : ℕ) → rows_most * g.circuits < w.step + b → (run_of g t w b).answer ≡ gives made → ⊥
    run_ends {t} {w} h b l e = let m = steps-most h b (rw (walked-run h b) at e) in omega arith

    pub walk_ends : {t : List ℕ} {w : WalkRecord} → Walked g r₀ t w → Ends g t w
    walk_ends {t} {w} h = go (steps_stand g (rows_most * g.circuits + 1) t w)
      where
        -- so many steps are not all made
        go : Stood g t w (rows_most * g.circuits + 1) (steps_of g (rows_most * g.circuits + 1) t w) → Ends g t w
        go s = record {
          count = s.count;
          made_all = s.made_all;
          stops = ⊎_elim (λ p. let m = steps-most h (rows_most * g.circuits + 1) p.1 in absurd (omega arith)) (λ p. step_stops g _ _ (λ e. p.1 (p.0 ∙ e))) s.answer_is;
          counts = steps_count g s.count t w s.made_all;
          ends_at = λ e. sym (steps_count g s.count t w s.made_all) ∙ done_end g _ _ e;
        }

abbrev pub last_of : {g : Ground} {t : List ℕ} {w : WalkRecord} → Ends g t w → Landing Reply
last_of {g} {t} {w} e = steps_of g e.count t w

pub ends_from_start : (g : Ground) (t : List ℕ) (w : WalkRecord) (r₀ : List ℕ) → (start_of g t w r₀).answer ≡ gives started → (e : Ends g (start_of g t w r₀).table (start_of g t w r₀).walk)
    → (step_of g (last_of e).table (last_of e).walk).answer ≡ gives done → e.count ≡ (last_of e).walk.rows * g.circuits
ends_from_start g t w r₀ a e d =
    let z : (start_of g t w r₀).walk.step ≡ 0 = ap (λ (l : Landing Begun). l.walk.step) (start_facts g t w r₀ a).2 in
    let q = e.ends_at d in
    omega arith
