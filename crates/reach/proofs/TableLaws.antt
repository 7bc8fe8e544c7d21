-- The table keeps its length, over any ground; and its words behind the last whole row, where the flip keeps the number of words.
--
--   Long t l                           the landing l has a table as long as t
--   step_long, run_long, start_long    so has a step's, a run's and a start's
--   Behind k t l                       the words of t behind the last of its rows of k words that can be used stand in the table of l too
--   step_behind, run_behind, start_behind    so they do after a step, a run and a start, whatever is answered
use mathlib.Core.Path.{◌≡◌, refl, ◌∙◌}
use mathlib.Core.List.{List}
use Prim.Native.Nat.{ℕ, zero, suc, ◌+◌, ◌*◌, ◌<◌, ◌≤◌}
use native.Mathlib.Omega.{arith}
use native.Mathlib.Nat.{mul-suc, mul-le-mul_left}
use lib.ListN.{length, get_or}
use Rattle.algebra.specs.Answer.{Answer, gives, refuses}
use Rattle.algebra.proofs.WordLaws.{row_behind, set_row-length}
use Rattle.reach.specs.Walks.{Ground, WalkRecord, Begun, started, Reply, made, Landing, capacity_of, walk_rules, step_of, steps_of, run_of, start_of}
use Rattle.reach.specs.Walked.{Keeps}
use Rattle.reach.specs.Leaving.{MadeStep, no_row, new_row}
use Rattle.reach.proofs.StepLaws.{only_either, possible_facts, made_dec, tried_size, step_possible, step_made_leaves, step_unmade, start_keeps, start_facts}
use Rattle.reach.proofs.RunLaws.{steps_none, steps_first}

-- ---- its length

abbrev pub Long : {A : Type 0} → List ℕ → Landing A → Type 0
Long t l = length l.table ≡ length t

module _ (g : Ground) where
  pub step_long : (t : List ℕ) (w : WalkRecord) → Long t (step_of g t w)
  step_long t w = go (made_dec (step_of g t w).answer)
    where
      made_long : {l : Landing Reply} → MadeStep g t w l → Long t l
      made_long (no_row _) = refl
      made_long (new_row r f new full) = set_row-length t w.rows r

      go : Dec ((step_of g t w).answer ≡ gives made) → Long t (step_of g t w)
      go (yes e) = made_long (step_made_leaves g t w e).1
      go (no ne) = rw (step_unmade g t w ne) refl

  steps_long : (b : ℕ) (t : List ℕ) (w : WalkRecord) → Long t (steps_of g b t w)
  steps_long zero t w = rw (steps_none g t w) refl
  steps_long (suc b) t w = steps_first g b t w (λ e q. rw q (steps_long b (step_of g t w).table (step_of g t w).walk ∙ step_long t w)) (λ ne q. rw q (step_long t w))

  pub run_long : (t : List ℕ) (w : WalkRecord) (b : ℕ) → Long t (run_of g t w b)
  unfolding run_of
  run_long t w b = only_either t w (Long t) (walk_rules g t w) (steps_of g b t w) (λ n. refl) (steps_long b t w)

  pub start_long : (t : List ℕ) (w : WalkRecord) (r : List ℕ) → Long t (start_of g t w r)
  start_long t w r = go (start_of g t w r).answer refl
    where
      go : (a : Answer Begun) → (start_of g t w r).answer ≡ a → Long t (start_of g t w r)
      go (refuses n) e = rw (start_keeps g t w r n e) refl
      go (gives started) e = rw (start_facts g t w r e).2 (set_row-length t 0 r)

-- ---- the words behind the rows

abbrev pub Behind : {A : Type 0} → ℕ → List ℕ → Landing A → Type 0
Behind k t l = (i : ℕ) → k * capacity_of k (length t) ≤ i → get_or l.table i 0 ≡ get_or t i 0

-- a row below the capacity ends before them
row_before : (k c n i : ℕ) → n < c → k * c ≤ i → k * n + k ≤ i
row_before k c n i h l = let e = mul-suc k n in let m = mul-le-mul_left k h in omega arith

module _ (g : Ground) (keeps : Keeps g) where
  pub step_behind : (t : List ℕ) (w : WalkRecord) → Behind g.words t (step_of g t w)
  step_behind t w = go (made_dec (step_of g t w).answer)
    where
      made_behind : w.rows ≤ capacity_of g.words (length t) → {l : Landing Reply} → MadeStep g t w l → Behind g.words t l
      made_behind fits (no_row _) i h = refl
      made_behind fits (new_row r f new full) i h = row_behind g.words t w.rows i r (tried_size g t w keeps r f) (row_before g.words (capacity_of g.words (length t)) w.rows i (omega arith) h)

      go : Dec ((step_of g t w).answer ≡ gives made) → Behind g.words t (step_of g t w)
      go (yes e) = made_behind (possible_facts _ w _ (step_possible g t w e)).1 (step_made_leaves g t w e).1
      go (no ne) = rw (step_unmade g t w ne) (λ i h. refl)

  steps_behind : (b : ℕ) (t : List ℕ) (w : WalkRecord) → Behind g.words t (steps_of g b t w)
  steps_behind zero t w = rw (steps_none g t w) (λ i h. refl)
  steps_behind (suc b) t w =
      steps_first g b t w
      (λ e q. rw q (λ i h. steps_behind b (step_of g t w).table (step_of g t w).walk i (rw (step_long g t w) h) ∙ step_behind t w i h))
      (λ ne q. rw q (step_behind t w))

  pub run_behind : (t : List ℕ) (w : WalkRecord) (b : ℕ) → Behind g.words t (run_of g t w b)
  unfolding run_of
  run_behind t w b = only_either t w (Behind g.words t) (walk_rules g t w) (steps_of g b t w) (λ n i h. refl) (steps_behind b t w)

  pub start_behind : (t : List ℕ) (w : WalkRecord) (r : List ℕ) → length r ≡ g.words → Behind g.words t (start_of g t w r)
  start_behind t w r size = go (start_of g t w r).answer refl
    where
      go : (a : Answer Begun) → (start_of g t w r).answer ≡ a → Behind g.words t (start_of g t w r)
      go (refuses n) e = rw (start_keeps g t w r n e) (λ i h. refl)
      go (gives started) e = let f = start_facts g t w r e in rw f.2 (λ i h. row_behind g.words t 0 i r size (row_before g.words (capacity_of g.words (length t)) 0 i f.1 h))
