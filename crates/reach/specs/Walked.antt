-- Demand 3: what is true of a table and a record that only one accepted start and the same walk's steps and runs have written.
--
--   FlipsTo g r z r'      the flip of r along circuit z gives r'
--   Keeps g               a flip keeps the number of words
--   Sound g               what is asked of a ground: that, that its first rules have numbers that are not 0, and that an accepted list passes them
--   Walked g r₀ t w       the table t and the record w were written by an accepted start from r₀ and then by steps and runs alone;
--                         in between the rows in use may have moved to any table that has room for them
--   Listing g r₀ t w      the promise at any time:
--     possible            there is a row, there is room for the rows, and step ≤ rows × C
--     first               the first row is r₀
--     once, reached       the rows in use differ from each other, and each is reached from r₀ by flips along the circuits
--     neighbours          once (p + 1) × C ≤ step, every flip of row p is one of the rows
--     done_at             a step answers done exactly at step = rows × C
--     whole               then the rows are exactly what is reached from r₀ by flips
--   Stops g l             a step over what l left is not made: it answers done, or refuses
--   Ends g t w            the walk ends: after so many steps, all made, one more answers done or refuses; where it answers done, it is step rows × C
--
-- Theorems: proofs/Theorem (`walk_listing`, `Walk-Ends`). Source: demand 3; document 01, "The walk".
use Rattle.std.specs.Prelude.{◌≡◌, ◌⊎◌, ◌↔◌, List, ℕ, ◌+◌, ◌*◌, ◌<◌, ◌≤◌, length}
use Rattle.algebra.specs.Answer.{gives, refuses, Numbered, refusal}
use Rattle.algebra.specs.Words.{row_of}
use Rattle.reach.specs.Walks.{Ground, WalkRecord, Reply, started, made, done, Landing, capacity_of, step_of, steps_of, run_of, start_of}
use Rattle.reach.specs.Reach.{Reach, Flipping, Along, Stands}

abbrev pub FlipsTo : Ground → Flipping
FlipsTo g r z r' = g.flip r z ≡ gives r'

abbrev pub Keeps : Ground → Type 0
Keeps g = (r r' : List ℕ) (z : ℕ) → length r ≡ g.words → FlipsTo g r z r' → length r' ≡ g.words

pub record Sound (g : Ground) : Type 0 where
  pub numbered : Numbered g.before
  pub keeps : Keeps g
  pub passes : (r : List ℕ) → g.test r ≡ gives tt → refusal g.before ≡ 0

pub data Walked (g : Ground) (r₀ : List ℕ) : List ℕ → WalkRecord → Type 0 where
  starts : (t : List ℕ) (w : WalkRecord) → (start_of g t w r₀).answer ≡ gives started → Walked g r₀ (start_of g t w r₀).table (start_of g t w r₀).walk
  steps : (t : List ℕ) (w : WalkRecord) → Walked g r₀ t w → Walked g r₀ (step_of g t w).table (step_of g t w).walk
  runs : (t : List ℕ) (w : WalkRecord) (b : ℕ) → Walked g r₀ t w → Walked g r₀ (run_of g t w b).table (run_of g t w b).walk
  moves : (t t' : List ℕ) (w : WalkRecord) → Walked g r₀ t w → w.rows ≤ capacity_of g.words (length t')
      → ((p : ℕ) → p < w.rows → row_of g.words t' p ≡ row_of g.words t p) → Walked g r₀ t' w

pub record Listing (g : Ground) (r₀ t : List ℕ) (w : WalkRecord) : Type 0 where
  pub possible : (0 < w.rows) × (w.rows ≤ capacity_of g.words (length t)) × (w.step ≤ w.rows * g.circuits)
  pub first : row_of g.words t 0 ≡ r₀
  pub once : (p q : ℕ) → p < q → q < w.rows → row_of g.words t p ≡ row_of g.words t q → ⊥
  pub reached : (p : ℕ) → p < w.rows → Reach (Along g.circuits (FlipsTo g)) r₀ (row_of g.words t p)
  pub neighbours : (p z : ℕ) (r : List ℕ) → (p + 1) * g.circuits ≤ w.step → z < g.circuits → FlipsTo g (row_of g.words t p) z r → Stands g.words t w.rows r
  pub done_at : ((step_of g t w).answer ≡ gives done) ↔ (w.step ≡ w.rows * g.circuits)
  pub whole : w.step ≡ w.rows * g.circuits → (r : List ℕ) → Stands g.words t w.rows r ↔ Reach (Along g.circuits (FlipsTo g)) r₀ r

abbrev pub Stops : Ground → Landing Reply → Type 0
Stops g l = ((step_of g l.table l.walk).answer ≡ gives done) ⊎ ((n : ℕ) × ((step_of g l.table l.walk).answer ≡ refuses n))

pub record Ends (g : Ground) (t : List ℕ) (w : WalkRecord) : Type 0 where
  pub count : ℕ
  pub made_all : (steps_of g count t w).answer ≡ gives made
  pub stops : Stops g (steps_of g count t w)
  pub counts : (steps_of g count t w).walk.step ≡ w.step + count
  pub ends_at : (step_of g (steps_of g count t w).table (steps_of g count t w).walk).answer ≡ gives done → w.step + count ≡ (steps_of g count t w).walk.rows * g.circuits
