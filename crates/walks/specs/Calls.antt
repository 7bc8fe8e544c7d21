-- What the public calls of this room answer and leave, for every input: the walk of the room `reach`, over a patch.
--
--   ground_of l            the ground of a patch: the shots' rules, two words a row, the patch's circuits, its test and its flip
--   read_walk w            the code's walk record; walk_as: back
--   read_progress p        what a step and a run answer that are not refused
--   landing f r w t        all that a call leaves: its `Result` r, whose value f reads, the record and the table
--   start_landing, step_landing, made_landing    the same of a start, of a step and a run, and of steps that are made or refused
--   start_call_of, step_call_of, run_call_of    what `start`, `step` and `run` answer and leave
--   impossible_of          15, as the code asks for it
--
-- Source: document 01, "The walk".
use Rattle.std.specs.Prelude.{ℕ, Bool, List, length, ℤ, Result}
use Rattle.reach.specs.Walks.{Ground, WalkRecord, Begun, started, Reply, made, done, Landing, leaves, impossible, step_of, run_of, start_of}
use Rattle.shots.specs.Tests.{shot_rules}
use Rattle.shots.specs.Refusals.{answer_of}
use Rattle.shots.specs.declared.refusal.Refusal.{Refusal}
use Rattle.circuits.specs.Numbering.{circuits_of}
use Rattle.triples.specs.Sizes.{word_count}
use Rattle.triples.specs.Sets.{words_of}
use Rattle.triples.specs.declared.Triples.{Triples}
use Rattle.lists.specs.Calls.{test_of}
use Rattle.surfaces.specs.Calls.{flip_of}
use Rattle.walks.specs.declared.Walk.{Walk}
use Rattle.walks.specs.declared.Progress.{Progress}
use Rattle.walks.specs.declared.Progress.TheVariants as P

abbrev pub ground_of : List ℤ → Ground
ground_of l = record { before = shot_rules l; words = word_count; circuits = length (circuits_of l); test = test_of l; flip = flip_of l }

-- ---- how the code's values are read

abbrev pub read_walk : Walk → WalkRecord
read_walk w = record { rows = w.rows; step = w.step }

abbrev pub walk_as : WalkRecord → Walk
walk_as w = record { rows = w.rows; step = w.step }

abbrev pub read_progress : Progress → Reply
read_progress P.Made = made
read_progress P.Done = done

abbrev pub landing : {A B : Type 0} → (A → B) → Result A Refusal → Walk → List ℕ → Landing B
landing f r w t = leaves t (read_walk w) (answer_of f r)

abbrev pub start_landing : Result (Unit {0}) Refusal → Walk → List ℕ → Landing Begun
start_landing = landing (λ _. started)

abbrev pub step_landing : Result Progress Refusal → Walk → List ℕ → Landing Reply
step_landing = landing read_progress

abbrev pub made_landing : Result (Unit {0}) Refusal → Walk → List ℕ → Landing Reply
made_landing = landing (λ _. made)

-- ---- the calls

abbrev pub start_call_of : List ℤ → Triples → List ℕ → Walk → Landing Begun
start_call_of l w t r = start_of (ground_of l) t (read_walk r) (words_of w)

abbrev pub step_call_of : List ℤ → List ℕ → Walk → Landing Reply
step_call_of l t r = step_of (ground_of l) t (read_walk r)

abbrev pub run_call_of : List ℤ → List ℕ → Walk → ℕ → Landing Reply
run_call_of l t r b = run_of (ground_of l) t (read_walk r) b

-- ---- what the code asks

abbrev pub impossible_of : ℕ → Walk → ℕ → Bool
impossible_of m w c = impossible m (read_walk w) c
