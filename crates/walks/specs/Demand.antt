-- Demand 3 as the user wrote it, of what the calls `start`, `step` and `run` leave by their contracts, over lent tables and records.
--
--   Later l t r u v          the table u and the record v are what steps and runs on the patch l alone have made of the table t and the record r,
--                            refused ones and done ones among them; in between the rows in use may have moved to any table that has room for them
--   StepsMade l t r k u v    a run of k from t and r answers made, so k steps are made (proofs/Promises, `run_made`), and leaves u and v
--   StepDone l u v, StepRefused l u v    a step over u and v answers done, is refused
--   NoStepRefused l t r      no step of the walk from t and r is refused: however many are made, the next one is not
--   HoldsAll l w₀ u v        the rows in use are exactly the surfaces that are reached from w₀ by flips
--   Demand-3 l w₀ t r u v    what the demand says of a start from the surface w₀ that left t and r, and of a later u and v:
--     patch, surface         the start was accepted of an accepted patch and an accepted surface alone
--     ends                   if no step is refused, the walk ends after exactly rows × C steps, and then the rows are exactly the surfaces that are reached from w₀ by flips
--     ends_later             so it does from u and v on, at step rows × C
--     stops                  in any case so many steps from u and v are made, and one more answers done or is refused
--     done_at                a step answers done exactly at step = rows × C
--     whole                  then the rows are exactly the surfaces that are reached from w₀ by flips
--     reached                each row is one of them, at any time
--     once                   no two rows are the same
--     accepted               each row is a surface: a triangulation of the patch, in the published sense
--     first                  the first row is w₀
--     one_area               all rows have one total double area
--     neighbours             once (p + 1) × C ≤ step, every published flip of row p is one of the rows
--
-- The theorem: proofs/Theorem (`demand_3`); for any flip: reach/specs/Walked. Source: demand 3; document 01, "The walk".
use Rattle.std.specs.Prelude.{◌≡◌, ℕ, ◌+◌, ◌*◌, ◌<◌, ◌≤◌, ◌⊎◌, ◌↔◌, List, length, ℤ, ◌≢◌, Result, Ok}
use Rattle.algebra.specs.Answer.{gives, refuses, Clear}
use Rattle.algebra.specs.Words.{row_of}
use Rattle.reach.specs.Walks.{done, capacity_of}
use Rattle.reach.specs.Reach.{Stands}
use Rattle.shots.specs.Lines.{shot_lines}
use Rattle.shots.specs.declared.refusal.Refusal.{Refusal}
use Rattle.circuits.specs.Numbering.{circuits_of}
use Rattle.triples.specs.Sizes.{word_count}
use Rattle.surfaces.specs.Areas.{area_sum_of}
use Rattle.lists.specs.Lines.{Accepted}
use Rattle.walks.specs.Calls.{step_landing, step_call_of, run_call_of}
use Rattle.walks.specs.Surfaces.{PublishedFlip, Reachable}
use Rattle.walks.specs.declared.Walk.{Walk}
use Rattle.walks.specs.declared.Progress.{Progress}
use Rattle.walks.specs.declared.Progress.TheVariants as P

-- ---- "a table and walk record that only one accepted start from that surface, and that same walk's steps on that patch, have written"

pub data Later (l : List ℤ) (t : List ℕ) (r : Walk) : List ℕ → Walk → Type 0 where
  at_once : Later l t r t r
  by_step : {u : List ℕ} {v : Walk} → Later l t r u v → (a : Result Progress Refusal) (u' : List ℕ) (v' : Walk) → step_landing a v' u' ≡ step_call_of l u v → Later l t r u' v'
  by-run : {u : List ℕ} {v : Walk} → Later l t r u v → (b : ℕ) (a : Result Progress Refusal) (u' : List ℕ) (v' : Walk) → step_landing a v' u' ≡ run_call_of l u v b → Later l t r u' v'
  moved : {u : List ℕ} {v : Walk} → Later l t r u v → (u' : List ℕ) → v.rows ≤ capacity_of word_count (length u') → ((p : ℕ) → p < v.rows → row_of word_count u' p ≡ row_of word_count u p) → Later l t r u' v

-- ---- "If no step is refused"

abbrev pub StepsMade : List ℤ → List ℕ → Walk → ℕ → List ℕ → Walk → Type 0
StepsMade l t r k u v = step_landing (Ok P.Made) v u ≡ run_call_of l t r k

abbrev pub StepDone : List ℤ → List ℕ → Walk → Type 0
StepDone l u v = (step_call_of l u v).answer ≡ gives done

abbrev pub StepRefused : List ℤ → List ℕ → Walk → Type 0
StepRefused l u v = (n : ℕ) × ((step_call_of l u v).answer ≡ refuses n)

abbrev pub NoStepRefused : List ℤ → List ℕ → Walk → Type 0
NoStepRefused l t r = (k : ℕ) (u : List ℕ) (v : Walk) → StepsMade l t r k u v → StepRefused l u v → ⊥

-- ---- the conclusions

abbrev pub HoldsAll : List ℤ → List ℕ → List ℕ → Walk → Type 0
HoldsAll l w₀ u v = (w : List ℕ) → Stands word_count u v.rows w ↔ Reachable l w₀ w

pub record Demand-3 (l : List ℤ) (w₀ t : List ℕ) (r : Walk) (u : List ℕ) (v : Walk) : Type 0 where
  -- "an accepted patch, an accepted first surface"
  pub patch : Clear (shot_lines l)
  pub surface : Accepted l w₀
  -- "If no step is refused, the walk ends after exactly the number of surfaces found times the number of circuits. It then holds every surface reachable from the first by flips"
  -- u' and v' are later than t and r (`by-run`), so that the rest is said of them too
  pub ends : NoStepRefused l t r → (k : ℕ) × (u' : List ℕ) × (v' : Walk) × StepsMade l t r k u' v' × StepDone l u' v' × (k ≡ v'.rows * length (circuits_of l)) × HoldsAll l w₀ u' v'
  pub ends_later : NoStepRefused l u v → (k : ℕ) × (u' : List ℕ) × (v' : Walk) × StepsMade l u v k u' v' × StepDone l u' v' × (v.step + k ≡ v'.rows * length (circuits_of l)) × HoldsAll l w₀ u' v'
  pub stops : (k : ℕ) × (u' : List ℕ) × (v' : Walk) × StepsMade l u v k u' v' × (StepDone l u' v' ⊎ StepRefused l u' v')
  pub done_at : StepDone l u v ↔ (v.step ≡ v.rows * length (circuits_of l))
  -- "every surface reachable from the first by flips", "and no other"
  pub whole : v.step ≡ v.rows * length (circuits_of l) → HoldsAll l w₀ u v
  pub reached : (p : ℕ) → p < v.rows → Reachable l w₀ (row_of word_count u p)
  -- "each once"
  pub once : (p q : ℕ) → p < q → q < v.rows → row_of word_count u p ≢ row_of word_count u q
  pub accepted : (p : ℕ) → p < v.rows → Accepted l (row_of word_count u p)
  pub first : row_of word_count u 0 ≡ w₀
  -- "all of one total area"
  pub one_area : (p : ℕ) → p < v.rows → area_sum_of l (row_of word_count u p) ≡ area_sum_of l w₀
  -- "Counting from 0, all neighbours of surface p are listed once (p + 1) × (number of circuits) steps are made."
  pub neighbours : (p : ℕ) (w : List ℕ) → (p + 1) * length (circuits_of l) ≤ v.step → PublishedFlip l (row_of word_count u p) w → Stands word_count u v.rows w
