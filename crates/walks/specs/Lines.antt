-- The lines of document 01's table of refusals that this room's calls can give, as statements: those of the room `reach`, over a patch.
--
--   lines_of l             what the refusals of a patch say: of its shots, of a list, and of a flip, which the row's list can refuse
--   start_lines l w t      the table of `start`
--   walk_lines l t r       what a step and a run test first
--   step_lines l t r       the table of `step`
--   RunRefuses l t r b n  the run is: at its first tests, or at a step after k steps that were made
--
-- What each line says: reach/specs/Lines. The theorems: proofs/Promises. Source: document 01, "The walk", "Refusal numbers".
use Rattle.std.specs.Prelude.{ℕ, List, ℤ}
use Rattle.algebra.specs.Answer.{Line}
use Rattle.reach.specs.Walks.{WalkRecord}
use Rattle.reach.specs.Lines.{Lines}
use Rattle.reach.specs.Lines as reach
use Rattle.shots.specs.Patch.{count_of}
use Rattle.shots.specs.Lines.{shot_lines}
use Rattle.circuits.specs.Calls.{circuit_at}
use Rattle.lists.specs.Lines.{list_lines}
use Rattle.surfaces.specs.Flips.{flipped_of}
use Rattle.surfaces.specs.Lines.{NoFlip}
use Rattle.walks.specs.Calls.{ground_of}

abbrev pub lines_of : List ℤ → Lines
lines_of l = record {
  before = shot_lines l;
  test = list_lines l;
  row = λ w z. list_lines l w;
  NoFlip = NoFlip l;
  result = λ w z. flipped_of (count_of l) w (circuit_at l z);
}

abbrev pub start_lines : List ℤ → List ℕ → List ℕ → List Line
start_lines l w t = reach.start_lines (ground_of l) (lines_of l) w t

abbrev pub walk_lines : List ℤ → List ℕ → WalkRecord → List Line
walk_lines l t r = reach.walk_lines (ground_of l) (lines_of l) t r

abbrev pub step_lines : List ℤ → List ℕ → WalkRecord → List Line
step_lines l t r = reach.step_lines (ground_of l) (lines_of l) t r

abbrev pub RunRefuses : List ℤ → List ℕ → WalkRecord → ℕ → ℕ → Type 0
RunRefuses l t r b n = reach.RunRefuses (ground_of l) (lines_of l) t r b n
