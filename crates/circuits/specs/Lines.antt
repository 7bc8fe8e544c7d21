-- The lines of document 01's table of refusals that this room's calls can give.
--
--   NotCircuit l z    12: circuit number not below C
--   circuit_lines      the table of `circuit`; that of `count` is the shots' own
use Rattle.std.specs.Prelude.{ℕ, ◌≤◌, List, [], ◌∷◌, ◌++◌, length, ℤ}
use Rattle.algebra.specs.Answer.{Line}
use Rattle.shots.specs.Lines.{shot_lines}
use Rattle.circuits.specs.Numbering.{circuits_of}

abbrev pub NotCircuit : List ℤ → ℕ → Type 0
NotCircuit l z = length (circuits_of l) ≤ z

abbrev pub circuit_lines : List ℤ → ℕ → List Line
circuit_lines l z = shot_lines l ++ record { number = 12; when = NotCircuit l z } ∷ []
