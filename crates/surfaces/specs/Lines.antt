-- The lines of document 01's table of refusals that this room's calls can give, as statements over the published definitions.
--
--   NoFlip l w z        13: the list supports neither the plus pieces nor the minus pieces of circuit z
--   flip_lines l w z     the table of `flip`; that of `placing` is `shot_lines` (shots)
--
-- The theorems: proofs/Promises.
use Rattle.std.specs.Prelude.{ℕ, List, [], ◌∷◌, ◌++◌, ℤ}
use Rattle.algebra.specs.Answer.{Line}
use Rattle.algebra.specs.Sign.{minus, plus}
use Rattle.matroid.specs.Flips.{Supports}
use Rattle.shots.specs.Patch.{count_of}
use Rattle.shots.specs.Lines.{shot_lines}
use Rattle.circuits.specs.Lines.{NotCircuit}
use Rattle.circuits.specs.Calls.{signs_of}
use Rattle.lists.specs.Lines.{Listed, list_lines}

abbrev pub NoFlip : List ℤ → List ℕ → ℕ → Type 0
NoFlip l w z = (Supports (count_of l) (Listed (count_of l) w) (signs_of l z) plus → ⊥) × (Supports (count_of l) (Listed (count_of l) w) (signs_of l z) minus → ⊥)

abbrev pub flip_lines : List ℤ → List ℕ → ℕ → List Line
flip_lines l w z =
    shot_lines l ++ (list_lines l w ++
    record { number = 12; when = NotCircuit l z }
    ∷ record { number = 13; when = NoFlip l w z }
    ∷ [])
