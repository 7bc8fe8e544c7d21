-- The lines of the table of refusals that this room's calls can give, as statements, in their order.
--
--   NotFinite foot s     16: of a shot's east, its north and the answers of the operations, one is not finite
--   OutOfRange x         the whole number nearest to x is beyond the range of a coordinate
--   turn_lines foot l     for each shot of l in turn 16, and 2: a whole number taken is beyond its range
--   intake_lines foot c l 1 where c is so; those of each shot; then 3 and 4, on the whole numbers
--   Unknown e            neither edition 1 nor 2
--   edition_lines e c l   17; then those of the edition's foot
--   FewOrMany n          not 3 to 10 shots
--   Unequal u v          not two floats for each unit
--   take_lines e l n, take_runs_lines e u v    the tables of the two calls
--
-- The theorems: proofs/Promises. Source: document 02, E2, E13.
use Rattle.std.specs.Prelude.{◌≡◌, ◌⊎◌, false, ℕ, ◌*◌, ◌<◌, length, take, ℤ, nat_abs, Float}
use mathlib.Core.List.{List, [], ◌∷◌, ◌++◌, Memᴰ}
use Rattle.std.specs.Float.Ieee.Scale.{finite}
use Rattle.algebra.specs.Answer.{Line}
use Rattle.shots.specs.Sizes.{shots_least, shots_most, farthest}
use Rattle.shots.specs.Lines.{shape_lines}
use Rattle.intake.specs.Nearest.{Nearest}
use Rattle.intake.specs.Scaling.{foot_of, scaled_of, answers_of, millimetres_of}
use Rattle.intake.specs.Runs.{shots_in}
use Rattle.intake.specs.declared.Shot.{Shot}
use Rattle.intake.specs.declared.Foot.{Foot}

abbrev pub NotFinite : Foot → Shot → Type 0
NotFinite foot s = (x : Float) × Memᴰ x (answers_of foot s) × (finite x ≡ false)

abbrev pub OutOfRange : Float → Type 0
OutOfRange x = (n : ℤ) × Nearest x n × (farthest < nat_abs n)

abbrev pub turn_lines : Foot → List Shot → List Line
turn_lines foot [] = []
turn_lines foot (s ∷ l) =
    record { number = 16; when = NotFinite foot s }
    ∷ record { number = 2; when = OutOfRange (scaled_of foot s).east ⊎ OutOfRange (scaled_of foot s).north }
    ∷ turn_lines foot l

abbrev pub intake_lines : Foot → Type 0 → List Shot → List Line
intake_lines foot c l = record { number = 1; when = c } ∷ (turn_lines foot l ++ shape_lines (millimetres_of foot l))

abbrev pub Unknown : ℕ → Type 0
Unknown e = (e ≡ 1) ⊎ (e ≡ 2) → ⊥

abbrev pub edition_lines : ℕ → Type 0 → List Shot → List Line
edition_lines e c l = record { number = 17; when = Unknown e } ∷ intake_lines (foot_of e) c l

abbrev pub FewOrMany : ℕ → Type 0
FewOrMany n = (n < shots_least) ⊎ (shots_most < n)

abbrev pub Unequal : List ℕ → List Float → Type 0
Unequal u v = length v ≡ 2 * length u → ⊥

abbrev pub take_lines : ℕ → List Shot → ℕ → List Line
take_lines e l n = edition_lines e (FewOrMany n) (take n l)

abbrev pub take_runs_lines : ℕ → List ℕ → List Float → List Line
take_runs_lines e u v = edition_lines e (FewOrMany (length u) ⊎ Unequal u v) (shots_in u v)
