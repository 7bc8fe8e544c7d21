-- What each public call of this room answers, for every input: its contract is an equation with one of these. Both hand out shots as a patch reader does (`PatchRead` of shots).
--
--   taken_by foot r l n   by a foot's factors, the n shots l: n, and their coordinates in front of zeros; or the number of the rule r, each shot's 16 or 2, 3 4, and 0 everywhere
--   taken_in e r l n      in an edition: 17 where there is none such, and 0 everywhere; else by its foot
--   take_of e l n         the first n shots of the array l: 17, 1, each shot's 16 or 2, 3 4
--   take_runs_of e u v     the shots of the runs u and v, taken the same way
--
-- Source: document 02, E2, E13.
use Rattle.std.specs.Prelude.{List, ◌∷◌, ℕ, length, take, Float}
use Rattle.algebra.specs.Answer.{Rule}
use Rattle.shots.specs.Calls.{PatchRead, patch_given}
use Rattle.intake.specs.Scaling.{foot_of, millimetres_of}
use Rattle.intake.specs.Tests.{count_rule, intake_rules, edition_rule}
use Rattle.intake.specs.Runs.{shots_in, runs_rule}
use Rattle.intake.specs.declared.Shot.{Shot}
use Rattle.intake.specs.declared.Foot.{Foot}

abbrev pub taken_by : Foot → Rule → List Shot → ℕ → PatchRead
taken_by foot r l n = patch_given (intake_rules foot r l) n (millimetres_of foot l)

abbrev pub taken_in : ℕ → Rule → List Shot → ℕ → PatchRead
taken_in e r l n = patch_given (edition_rule e ∷ intake_rules (foot_of e) r l) n (millimetres_of (foot_of e) l)

unfoldable pub take_of : ℕ → List Shot → ℕ → PatchRead
take_of e l n = taken_in e (count_rule n) (take n l) n

unfoldable pub take_runs_of : ℕ → List ℕ → List Float → PatchRead
take_runs_of e u v = taken_in e (runs_rule u v) (shots_in u v) (length u)
