-- When shots from a controller are refused, as tests that compute (specs/Lines has them as statements).
--
--   far_off x             the whole number nearest to x is beyond the range of a coordinate
--   finite_rule foot s    16: of a shot's east, its north and the answers of the operations, one is not finite
--   range_rule foot s     2: a whole number taken is beyond its range
--   turn_rules foot l     those two rules of each shot of l in turn
--   count_rule n          1: not 3 to 10 shots
--   intake_rules foot r l the rule r of the number of shots; then each shot's in turn; then 3 and 4, on the whole numbers
--   edition_rule e        17: an edition other than 1 or 2
--   front_rules e n       the two rules that need no shot: 17, then 1
--   foot_in e             the foot of an edition, or 17
--   whole_in_range x      the whole number nearest to x, or 2
--   placed_of foot s      a shot's east and north in whole millimetres, or 16 2
--   coordinates_of foot l the coordinates of the shots l in front of zeros, or the 16 or 2 of the first that is refused
--
-- Source: document 02, E2, E13.
use Rattle.std.specs.Prelude.{Bool, not, ◌||◌, List, [], ◌∷◌, ◌++◌, ℕ, eqb, ltb, replicate, ℤ, pos, nat_abs, Float}
use Rattle.std.specs.Float.Ieee.Scale.{finite}
use Rattle.algebra.specs.Answer.{Answer, Rule, chain}
use Rattle.algebra.specs.Loops.{any_of}
use Rattle.algebra.specs.Writing.{wrote}
use Rattle.shots.specs.Sizes.{shots_least, shots_most, coordinates_most, farthest}
use Rattle.shots.specs.Tests.{shape_rules}
use Rattle.intake.specs.Nearest.{whole_of}
use Rattle.intake.specs.Scaling.{foot_of, scaled_of, answers_of, millimetres_of}
use Rattle.intake.specs.declared.Shot.{Shot}
use Rattle.intake.specs.declared.Foot.{Foot}

unfoldable pub far_off : Float → Bool
far_off x = ltb farthest (nat_abs (whole_of x))

abbrev pub finite_rule : Foot → Shot → Rule
finite_rule foot s = record { number = 16; broken = any_of (λ x. not (finite x)) (answers_of foot s) }

abbrev pub range_rule : Foot → Shot → Rule
range_rule foot s = record { number = 2; broken = far_off (scaled_of foot s).east || far_off (scaled_of foot s).north }

abbrev pub turn_rules : Foot → List Shot → List Rule
turn_rules foot [] = []
turn_rules foot (s ∷ l) = finite_rule foot s ∷ range_rule foot s ∷ turn_rules foot l

abbrev pub count_rule : ℕ → Rule
count_rule n = record { number = 1; broken = ltb n shots_least || ltb shots_most n }

abbrev pub intake_rules : Foot → Rule → List Shot → List Rule
intake_rules foot r l = r ∷ (turn_rules foot l ++ shape_rules (millimetres_of foot l))

abbrev pub edition_rule : ℕ → Rule
edition_rule e = record { number = 17; broken = not (eqb e 1 || eqb e 2) }

abbrev pub front_rules : ℕ → ℕ → List Rule
front_rules e n = edition_rule e ∷ count_rule n ∷ []

-- ---- what the steps of a call answer

unfoldable pub foot_in : ℕ → Answer Foot
foot_in e = chain (edition_rule e ∷ []) (foot_of e)

unfoldable pub whole_in_range : Float → Answer ℤ
whole_in_range x = chain (record { number = 2; broken = far_off x } ∷ []) (whole_of x)

unfoldable pub placed_of : Foot → Shot → Answer (ℤ × ℤ)
placed_of foot s = chain (finite_rule foot s ∷ range_rule foot s ∷ []) (whole_of (scaled_of foot s).east, whole_of (scaled_of foot s).north)

unfoldable pub coordinates_of : Foot → List Shot → Answer (List ℤ)
coordinates_of foot l = chain (turn_rules foot l) (wrote (replicate coordinates_most (pos 0)) 0 (millimetres_of foot l))
