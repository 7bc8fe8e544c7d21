-- What the public calls of this room answer, for every input: a list, as its words, or a refusal number.
--
--   placing_of l      the placing surface; or 1-4
--   flip_of l w z     the list flipped along circuit z; or 1-4, 7 10 8 9, 12 13
--   no_flip l w z     13: neither side's pieces are supported; `flip_rules l w z`: 12 13
--
-- That every list given is a triangulation of the patch, with no test of it: proofs/Promises. Source: document 01, "The placing surface", "Flips".
use Rattle.std.specs.Prelude.{ℕ, not, ◌||◌, List, [], ◌∷◌, ◌++◌, ℤ}
use Rattle.algebra.specs.Answer.{Answer, Rule, chain}
use Rattle.shots.specs.Patch.{count_of}
use Rattle.shots.specs.Tests.{shot_rules}
use Rattle.circuits.specs.Sides.{TwoSides}
use Rattle.circuits.specs.Calls.{circuit_at, circuit_rule}
use Rattle.lists.specs.Tests.{list_rules}
use Rattle.surfaces.specs.Flips.{pieces_of, supports, flipped_of}
use Rattle.surfaces.specs.Placing.{placed_of}

unfoldable pub placing_of : List ℤ → Answer (List ℕ)
placing_of l = chain (shot_rules l) (placed_of l)

-- 13: neither side's pieces are supported
abbrev pub no_flip : List ℤ → List ℕ → TwoSides → Rule
no_flip l w z = record { number = 13; broken = not (supports (count_of l) w (pieces_of (count_of l) z z.plus) || supports (count_of l) w (pieces_of (count_of l) z z.minus)) }

abbrev pub flip_rules : List ℤ → List ℕ → ℕ → List Rule
flip_rules l w z = circuit_rule l z ∷ no_flip l w (circuit_at l z) ∷ []

unfoldable pub flip_of : List ℤ → List ℕ → ℕ → Answer (List ℕ)
flip_of l w z = chain (shot_rules l ++ (list_rules l w ++ flip_rules l w z)) (flipped_of (count_of l) w (circuit_at l z))
