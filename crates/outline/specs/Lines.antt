-- The lines of document 01's table of refusals that `chains` can give, as statements, in their order, and what it lists.
--
--   chains_lines l s t    1-4, and 11: one of the two buffers is shorter than its chain
--   CornerShots l xs     xs holds each corner, an end of a side, once, and nothing else
--
-- The theorems: proofs/Promises, proofs/Outline. Source: document 02, E5.
use Rattle.std.specs.Prelude.{◌⊎◌, List, [], ◌∷◌, ◌++◌, ℕ, ℤ}
use Rattle.algebra.specs.Answer.{Line}
use Rattle.algebra.specs.Sets.{Exactly}
use Rattle.algebra.specs.Writing.{NoRoom}
use Rattle.matroid.specs.Chains.{Corner}
use Rattle.shots.specs.Coordinates.{point_of}
use Rattle.shots.specs.Patch.{count_of}
use Rattle.shots.specs.Lines.{shot_lines}
use Rattle.outline.specs.Wrapping.{south_of, north_of}

abbrev pub chains_lines : List ℤ → List ℕ → List ℕ → List Line
chains_lines l s t = shot_lines l ++ record { number = 11; when = NoRoom (south_of l) s ⊎ NoRoom (north_of l) t } ∷ []

abbrev pub CornerShots : List ℤ → List ℕ → Type 0
CornerShots l = Exactly 0 (Corner (count_of l) (point_of l))
