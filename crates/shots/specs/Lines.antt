-- The lines of document 01's table of refusals that this room's calls can give, as statements, in their order.
--
--   BadCount l           1: shot count not 3 to 10, or an odd run of coordinates
--   Beyond l             2: a coordinate beyond its range
--   Repeated l           3: two shots equal
--   OneLine l            4: all shots on one line
--   NotShot l i          a number that is not a shot
--   NotPair l i j        a pair with a number that is not a shot, or not in order
--   shape_lines           the lines 3, 4
--   place_lines           the lines 2, 3, 4
--   shot_lines, orientation_lines, cocircuit_lines    the tables of the calls
--   SidePairs l ps       ps holds each side, a pair i < j of shots, once, and nothing else
--
-- The theorems that each call gives each number exactly when its line is the first that holds: proofs/Promises; that `border` counts the sides: proofs/Sides.
use Rattle.std.specs.Prelude.{◌≡◌, ◌⊎◌, List, [], ◌∷◌, ◌++◌, ℕ, ◌%◌, ◌≤◌, ◌<◌, get_or, length, ℤ, pos, nat_abs}
use Rattle.algebra.specs.Answer.{Line}
use Rattle.algebra.specs.Sets.{Exactly}
use Rattle.matroid.specs.Points.{Collinear}
use Rattle.matroid.specs.Borders.{SidePair}
use Rattle.shots.specs.Sizes.{shots_least, shots_most, farthest}
use Rattle.shots.specs.Coordinates.{point_of}
use Rattle.shots.specs.Patch.{count_of}

abbrev pub BadCount : List ℤ → Type 0
BadCount l = (length l % 2 ≡ 1) ⊎ ((count_of l < shots_least) ⊎ (shots_most < count_of l))

abbrev pub Beyond : List ℤ → Type 0
Beyond l = (i : ℕ) × (i < length l) × (farthest < nat_abs (get_or l i (pos 0)))

abbrev pub Repeated : List ℤ → Type 0
Repeated l = (i : ℕ) × (j : ℕ) × (i < j) × (j < count_of l) × (point_of l i ≡ point_of l j)

abbrev pub OneLine : List ℤ → Type 0
OneLine l = Collinear (count_of l) (point_of l)

abbrev pub NotShot : List ℤ → ℕ → Type 0
NotShot l i = count_of l ≤ i

abbrev pub NotPair : List ℤ → ℕ → ℕ → Type 0
NotPair l i j = NotShot l i ⊎ (NotShot l j ⊎ (j ≤ i))

abbrev pub shape_lines : List ℤ → List Line
shape_lines l = record { number = 3; when = Repeated l } ∷ record { number = 4; when = OneLine l } ∷ []

abbrev pub place_lines : List ℤ → List Line
place_lines l = record { number = 2; when = Beyond l } ∷ shape_lines l

abbrev pub shot_lines : List ℤ → List Line
shot_lines l = record { number = 1; when = BadCount l } ∷ place_lines l

abbrev pub orientation_lines : List ℤ → ℕ → ℕ → ℕ → List Line
orientation_lines l a b c = shot_lines l ++ record { number = 7; when = NotShot l a ⊎ (NotShot l b ⊎ NotShot l c) } ∷ []

abbrev pub cocircuit_lines : List ℤ → ℕ → ℕ → List Line
cocircuit_lines l i j = shot_lines l ++ record { number = 7; when = NotPair l i j } ∷ []

abbrev pub SidePairs : List ℤ → List (List ℕ) → Type 0
SidePairs l = Exactly [] (SidePair (count_of l) (point_of l))
