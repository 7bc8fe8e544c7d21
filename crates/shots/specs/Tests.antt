-- When a run of coordinates is refused, 1 to 4, as tests that compute (specs/Lines has them as statements).
--
--   bad_count l     not 3 to 10 shots, or an odd run
--   some_far l      a coordinate beyond its range; `far_at l i`: at place i
--   some_same l     two shots equal; `same_at l j i`: shots i and j; `same_before l j`: shot j and one before it
--   some_bent l     three shots that are not on one line; `bent_at l c b a`: a, b, c; `bent_of l c b`: some a before b with them; `bent_before l c`: some two before c with it
--   shape_rules l   the rules 3, 4
--   place_rules l   the rules 2, 3, 4
--   shot_rules l    the four rules, in order
--   refusal_of l    the number that refuses the run, 0 where it is accepted
--   Near l         every coordinate is within its range
--
-- Source: document 01, "Refusal numbers".
use Rattle.std.specs.Prelude.{Bool, not, ◌||◌, ◌&&◌, List, [], ◌∷◌, ℕ, ◌%◌, ◌≤◌, ltb, eqb, get_or, length, ℤ, pos, nat_abs}
use Rattle.algebra.specs.Answer.{Rule, refusal}
use Rattle.algebra.specs.Loops.{any}
use Rattle.algebra.specs.Sign.{eq_z, is_nought}
use Rattle.shots.specs.Sizes.{shots_least, shots_most, farthest}
use Rattle.shots.specs.Coordinates.{x_of, y_of}
use Rattle.shots.specs.Patch.{count_of, orient_of}

unfoldable pub bad_count : List ℤ → Bool
bad_count l = eqb (length l % 2) 1 || (ltb (count_of l) shots_least || ltb shots_most (count_of l))

unfoldable pub far_at : List ℤ → ℕ → Bool
far_at l i = ltb farthest (nat_abs (get_or l i (pos 0)))

unfoldable pub some_far : List ℤ → Bool
some_far l = any (length l) (far_at l)

-- shot i is shot j
unfoldable pub same_at : List ℤ → ℕ → ℕ → Bool
same_at l j i = eq_z (x_of l i) (x_of l j) && eq_z (y_of l i) (y_of l j)

-- some shot before j is shot j
unfoldable pub same_before : List ℤ → ℕ → Bool
same_before l j = any j (same_at l j)

unfoldable pub some_same : List ℤ → Bool
some_same l = any (count_of l) (same_before l)

-- shots a, b, c are not on one line; with some a < b; with some b < c
unfoldable pub bent_at : List ℤ → ℕ → ℕ → ℕ → Bool
bent_at l c b a = not (is_nought (orient_of l a b c))

unfoldable pub bent_of : List ℤ → ℕ → ℕ → Bool
bent_of l c b = any b (bent_at l c b)

unfoldable pub bent_before : List ℤ → ℕ → Bool
bent_before l c = any c (bent_of l c)

unfoldable pub some_bent : List ℤ → Bool
some_bent l = any (count_of l) (bent_before l)

abbrev pub shape_rules : List ℤ → List Rule
shape_rules l = record { number = 3; broken = some_same l } ∷ record { number = 4; broken = not (some_bent l) } ∷ []

abbrev pub place_rules : List ℤ → List Rule
place_rules l = record { number = 2; broken = some_far l } ∷ shape_rules l

abbrev pub shot_rules : List ℤ → List Rule
shot_rules l = record { number = 1; broken = bad_count l } ∷ place_rules l

unfoldable pub refusal_of : List ℤ → ℕ
refusal_of l = refusal (shot_rules l)

unfoldable pub Near : List ℤ → Type 0
Near l = (i : ℕ) → nat_abs (get_or l i (pos 0)) ≤ farthest
