-- What the tests, circuits and surfaces above this room are computed from: how many shots a patch has, the sign of what `orientation` gives of three, which of three on a line is
-- between the others, and which pairs are border pairs; which are sides, for `border` and the report; and which of two shots is before the other, for the outline. Beside it, sums of areas read `area_of`, the published statements `patch_of` (specs/Coordinates), and records the run itself.
--
--   count_of l          the number of shots of the run l
--   orient_of l a b c   the sign of the double area of three shots: the orientation of source 001
--   between_of l m a b  of three shots on a line, m lies strictly between a and b
--   some_left, some_right    some shot has the sign plus, minus in the cocircuit of a pair
--   border_of l i j     the cocircuit of the pair has no two opposite signs
--   outside_at l i j k  shot k is another shot on the line of i and j, and not between the two
--   some_outside l i j  some shot is
--   side_pair_of l i j   a side: a border pair where every other shot on their line lies between the two
--   before_of l i j     shot i is left of shot j, or below it on an upright line
--
-- Theorems: proofs/Orientations, proofs/Borders, proofs/Sides, proofs/Orders. Source: document 01, "Shots and orientation"; source 001, section 3.1; document 02, E1, E5.
use Rattle.std.specs.Prelude.{Bool, not, cond, ◌&&◌, List, ℕ, ◌/◌, eqb, length, ℤ}
use Rattle.std.specs.Int.Signed.{lt_z}
use Rattle.algebra.specs.Loops.{any}
use Rattle.algebra.specs.Sign.{Sign, sign_of, is_minus, is_nought, is_plus, eq_z}
use Rattle.matroid.specs.Points.{dot}
use Rattle.shots.specs.Coordinates.{x_of, y_of, point_of, area_of}

abbrev pub count_of : List ℤ → ℕ
count_of l = length l / 2

unfoldable pub orient_of : List ℤ → ℕ → ℕ → ℕ → Sign
orient_of l a b c = sign_of (area_of l a b c)

unfoldable pub between_of : List ℤ → ℕ → ℕ → ℕ → Bool
between_of l m a b = is_minus (sign_of (dot (point_of l m) (point_of l a) (point_of l b)))

unfoldable pub some_left : List ℤ → ℕ → ℕ → Bool
some_left l i j = any (count_of l) (λ k. is_plus (orient_of l i j k))

unfoldable pub some_right : List ℤ → ℕ → ℕ → Bool
some_right l i j = any (count_of l) (λ k. is_minus (orient_of l i j k))

unfoldable pub border_of : List ℤ → ℕ → ℕ → Bool
border_of l i j = not (some_left l i j && some_right l i j)

unfoldable pub outside_at : List ℤ → ℕ → ℕ → ℕ → Bool
outside_at l i j k = not (eqb k i) && (not (eqb k j) && (is_nought (orient_of l i j k) && not (between_of l k i j)))

unfoldable pub some_outside : List ℤ → ℕ → ℕ → Bool
some_outside l i j = any (count_of l) (outside_at l i j)

unfoldable pub side_pair_of : List ℤ → ℕ → ℕ → Bool
side_pair_of l i j = border_of l i j && not (some_outside l i j)

unfoldable pub before_of : List ℤ → ℕ → ℕ → Bool
before_of l i j = cond (eq_z (x_of l i) (x_of l j)) (lt_z (y_of l i) (y_of l j)) (lt_z (x_of l i) (x_of l j))
