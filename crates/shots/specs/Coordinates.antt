-- A patch is one run of coordinates, x then y of each shot. Above this room they are only written to a record and read from one.
--
--   x_of l i, y_of l i   the coordinates of shot i, 0 past the end
--   point_of l i        shot i as a point of the plane
--   patch_of l          the patch as a configuration, over which the published definitions are read
--   area_of l a b c     the double area of three shots, with its sign: what the call `orientation` gives of an accepted patch
--
-- Source: document 01, "Shots and orientation"; document 02, E6.
use Rattle.std.specs.Prelude.{List, ℕ, ◌+◌, ◌*◌, get_or, ℤ, pos}
use Rattle.matroid.specs.Configurations.{Configuration}
use Rattle.matroid.specs.Points.{Point, plane, turn}

unfoldable pub x_of : List ℤ → ℕ → ℤ
x_of l i = get_or l (2 * i) (pos 0)

unfoldable pub y_of : List ℤ → ℕ → ℤ
y_of l i = get_or l (2 * i + 1) (pos 0)

abbrev pub point_of : List ℤ → ℕ → Point
point_of l i = record { x = x_of l i; y = y_of l i }

abbrev pub patch_of : List ℤ → Configuration
patch_of l = plane (point_of l)

unfoldable pub area_of : List ℤ → ℕ → ℕ → ℕ → ℤ
area_of l a b c = turn (point_of l a) (point_of l b) (point_of l c)
