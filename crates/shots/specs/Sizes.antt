-- The sizes of a patch. src/lib.rt has the numbers of shots and coordinates as constants, and the range of a coordinate as LOWEST and HIGHEST.
--
--   shots_least, shots_most    a patch has 3 to 10 shots
--   coordinates_most          the coordinates of the largest patch
--   mask_bits                 a set of shots is held in so many bits, one for each shot
--   farthest                 a coordinate is from -1,000,000 to 1,000,000: its size is at most this
use Rattle.std.specs.Prelude.{ℕ}

abbrev pub shots_least : ℕ
shots_least = 3

abbrev pub shots_most : ℕ
shots_most = 10

abbrev pub coordinates_most : ℕ
coordinates_most = 20

abbrev pub mask_bits : ℕ
mask_bits = 16

abbrev pub farthest : ℕ
farthest = 1000000
