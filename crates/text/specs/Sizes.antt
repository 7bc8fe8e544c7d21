-- The sizes of this room; src/lib.rt has line_most as a constant.
--
--   decimal_most     the digits of the largest 64-bit number
--   line_most        no line is longer: three numbers, 120 triples, and what stands between them
use Rattle.std.specs.Prelude.{ℕ}

abbrev pub decimal_most : ℕ
decimal_most = 20

abbrev pub line_most : ℕ
line_most = 544
