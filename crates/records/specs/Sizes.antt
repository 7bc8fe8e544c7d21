-- The version byte of a record; src/lib.rt has the same as a constant.
use Rattle.std.specs.Prelude.{ℕ}

abbrev pub version : ℕ
version = 1
