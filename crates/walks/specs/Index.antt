-- The index that a run keeps over the rows of its table.
--
--   spots, indexed_most     the places of the index, and how many rows it covers: the first ones
--   spot_of w               the place of a row by its words; `spot_from a w`: with those before it worked into a
--   latest_of t s m         the last of the first m rows of the table t that has the place s, as its number plus 1; 0 where none has
--   covered_of n            how many of n rows the index covers
--   noted_of x p w          the index x with row p, the words w, put in
--   Indexed t n x          x is the index of the first n rows of t: at each place s stands the last covered row of the place s; behind the places, for each covered row, the one before it
--                          of the same place
--
-- Laws: proofs/IndexLaws.
use Rattle.std.specs.Prelude.{◌≡◌, ℕ, zero, suc, ◌+◌, ◌*◌, ◌%◌, ◌<◌, min, cond, List, [], ◌∷◌, length, ◌==◌, nat_lt, slice_index, slice_set}
use Rattle.algebra.specs.Words.{row_of}
use Rattle.triples.specs.Sizes.{word_count}

abbrev pub spots : ℕ
spots = 1021

abbrev pub indexed_most : ℕ
indexed_most = 4096

abbrev pub spot_from : ℕ → List ℕ → ℕ
spot_from a [] = a
spot_from a (x ∷ w) = spot_from ((a * 32 + x % spots) % spots) w

unfoldable pub spot_of : List ℕ → ℕ
spot_of w = spot_from 0 w

unfoldable pub latest_of : List ℕ → ℕ → ℕ → ℕ
latest_of t s zero = 0
latest_of t s (suc m) = cond (spot_of (row_of word_count t m) == s) (suc m) (latest_of t s m)

abbrev pub covered_of : ℕ → ℕ
covered_of n = min n indexed_most

unfoldable pub noted_of : List ℕ → ℕ → List ℕ → List ℕ
noted_of x p w = cond (nat_lt p indexed_most) (slice_set (slice_set x (spots + p) (slice_index x (spot_of w))) (spot_of w) (suc p)) x

pub record Indexed (table : List ℕ) (rows : ℕ) (index : List ℕ) : Type 0 where
  pub room : length index ≡ spots + indexed_most
  pub heads : (s : ℕ) → s < spots → slice_index index s ≡ latest_of table s (covered_of rows)
  pub links : (p : ℕ) → p < covered_of rows → slice_index index (spots + p) ≡ latest_of table (spot_of (row_of word_count table p)) p
