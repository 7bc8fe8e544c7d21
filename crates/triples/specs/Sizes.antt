-- The sizes of this room; src/lib.rt has the shots of a piece and the words of a list as constants.
--
--   piece_size     the shots of a piece of the plane: it is a triple
--   word_count      the words of a list
--   triples_most    the triples of the largest patch
use Rattle.std.specs.Prelude.{ℕ}

abbrev pub piece_size : ℕ
piece_size = 3

abbrev pub word_count : ℕ
word_count = 2

abbrev pub triples_most : ℕ
triples_most = 120
