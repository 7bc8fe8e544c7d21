-- The sizes of this room; src/lib.rt has the same as constants.
--
--   table_rows      the rows of the table that is walked in
--   table_words     its words
--   steps_most      more steps than a walk in any table can take
--   part_lines      so many lines are printed at a time
--   part_most       no such part is longer
use Rattle.std.specs.Prelude.{ℕ, ◌+◌, ◌*◌}
use Rattle.reach.specs.Walks.{rows_most}
use Rattle.circuits.specs.Sizes.{circuits_most}
use Rattle.triples.specs.Sizes.{word_count}
use Rattle.text.specs.Sizes.{line_most}

abbrev pub table_rows : ℕ
table_rows = 4096

abbrev pub table_words : ℕ
table_words = word_count * table_rows

abbrev pub steps_most : ℕ
steps_most = rows_most * circuits_most + 1

abbrev pub part_lines : ℕ
part_lines = 64

abbrev pub part_most : ℕ
part_most = part_lines * line_most
