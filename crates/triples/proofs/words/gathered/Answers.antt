-- `triples::words::gathered` meets its contract: the words are the one row of their table.
use mathlib.Core.Path.{◌∙◌}
use Rattle.algebra.proofs.WordLaws.{row_whole}
use Rattle.triples.specs.Sizes.{word_count}
use Rattle.triples.proofs.words.gathered.Goals as goal

pub returns : goal.returns
returns c = c.row_at.ensures ∙ row_whole word_count c.args.words.now c.requires
