-- `triples::rows::read` meets its contract.
use mathlib.Core.Path.{◌∙◌}
use Rattle.triples.proofs.RowLaws.{row_is}
use Rattle.triples.proofs.rows.read.Goals as goal

pub returns : goal.returns
returns c = c.copy_from_slice.ensures.after ∙ row_is _ c.args.table.now c.args.p c.requires
