-- `triples::rows::write` meets its contract.
use Rattle.triples.proofs.RowLaws.{row_put}
use Rattle.triples.proofs.rows.write.Goals as goal

pub returns : goal.returns
returns c = row_put c.args.table.now c.args.p c.args.row.now c.copy_from_slice.ensures.after c.requires
