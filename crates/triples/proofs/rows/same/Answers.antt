-- `triples::rows::same` meets its contract.
use mathlib.Core.Path.{◌∙◌, ap}
use Rattle.algebra.specs.Sets.{same_list}
use Rattle.triples.proofs.RowLaws.{row_is}
use Rattle.triples.proofs.SetLaws.{same_words}
use Rattle.triples.proofs.rows.same.Goals as goal

pub returns : goal.returns
returns c = c.eq.ensures ∙ same_words _ c.args.row.now ∙ ap (λ r. same_list r c.args.row.now) (row_is _ c.args.table.now c.args.p c.requires)
