-- `triples::ranks::piece_count` meets its contract.
use mathlib.Core.Path.{sym, ◌∙◌}
use Rattle.triples.proofs.PieceLaws.{count_pieces}
use Rattle.triples.proofs.ranks.piece_count.Goals as goal

pub returns : goal.returns
returns c = c.choose.ensures ∙ sym (count_pieces c.args.size c.args.n)
