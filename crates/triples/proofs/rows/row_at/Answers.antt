-- `triples::rows::row_at` meets its contract, word by word.
use Rattle.std.proofs.Common.{rules, ◌+◌, ◌*◌, get_or}
use borrow.Author.Tests.{tests}
use Rattle.algebra.specs.Words.{row_of}
use Rattle.algebra.proofs.ChainLaws.{filled_called}
use Rattle.triples.specs.Sizes.{word_count}
use Rattle.triples.proofs.rows.row_at.Goals as goal

pub returns : goal.returns
unfolding row_of
returns c = filled_called _ (λ i. get_or c.args.table.now (word_count * c.args.p + i) 0) word_count 0 c.from_fn.ensures.items (λ i y q l k. search (rules, tests))
