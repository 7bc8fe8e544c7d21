-- `lists::edges::open` meets its contract: some shot has an open edge to a smaller one.
use Rattle.std.proofs.Common.{rules, refl}
use borrow.Author.Tests.{tests}
use Rattle.algebra.specs.Loops.{any}
use Rattle.algebra.specs.Words.{both_of, alone_of, row_of}
use Rattle.algebra.proofs.ChainLaws.{any_called, road_upto}
use Rattle.triples.specs.Sizes.{word_count}
use Rattle.triples.specs.Sets.{words_of}
use Rattle.lists.specs.Held.{inner_row}
use Rattle.lists.proofs.edges.open.Goals as goal

pub returns : goal.returns
returns c =
    any_called (λ j. any j (λ i. alone_of (both_of (words_of c.args.list) (row_of word_count c.args.held.now (inner_row i j))))) c.args.n _ _ _ c.any.ensures.ran (road_upto _ refl)
    (λ x b q k. search (rules, tests))
