-- `lists::edges::open_with` meets its contract: some edge to the shot is that of exactly one triple.
use Rattle.std.proofs.Common.{rules, refl}
use borrow.Author.Tests.{tests}
use Rattle.algebra.specs.Words.{both_of, alone_of, row_of}
use Rattle.algebra.proofs.ChainLaws.{any_called, road_upto}
use Rattle.triples.specs.Sizes.{word_count}
use Rattle.triples.specs.Sets.{words_of}
use Rattle.lists.specs.Held.{inner_row}
use Rattle.lists.proofs.edges.open_with.Goals as goal

pub returns : goal.returns
returns c =
    any_called (λ i. alone_of (both_of (words_of c.args.list) (row_of word_count c.args.held.now (inner_row i c.args.j)))) c.args.j _ _ _ c.any.ensures.ran (road_upto _ refl)
    (λ x b q k. search (rules, tests))
