-- `triples::sets::both` meets its contract, word by word.
use Rattle.std.proofs.Common.{rules, ◌∙◌, get_or, bit_and}
use borrow.Author.Tests.{tests}
use Rattle.algebra.specs.Words.{both_of}
use Rattle.algebra.proofs.ChainLaws.{filled_called}
use Rattle.triples.specs.Sizes.{word_count}
use Rattle.triples.proofs.SetLaws.{words-of, and_bitwise, each_op}
use Rattle.triples.proofs.sets.both.Goals as goal

pub returns : goal.returns
unfolding both_of
returns c =
    let a = c.args.a.words in
    let b = c.args.b.words in
    filled_called _ (λ i. bit_and (get_or a i 0) (get_or b i 0)) word_count 0 c.from_fn.ensures.items (λ i y q l k. search (rules, tests))
    ∙ each_op word_count _ _ a b and_bitwise (words-of c.args.a c.well_formed.0) (words-of c.args.b c.well_formed.1.0)
