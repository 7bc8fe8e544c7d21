-- `triples::sets::meets` meets its contract, word by word.
use Rattle.std.proofs.Common.{rules, refl, ◌∙◌, not, get_or, bit_and}
use lib.Dec.{eqb}
use borrow.Author.Tests.{tests}
use Rattle.algebra.proofs.ChainLaws.{any_called, road_upto}
use Rattle.algebra.proofs.WordLaws.{meets_words}
use Rattle.triples.specs.Sizes.{word_count}
use Rattle.triples.proofs.SetLaws.{words-of}
use Rattle.triples.proofs.sets.meets.Goals as goal

pub returns : goal.returns
returns c =
    let a = c.args.a.words in
    let b = c.args.b.words in
    any_called (λ i. not (eqb (bit_and (get_or a i 0) (get_or b i 0)) 0)) word_count _ _ _ c.any.ensures.ran (road_upto _ refl) (λ x r q k. search (rules, tests))
    ∙ meets_words word_count a b (words-of c.args.a c.well_formed.0) (words-of c.args.b c.well_formed.1.0)
