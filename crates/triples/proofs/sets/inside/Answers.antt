-- `triples::sets::inside` meets its contract, word by word.
use Rattle.std.proofs.Common.{rules, refl, ◌∙◌, get_or, bit_and}
use lib.Dec.{eqb}
use borrow.Author.Tests.{tests}
use Rattle.algebra.proofs.ChainLaws.{all_called, road_upto}
use Rattle.algebra.proofs.WordLaws.{inside_words}
use Rattle.triples.specs.Sizes.{word_count}
use Rattle.triples.proofs.SetLaws.{words-of}
use Rattle.triples.proofs.sets.inside.Goals as goal

pub returns : goal.returns
returns c =
    let a = c.args.a.words in
    let b = c.args.b.words in
    all_called (λ i. eqb (bit_and (get_or a i 0) (get_or b i 0)) (get_or a i 0)) word_count _ _ _ c.all.ensures.ran (road_upto _ refl) (λ x r q k. search (rules, tests))
    ∙ inside_words word_count a b (words-of c.args.a c.well_formed.0) (words-of c.args.b c.well_formed.1.0)
