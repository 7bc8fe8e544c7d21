-- `triples::sets::is_empty` meets its contract: the words are those of the set with nothing in it.
use mathlib.Core.Path.{◌∙◌, ap}
use lib.Pointwise.{pointwise}
use lib.Dec.{eqb}
use Rattle.triples.specs.Sizes.{word_count}
use Rattle.triples.proofs.SetLaws.{words-of, same_words}
use Rattle.triples.proofs.SiftLaws.{empty_words}
use Rattle.triples.proofs.sets.is_empty.Goals as goal

pub returns : goal.returns
returns c = c.eq.ensures ∙ ap (pointwise eqb c.args.a.words) c.none.ensures ∙ same_words _ _ ∙ empty_words word_count _ (words-of c.args.a c.well_formed.0)
