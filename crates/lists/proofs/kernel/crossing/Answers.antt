-- `lists::kernel::crossing` meets its contract: some circuit has both sides inside triples of the list.
use Rattle.std.specs.Prelude.{◌&&◌, ℕ, Bool, List}
use Rattle.std.proofs.Common.{rules, refl, ◌∙◌, ap}
use borrow.Author.Tests.{tests}
use Rattle.algebra.specs.Loops.{any}
use Rattle.algebra.specs.Words.{meets_of, row_of}
use Rattle.algebra.proofs.ChainLaws.{any_called, road_upto}
use Rattle.triples.specs.Sizes.{word_count}
use Rattle.triples.specs.Sets.{words_of}
use Rattle.lists.specs.Held.{plus_row, minus_row}
use Rattle.lists.proofs.kernel.crossing.Goals as goal

-- both sides of circuit z are inside triples of the list w, by the table t
abbrev met : List ℕ → List ℕ → ℕ → Bool
met w t z = meets_of w (row_of word_count t (plus_row z)) && meets_of w (row_of word_count t (minus_row z))

pub returns : goal.returns
returns c =
    let f = met (words_of c.args.list) c.args.held.now.rows in
    any_called f c.len.result _ _ _ c.any.ensures.ran (road_upto _ refl) (λ x b q k. search (rules, tests)) ∙ ap (λ (k : ℕ). any k f) c.len.ensures.value
