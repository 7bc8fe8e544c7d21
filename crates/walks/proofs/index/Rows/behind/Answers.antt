-- `walks::index::Rows::behind` meets its contract: one of the rows behind is the list, or one of those that the index covers.
use Rattle.std.specs.Prelude.{◌||◌, Bool, ℕ, min}
use mathlib.Core.Path.{sym, ◌∙◌, ap}
use borrow.Author.Rules.{rules}
use borrow.Author.Tests.{tests}
use Rattle.std.proofs.lemmas.Iterator.Search.{any_from_yields_List}
use Rattle.algebra.specs.Loops.{any}
use Rattle.algebra.specs.Sets.{same_list}
use Rattle.algebra.specs.Words.{row_of}
use Rattle.reach.specs.Walks.{seen_in}
use Rattle.triples.specs.Sizes.{word_count}
use Rattle.triples.specs.Sets.{words_of}
use Rattle.walks.specs.Index.{indexed_most}
use Rattle.walks.proofs.Chains.{road_down, any_behind}
use Rattle.walks.proofs.index.Rows.behind.Goals as goal

pub returns : goal.returns
unfolding seen_in
returns c =
    let n = c.args.self.now.walk.rows in
    let is = λ (q : ℕ). same_list (row_of word_count c.args.self.now.table.now q) (words_of c.args.list) in
    any_behind is indexed_most n
    ∙ ap (λ (b : Bool). b || any (min n indexed_most) is)
    (sym (any_from_yields_List is _ _ _ c.any.ensures.ran (road_down indexed_most n c.rev.ensures.source) (λ x b q k. search (rules, tests))))
