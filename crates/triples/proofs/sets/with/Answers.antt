-- `triples::sets::with` meets its contract: the word of the rank has its bit, the others are as they were.
use Rattle.std.proofs.Common.{rules, ◌∙◌, get_or, eqb, cond, ◌/◌, ◌%◌}
use native.Mathlib.Omega.{arith}
use borrow.Author.Tests.{tests}
use Rattle.algebra.specs.Words.{word_bits, set_bit, put_in}
use Rattle.algebra.proofs.ChainLaws.{filled_called}
use Rattle.triples.specs.Sizes.{word_count}
use Rattle.triples.proofs.SetLaws.{words-of, changed_at}
use Rattle.triples.proofs.sets.with.Goals as goal

pub returns : goal.returns
unfolding put_in
returns c =
    let w = c.args.list.words in
    let q = c.args.r / word_bits in
    let k = c.args.r % word_bits in
    filled_called _ (λ i. cond (eqb i q) (set_bit (get_or w i 0) k) (get_or w i 0)) word_count 0 c.from_fn.ensures.items (λ i y q l k. search (rules, tests))
    ∙ changed_at word_count (λ x. set_bit x k) w q (words-of c.args.list c.well_formed.0).0 (omega arith)
