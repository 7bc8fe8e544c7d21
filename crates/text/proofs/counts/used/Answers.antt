-- `text::counts::used` meets its contract: a shot is used where the list meets its row, and the count is how many are.
use mathlib.Core.Path.{◌≡◌, refl, ◌∙◌, ap}
use native.Mathlib.Omega.{arith}
use borrow.Author.Rules.{rules}
use borrow.Author.Tests.{tests}
use mathlib.Core.Bool.{Bool, true, false, cond}
use mathlib.Core.List.{List}
use Prim.Native.Nat.{ℕ, ◌≤◌}
use lib.ListN.{length}
use Rattle.std.proofs.lemmas.Iterator.Consumers.{YieldsList-from_filter, YieldsList-at}
use Rattle.algebra.specs.Loops.{tally}
use Rattle.algebra.specs.Words.{meets_of, row_of}
use Rattle.algebra.proofs.LoopLaws.{tally_same, tally_below}
use Rattle.algebra.proofs.ChainLaws.{count_called, road_upto}
use Rattle.triples.specs.Sets.{words_of, Holding}
use Rattle.shots.specs.Sizes.{shots_most}
use Rattle.triples.specs.Sizes.{word_count}
use Rattle.triples.specs.declared.Triples.{Triples}
use Rattle.text.specs.Lines.{used_of}
use Rattle.text.proofs.CountLaws.{uses_held}
use Rattle.text.proofs.counts.used.Goals as goal

module _ (held : List ℕ) (n : ℕ) (list : Triples) where
  -- the list meets row k of the words
  abbrev meets_row : ℕ → Bool
  meets_row k = meets_of (words_of list) (row_of word_count held k)

  all_used : length (words_of list) ≡ word_count → n ≤ shots_most → Holding n held → tally n (λ k. cond (meets_row k) 1 0) ≡ used_of n (words_of list)
  unfolding used_of
  all_used words few holds = tally_same _ _ n (λ k l. ap (λ b. cond b 1 0) (ap (meets_of (words_of list)) (holds k l) ∙ uses_held n k list words few))

  at_most_one : (b : Bool) → cond b 1 0 ≤ 1
  at_most_one true = omega arith
  at_most_one false = omega arith

  at_most_all : tally n (λ k. cond (meets_row k) 1 0) ≤ n
  at_most_all = omega (arith, tally_below (λ k. cond (meets_row k) 1 0) n 1 (λ k _. at_most_one (meets_row k)))

pub returns : goal.returns
returns c =
    let held = c.args.held.now in
    let list = c.args.list in
    let counted : c.count.result ≡ tally c.args.n (λ k. cond (meets_row held c.args.n list k) 1 0) =
    count_called (meets_row held c.args.n list) _ _ _ c.count.ensures.ran
    (YieldsList-from_filter _ (meets_row held c.args.n list) (YieldsList-at c.filter.ensures.source (road_upto c.args.n refl)) c.filter.ensures.closure (λ x r q k. search (rules, tests))) in
    (counted ∙ all_used held c.args.n list (omega arith) c.requires.0 c.requires.2, omega (arith, counted, at_most_all held c.args.n list))
