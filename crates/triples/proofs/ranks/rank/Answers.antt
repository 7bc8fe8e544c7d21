-- `triples::ranks::rank` meets its contract: all triples but those after it and itself.
use mathlib.Core.Path.{◌≡◌}
use mathlib.Core.List.{[], ◌∷◌}
use Prim.Native.Nat.{ℕ, suc, ◌+◌, ◌-◌, ◌≤◌}
use native.Mathlib.Omega.{arith}
use Rattle.algebra.specs.Places.{choose}
use Rattle.triples.specs.Sizes.{triples_most}
use Rattle.triples.specs.Ranks.{rank_of, triple_count}
use Rattle.triples.proofs.RankLaws.{rank_later, triples_few}
use Rattle.triples.proofs.ranks.rank.Lts
use Rattle.triples.proofs.ranks.rank.Reads
use Rattle.triples.proofs.ranks.rank.Tie
use Rattle.triples.proofs.ranks.rank.Goals as goal

abbrev Start : Type 0
Start = Lts.Start Tie.the-claims Reads.Pre Reads.Post

abbrev After-count : Type 0
After-count = Lts.After-count Tie.the-claims Reads.Pre Reads.Post

module _ (s : Start) where
  abbrev after : ℕ
  after = choose (s.args.n - 1 - s.args.i) 3 + choose (s.args.n - 1 - s.args.j) 2 + (s.args.n - 1 - s.args.k)

  -- the triples before it, it, and those after it
  all : rank_of s.args.n (s.args.i ∷ s.args.j ∷ s.args.k ∷ []) + suc after ≡ triple_count s.args.n
  all = rank_later s.args.n s.args.i s.args.j s.args.k s.requires.0 s.requires.1 s.requires.2

  few : suc after ≤ triples_most
  few = omega (arith, all, triples_few s.args.n s.requires.3)

pub overflow_add-after : goal.overflow_add-after
overflow_add-after c = omega (arith, few c.before.before, c.choose.ensures, c.choose-2.ensures)

pub overflow_add-after-2 : goal.overflow_add-after-2
overflow_add-after-2 c = omega (arith, few c.before.before, c.choose.ensures, c.choose-2.ensures)

-- what the code adds up is how many come after it
module _ (c : After-count) where
  abbrev start : Start
  start = c.before.before.before

  sum : c.choose.result + c.choose-2.result + (start.args.n - 1 - start.args.k) ≡ after start
  sum = λ z. c.choose.ensures z + c.choose-2.ensures z + (start.args.n - 1 - start.args.k)

pub overflow_sub-result : goal.overflow_sub-result
overflow_sub-result c = omega (arith, all (start c), c.count.ensures)

pub overflow_sub-result-2 : goal.overflow_sub-result-2
overflow_sub-result-2 c = omega (arith, all (start c), c.count.ensures, sum c)

pub returns : goal.returns
returns c = omega (arith, all (start c), c.count.ensures, sum c)
