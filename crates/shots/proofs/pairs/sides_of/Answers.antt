-- `shots::pairs::sides_of` meets its contract: it counts the smaller ends.
use Rattle.std.proofs.Common.{rules, refl, ℕ, Bool}
use borrow.Author.Tests.{tests}
use Rattle.std.proofs.lemmas.Iterator.Consumers.{YieldsList-from_filter, YieldsList-at}
use Rattle.algebra.proofs.ChainLaws.{count_called, road_upto}
use Rattle.shots.specs.Patch.{side_pair_of}
use Rattle.shots.specs.Calls.{sides_of}
use Rattle.shots.proofs.pairs.sides_of.Goals as goal

pub returns : goal.returns
unfolding sides_of
returns c =
    let side : ℕ → Bool = λ i. side_pair_of c.args.shots.now i c.args.j in
    count_called side _ _ _ c.count.ensures.ran (YieldsList-from_filter _ side (YieldsList-at c.filter.ensures.source (road_upto c.args.j refl)) c.filter.ensures.closure (λ x r q k. search (rules, tests)))
