-- `shots::pairs::side_count` meets its contract: it sums over the larger ends; each of at most ten shots adds at most ten.
use Rattle.std.proofs.Common.{rules, refl, ◌^◌, ◌<◌}
use borrow.Author.Tests.{tests}
use native.Mathlib.Omega.{arith}
use Rattle.std.proofs.lemmas.Iterator.{YieldsList-from_map}
use Rattle.std.proofs.lemmas.Iterator.Consumers.{YieldsList-at}
use Rattle.algebra.specs.Loops.{tally}
use Rattle.algebra.proofs.LoopLaws.{tally_below}
use Rattle.algebra.proofs.ChainLaws.{sum_called, sum_fits, road_upto}
use Rattle.shots.specs.Sizes.{shots_most}
use Rattle.shots.specs.Patch.{count_of}
use Rattle.shots.specs.Calls.{sides_of}
use Rattle.shots.proofs.Bounds.{sides_few}
use Rattle.shots.proofs.pairs.side_count.Goals as goal

pub sum-requires-clause-fits : goal.sum-requires-clause-fits
sum-requires-clause-fits c =
    let l = c.args.shots.now in
    let few : tally (count_of l) (sides_of l) < 2 ^ 64 = omega (arith, c.requires.0, sides_few l (count_of l), tally_below (sides_of l) (count_of l) shots_most (λ i h. omega (arith, c.requires.0, sides_few l i))) in
    sum_fits (sides_of l) (count_of l) _ (2 ^ 64) (YieldsList-from_map _ (sides_of l) (YieldsList-at c.map.ensures.source (road_upto (count_of l) refl)) c.map.ensures.closure (λ x r q k. search (rules, tests))) few

pub returns : goal.returns
returns c =
    let l = c.args.shots.now in
    sum_called (sides_of l) _ _ _ c.sum.ensures.ran (YieldsList-from_map _ (sides_of l) (YieldsList-at c.map.ensures.source (road_upto (count_of l) refl)) c.map.ensures.closure (λ x r q k. search (rules, tests)))
