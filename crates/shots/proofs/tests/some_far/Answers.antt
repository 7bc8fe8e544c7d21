-- `shots::tests::some_far` meets its contract: it looks at each coordinate.
use Rattle.std.proofs.Common.{rules, ◌∙◌, ltb, pos, nat_abs}
use borrow.Author.Tests.{tests}
use Rattle.std.proofs.lemmas.Iterator.{YieldsList-from_slice}
use Rattle.std.proofs.lemmas.Iterator.Search.{any_from_yields_List}
use Rattle.algebra.proofs.ChainLaws.{any_places}
use Rattle.shots.specs.Sizes.{farthest}
use Rattle.shots.specs.Tests.{far_at, some_far}
use Rattle.shots.proofs.tests.some_far.Goals as goal

pub returns : goal.returns
unfolding some_far far_at
returns c =
    any_from_yields_List (λ x. ltb farthest (nat_abs x)) _ _ _ c.any.ensures.ran (YieldsList-from_slice c.args.shots.now (cc)) (λ x b q k. search (rules, tests))
    ∙ any_places (pos 0) (λ x. ltb farthest (nat_abs x)) c.args.shots.now
