-- `shots::tests::same_before` meets its contract: it looks at each shot before j.
use Rattle.std.proofs.Common.{rules, refl}
use borrow.Author.Tests.{tests}
use Rattle.algebra.proofs.ChainLaws.{any_called, road_upto}
use Rattle.shots.specs.Tests.{same_at, same_before}
use Rattle.shots.proofs.tests.same_before.Goals as goal

pub returns : goal.returns
unfolding same_before
returns c = any_called (same_at c.args.shots.now c.args.j) (c.args.j) _ _ _ c.any.ensures.ran (road_upto _ refl) (λ x b q k. search (rules, tests))
