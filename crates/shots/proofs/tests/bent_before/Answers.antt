-- `shots::tests::bent_before` meets its contract: it looks at each shot before c.
use Rattle.std.proofs.Common.{rules, refl}
use borrow.Author.Tests.{tests}
use Rattle.algebra.proofs.ChainLaws.{any_called, road_upto}
use Rattle.shots.specs.Tests.{bent_of, bent_before}
use Rattle.shots.proofs.tests.bent_before.Goals as goal

pub returns : goal.returns
unfolding bent_before
returns c = any_called (bent_of c.args.shots.now c.args.c) (c.args.c) _ _ _ c.any.ensures.ran (road_upto _ refl) (λ x b q k. search (rules, tests))
