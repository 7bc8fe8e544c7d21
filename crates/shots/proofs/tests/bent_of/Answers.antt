-- `shots::tests::bent_of` meets its contract: it looks at each shot before b.
use Rattle.std.proofs.Common.{rules, refl}
use borrow.Author.Tests.{tests}
use Rattle.algebra.proofs.ChainLaws.{any_called, road_upto}
use Rattle.shots.specs.Tests.{bent_at, bent_of}
use Rattle.shots.proofs.tests.bent_of.Goals as goal

pub returns : goal.returns
unfolding bent_of
returns c = any_called (bent_at c.args.shots.now c.args.c c.args.b) (c.args.b) _ _ _ c.any.ensures.ran (road_upto _ refl) (λ x b q k. search (rules, tests))
