-- `shots::tests::some_bent` meets its contract: it looks at each shot.
use Rattle.std.proofs.Common.{rules, refl}
use borrow.Author.Tests.{tests}
use Rattle.algebra.proofs.ChainLaws.{any_called, road_upto}
use Rattle.shots.specs.Patch.{count_of}
use Rattle.shots.specs.Tests.{bent_before, some_bent}
use Rattle.shots.proofs.tests.some_bent.Goals as goal

pub returns : goal.returns
unfolding some_bent
returns c = any_called (bent_before c.args.shots.now) (count_of c.args.shots.now) _ _ _ c.any.ensures.ran (road_upto _ refl) (λ x b q k. search (rules, tests))
