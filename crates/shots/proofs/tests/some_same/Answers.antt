-- `shots::tests::some_same` meets its contract: it looks at each shot.
use Rattle.std.proofs.Common.{rules, refl}
use borrow.Author.Tests.{tests}
use Rattle.algebra.proofs.ChainLaws.{any_called, road_upto}
use Rattle.shots.specs.Patch.{count_of}
use Rattle.shots.specs.Tests.{same_before, some_same}
use Rattle.shots.proofs.tests.some_same.Goals as goal

pub returns : goal.returns
unfolding some_same
returns c = any_called (same_before c.args.shots.now) (count_of c.args.shots.now) _ _ _ c.any.ensures.ran (road_upto _ refl) (λ x b q k. search (rules, tests))
