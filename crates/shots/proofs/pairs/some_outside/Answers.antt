-- `shots::pairs::some_outside` meets its contract: it looks at each shot.
use Rattle.std.proofs.Common.{rules, refl}
use borrow.Author.Tests.{tests}
use Rattle.algebra.proofs.ChainLaws.{any_called, road_upto}
use Rattle.shots.specs.Patch.{count_of, outside_at, some_outside}
use Rattle.shots.proofs.pairs.some_outside.Goals as goal

pub returns : goal.returns
unfolding some_outside
returns c = any_called (outside_at c.args.shots.now c.args.i c.args.j) (count_of c.args.shots.now) _ _ _ c.any.ensures.ran (road_upto _ refl) (λ x b q k. search (rules, tests))
