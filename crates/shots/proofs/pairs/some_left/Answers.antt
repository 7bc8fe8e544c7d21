-- `shots::pairs::some_left` meets its contract: it looks at each shot.
use Rattle.std.proofs.Common.{rules, refl}
use borrow.Author.Tests.{tests}
use Rattle.algebra.proofs.ChainLaws.{any_called, road_upto}
use Rattle.algebra.specs.Sign.{is_plus}
use Rattle.algebra.proofs.SizeLaws.{sign_is_plus}
use Rattle.shots.specs.Patch.{count_of, orient_of, some_left}
use Rattle.shots.proofs.pairs.some_left.Goals as goal

pub returns : goal.returns
unfolding some_left
returns c = any_called (λ k. is_plus (orient_of c.args.shots.now c.args.i c.args.j k)) (count_of c.args.shots.now) _ _ _ c.any.ensures.ran (road_upto _ refl) (λ x b q k. search (rules, tests, sign_is_plus))
