-- `surfaces::placed::first_off` meets its contract: the place is that of the first shot off the line.
use Rattle.std.specs.Prelude.{not}
use Rattle.std.proofs.Common.{rules, refl}
use mathlib.Core.Path.{◌∙◌}
use borrow.Author.Tests.{tests}
use Rattle.algebra.specs.Sign.{is_nought}
use Rattle.algebra.proofs.ChainLaws.{road_upto}
use Rattle.algebra.proofs.SizeLaws.{sign_is_nought}
use Rattle.shots.specs.Patch.{count_of, orient_of}
use Rattle.surfaces.specs.Placing.{first_off}
use Rattle.surfaces.proofs.Chains.{position_called}
use Rattle.surfaces.proofs.placed.first_off.Goals as goal

pub returns : goal.returns
unfolding first_off
returns c =
    c.unwrap_or.ensures
    ∙ position_called (λ k. not (is_nought (orient_of c.args.shots.now 0 1 k))) (count_of c.args.shots.now) _ _ _ c.position.ensures.ran (road_upto _ refl) (λ x b q k. search (rules, tests, sign_is_nought))
