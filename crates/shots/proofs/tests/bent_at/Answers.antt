-- `shots::tests::bent_at` meets its contract: the sign is not 0.
use mathlib.Core.Path.{ap}
use mathlib.Core.Bool.{not}
use Rattle.algebra.proofs.SizeLaws.{sign_is_nought}
use Rattle.shots.specs.Tests.{bent_at}
use Rattle.shots.proofs.tests.bent_at.Goals as goal

pub returns : goal.returns
unfolding bent_at
returns c = ap not (sign_is_nought c.sign.result _ c.sign.ensures)
