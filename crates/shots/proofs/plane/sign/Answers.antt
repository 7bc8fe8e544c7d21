-- `shots::plane::sign` meets its contract: the sign of the area.
use mathlib.Core.Path.{◌∙◌, ap}
use lib.IntN.{ℤ}
use mir.Syntax.{w8, w64}
use Rattle.algebra.specs.Sign.{sign_of, value}
use Rattle.algebra.proofs.SizeLaws.{read_back}
use Rattle.shots.specs.Patch.{orient_of}
use Rattle.shots.proofs.plane.sign.Goals as goal

pub returns : goal.returns
unfolding orient_of
returns c =
    read_back w8 c.sign_of.result c.sign_of.type_inv
    (c.sign_of.ensures ∙
    ap (λ (z : ℤ). value (sign_of z)) (read_back w64 c.area.result c.area.type_inv c.area.ensures))
