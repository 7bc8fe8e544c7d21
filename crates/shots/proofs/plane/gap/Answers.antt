-- `shots::plane::gap` meets its contract: what is read from the run is what stands there.
use mathlib.Core.Path.{◌∙◌, refl}
use lib.ListN.{get_or}
use lib.IntN.{pos}
use mir.Syntax.{w32, w64}
use Rattle.algebra.proofs.SizeLaws.{read_back}
use Rattle.shots.proofs.plane.gap.Goals as goal

pub returns : goal.returns
returns c =
    let a = c.args in
    read_back w64 c.diff.result c.diff.type_inv
    (c.diff.ensures ∙
    simp (
      read_back w32 (get_or a.shots.now a.i (pos 0)) c.diff-arg-1.given refl,
      read_back w32 (get_or a.shots.now a.j (pos 0)) c.diff-arg-2-1.given refl,
    ))
