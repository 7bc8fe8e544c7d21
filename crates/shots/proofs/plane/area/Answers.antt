-- `shots::plane::area` meets its contract: its four differences are those of the determinant, and small.
use mathlib.Core.Path.{◌∙◌}
use mir.Syntax.{w64}
use Rattle.algebra.proofs.SizeLaws.{read_back}
use Rattle.shots.specs.Coordinates.{x_of, y_of, area_of}
use Rattle.shots.proofs.Bounds.{near_gap}
use Rattle.shots.proofs.plane.area.Goals as goal

pub cross-requires : goal.cross-requires
cross-requires c =
    let n = near_gap c.args.shots.now c.requires.3 in
    simp (
      read_back w64 c.gap-bax.result c.gap-bax.type_inv c.gap-bax.ensures,
      read_back w64 c.gap-cay.result c.gap-cay.type_inv c.gap-cay.ensures,
      read_back w64 c.gap-bay.result c.gap-bay.type_inv c.gap-bay.ensures,
      read_back w64 c.gap-cax.result c.gap-cax.type_inv c.gap-cax.ensures,
    )
    (n _ _, n _ _, n _ _, n _ _)

pub returns : goal.returns
unfolding area_of x_of y_of
returns c =
    let d = c.before in
    read_back w64 c.cross.result c.cross.type_inv
    (c.cross.ensures ∙
    simp (
      read_back w64 d.gap-bax.result d.gap-bax.type_inv d.gap-bax.ensures,
      read_back w64 d.gap-cay.result d.gap-cay.type_inv d.gap-cay.ensures,
      read_back w64 d.gap-bay.result d.gap-bay.type_inv d.gap-bay.ensures,
      read_back w64 d.gap-cax.result d.gap-cax.type_inv d.gap-cax.ensures,
    ))
