-- `shots::plane::between` meets its contract: its difference of products is the scalar product.
use mathlib.Core.Path.{◌≡◌, ◌∙◌, ap}
use mathlib.Core.List.{[], ◌∷◌}
use lib.IntN.{ℤ, ◌-ℤ◌, ◌*ℤ◌}
use mir.Syntax.{w64}
use mir.Val.{to_z, of_z}
use Rattle.algebra.specs.Sign.{sign_of, is_minus}
use Rattle.algebra.proofs.Ring.{◌⊝◌, ◌⊗◌, ring}
use Rattle.algebra.proofs.SizeLaws.{read_back, below_is_minus}
use Rattle.matroid.specs.Points.{Point, dot}
use Rattle.matroid.proofs.Turns.{coordinates, X, Y, O}
use Rattle.shots.specs.Coordinates.{x_of, y_of, point_of}
use Rattle.shots.specs.Patch.{between_of}
use Rattle.shots.proofs.Bounds.{near_gap}
use Rattle.shots.proofs.plane.between.Goals as goal

pub cross-requires : goal.cross-requires
cross-requires c =
    let n = near_gap c.args.shots.now c.requires.3 in
    simp (
      read_back w64 c.gap-amx.result c.gap-amx.type_inv c.gap-amx.ensures,
      read_back w64 c.gap-bmx.result c.gap-bmx.type_inv c.gap-bmx.ensures,
      read_back w64 c.gap-may.result c.gap-may.type_inv c.gap-may.ensures,
      read_back w64 c.gap-bmy.result c.gap-bmy.type_inv c.gap-bmy.ensures,
    )
    (n _ _, n _ _, n _ _, n _ _)

-- the second product has one factor turned, so the difference is a sum
turned : (m a b : Point) → (a.x -ℤ m.x) *ℤ (b.x -ℤ m.x) -ℤ (m.y -ℤ a.y) *ℤ (b.y -ℤ m.y) ≡ dot m a b
turned m a b = ring (coordinates (m ∷ a ∷ b ∷ [])) ((X 1 ⊝ X 0) ⊗ (X 2 ⊝ X 0) ⊝ (Y 0 ⊝ Y 1) ⊗ (Y 2 ⊝ Y 0)) (O 0 1 2) tt

-- the machine's cross product is the scalar product
own : (c : goal.After-cross) →
    let l = c.args.shots.now in
    let a = c.args in
    to_z w64 (of_z w64 c.cross.result) ≡ dot (point_of l a.m) (point_of l a.a) (point_of l a.b)
unfolding x_of y_of
own c =
    let d = c.before in
    let l = d.args.shots.now in
    let a = d.args in
    read_back w64 c.cross.result c.cross.type_inv
    (c.cross.ensures ∙
    simp (
      read_back w64 d.gap-amx.result d.gap-amx.type_inv d.gap-amx.ensures,
      read_back w64 d.gap-bmx.result d.gap-bmx.type_inv d.gap-bmx.ensures,
      read_back w64 d.gap-may.result d.gap-may.type_inv d.gap-may.ensures,
      read_back w64 d.gap-bmy.result d.gap-bmy.type_inv d.gap-bmy.ensures,
    )
    (turned (point_of l a.m) (point_of l a.a) (point_of l a.b)))

pub returns : goal.returns
unfolding between_of
returns c = below_is_minus _ ∙ ap (λ (z : ℤ). is_minus (sign_of z)) (own c)
