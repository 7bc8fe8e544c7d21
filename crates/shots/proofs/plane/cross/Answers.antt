-- `shots::plane::cross` meets its contract: products of small numbers and their difference fit 64 bits.
use Prim.Native.Nat.{◌≤◌, ◌*◌}
use native.Mathlib.Omega.{arith}
use lib.IntN.{ℤ, nat_abs, ◌-ℤ◌, ◌*ℤ◌}
use mir.Syntax.{w64}
use mir.Val.{SFits}
use mir.Facts.{to_z-of_z}
use Rattle.algebra.proofs.SizeLaws.{nat_abs-sub, mul_size, sfits_size}
use Rattle.shots.specs.Sizes.{farthest}
use Rattle.shots.proofs.plane.cross.Goals as goal

module _ (c : goal.Start) where
  product : (x y : ℤ) → nat_abs x ≤ 2 * farthest → nat_abs y ≤ 2 * farthest → SFits w64 (x *ℤ y)
  product x y hx hy = sfits_size w64 (x *ℤ y) (omega (arith, mul_size x y (2 * farthest) (2 * farthest) hx hy))

  left : SFits w64 (c.args.p *ℤ c.args.q)
  left = product c.args.p c.args.q c.requires.0 c.requires.1

  right : SFits w64 (c.args.r *ℤ c.args.s)
  right = product c.args.r c.args.s c.requires.2 c.requires.3

  whole : SFits w64 (c.args.p *ℤ c.args.q -ℤ c.args.r *ℤ c.args.s)
  whole =
      sfits_size w64 (c.args.p *ℤ c.args.q -ℤ c.args.r *ℤ c.args.s)
      (omega (
        arith,
        nat_abs-sub (c.args.p *ℤ c.args.q) (c.args.r *ℤ c.args.s),
        mul_size c.args.p c.args.q (2 * farthest) (2 * farthest) c.requires.0 c.requires.1,
        mul_size c.args.r c.args.s (2 * farthest) (2 * farthest) c.requires.2 c.requires.3,
      ))

pub overflow_mul-result : goal.overflow_mul-result
overflow_mul-result c = simp (to_z-of_z c.ranges.p, to_z-of_z c.ranges.q) (left c)

pub overflow_mul-result-2 : goal.overflow_mul-result-2
overflow_mul-result-2 c = simp (to_z-of_z c.ranges.r, to_z-of_z c.ranges.s) (right c)

pub overflow_sub-result : goal.overflow_sub-result
overflow_sub-result c =
    simp (
      to_z-of_z c.ranges.p,
      to_z-of_z c.ranges.q,
      to_z-of_z c.ranges.r,
      to_z-of_z c.ranges.s,
      to_z-of_z (left c),
      to_z-of_z (right c),
    )
    (whole c)

pub returns : goal.returns
returns c =
    simp (
      to_z-of_z c.ranges.p,
      to_z-of_z c.ranges.q,
      to_z-of_z c.ranges.r,
      to_z-of_z c.ranges.s,
      to_z-of_z (left c),
      to_z-of_z (right c),
      to_z-of_z (whole c),
    )
