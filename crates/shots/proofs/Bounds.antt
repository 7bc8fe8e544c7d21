-- How large what is computed of shots can be.
--
--   near_gap      two coordinates differ by at most twice `farthest`
--   area_small    a double area is at most eight times its square
--   sides_few     shot j makes at most j sides with smaller shots
use mathlib.Core.Bool.{Bool, true, false, cond}
use mathlib.Core.List.{List}
use Prim.Native.Nat.{ℕ, ◌+◌, ◌*◌, ◌≤◌}
use native.Mathlib.Omega.{arith}
use lib.ListN.{get_or}
use lib.IntN.{ℤ, pos, nat_abs, ◌-ℤ◌, ◌*ℤ◌}
use Rattle.algebra.proofs.LoopLaws.{tally_below}
use Rattle.algebra.proofs.SizeLaws.{nat_abs-sub, mul_size}
use Rattle.shots.specs.Sizes.{farthest}
use Rattle.shots.specs.Coordinates.{x_of, y_of, area_of}
use Rattle.shots.specs.Patch.{side_pair_of}
use Rattle.shots.specs.Tests.{Near}
use Rattle.shots.specs.Calls.{sides_of}

module _ (l : List ℤ) (h : Near l) where
  pub near_gap : (i j : ℕ) → nat_abs (get_or l i (pos 0) -ℤ get_or l j (pos 0)) ≤ 2 * farthest
  unfolding Near
  near_gap i j = omega (arith, nat_abs-sub (get_or l i (pos 0)) (get_or l j (pos 0)), h i, h j)

  pub area_small : (a b c : ℕ) → nat_abs (area_of l a b c) ≤ 8 * farthest * farthest
  unfolding area_of x_of y_of
  area_small a b c =
      let p = near_gap (2 * b) (2 * a) in
      let q = near_gap (2 * c + 1) (2 * a + 1) in
      let r = near_gap (2 * b + 1) (2 * a + 1) in
      let s = near_gap (2 * c) (2 * a) in
      let left = mul_size (x_of l b -ℤ x_of l a) (y_of l c -ℤ y_of l a) (2 * farthest) (2 * farthest) p q in
      let right = mul_size (y_of l b -ℤ y_of l a) (x_of l c -ℤ x_of l a) (2 * farthest) (2 * farthest) r s in
      omega (arith, nat_abs-sub ((x_of l b -ℤ x_of l a) *ℤ (y_of l c -ℤ y_of l a)) ((y_of l b -ℤ y_of l a) *ℤ (x_of l c -ℤ x_of l a)))

pub sides_few : (l : List ℤ) (j : ℕ) → sides_of l j ≤ j
unfolding sides_of
sides_few l j = omega (arith, tally_below (λ i. cond (side_pair_of l i j) 1 0) j 1 (λ i h. one (side_pair_of l i j)))
  where
    one : (b : Bool) → cond b 1 0 ≤ 1
    one true = omega arith
    one false = omega arith
