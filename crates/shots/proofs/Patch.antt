-- What an accepted run of coordinates is: near, of 3 to 10 shots, an even run, no two shots equal, not all on one line.
--
--   near_of           a run with no far coordinate is near
--   patch_near, patch_few, patch_even, patch_distinct, patch_differ, patch_bent    each of these, where the refusal is 0
--   patch_spans       then the shots span the plane
use mathlib.Core.Path.{◌≡◌}
use mathlib.Core.Logic.{inl, inr}
use mathlib.Core.Bool.{false}
use mathlib.Core.List.{List}
use Prim.Native.Nat.{ℕ, ◌*◌, ◌%◌, ◌≤◌, ◌<◌}
use native.Mathlib.Omega.{arith}
use native.Mathlib.Decide.{dec_lt}
use lib.ListN.{get_or, length, get_or-eq_default}
use lib.IntN.{ℤ, pos, nat_abs}
use borrow.Author.Tests.{ltb-false}
use Rattle.algebra.specs.Answer.{Clear}
use Rattle.algebra.proofs.AnswerLaws.{reflects_false}
use Rattle.algebra.proofs.LoopLaws.{any_no}
use Rattle.matroid.specs.Configurations.{Spans}
use Rattle.matroid.specs.Points.{Distinct, Collinear}
use Rattle.matroid.proofs.Lines.{spans_iff_bent}
use Rattle.matroid.proofs.Planar.{points_differ}
use Rattle.shots.specs.Sizes.{shots_least, shots_most, farthest}
use Rattle.shots.specs.Coordinates.{point_of, patch_of}
use Rattle.shots.specs.Patch.{count_of}
use Rattle.shots.specs.Tests.{far_at, some_far, refusal_of, Near}
use Rattle.shots.specs.Lines.{shot_lines}
use Rattle.shots.proofs.Decided.{far_decided}
use Rattle.shots.proofs.Promises.{shots_kept}

pub near_of : (l : List ℤ) → some_far l ≡ false → Near l
unfolding some_far far_at Near
near_of l h i = go (dec_lt i (length l))
  where
    go : Dec (i < length l) → nat_abs (get_or l i (pos 0)) ≤ farthest
    go (yes k) = ltb-false farthest (nat_abs (get_or l i (pos 0))) (any_no (far_at l) (length l) i h k)
    go (no k) = rw (get_or-eq_default l (pos 0) {n = i} (omega arith)) (omega arith)

module _ (l : List ℤ) (h : refusal_of l ≡ 0) where
  -- no line of the shots holds
  kept : Clear (shot_lines l)
  kept = (shots_kept l).1 h

  pub patch_near : Near l
  patch_near = near_of l (reflects_false (far_decided l) kept.1.0)

  pub patch_few : (shots_least ≤ count_of l) × (count_of l ≤ shots_most)
  patch_few = (low (dec_lt (count_of l) shots_least), high (dec_lt shots_most (count_of l)))
    where
      low : Dec (count_of l < shots_least) → shots_least ≤ count_of l
      low (yes k) = absurd (kept.0 (inr (inl k)))
      low (no k) = omega arith

      high : Dec (shots_most < count_of l) → count_of l ≤ shots_most
      high (yes k) = absurd (kept.0 (inr (inr k)))
      high (no k) = omega arith

  pub patch_even : length l ≡ 2 * count_of l
  patch_even = let odd : length l % 2 ≡ 1 → ⊥ = λ e. kept.0 (inl e) in omega arith

  pub patch_distinct : Distinct (count_of l) (point_of l)
  patch_distinct i j k m e = kept.1.1.0 (i, j, k, m, e)

  pub patch_differ : (i j : ℕ) → i < count_of l → j < count_of l → (i ≡ j → ⊥) → point_of l i ≡ point_of l j → ⊥
  patch_differ = points_differ patch_distinct

  pub patch_bent : Collinear (count_of l) (point_of l) → ⊥
  patch_bent = kept.1.1.1.0

  pub patch_spans : Spans (count_of l) (patch_of l)
  patch_spans = (spans_iff_bent (count_of l) (point_of l)).1 patch_bent
