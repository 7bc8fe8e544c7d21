-- The tests of a run of coordinates decide the lines of document 01's table of refusals, for every run.
--
--   count_decided    1: `bad_count` decides `BadCount`
--   count_test       it, where there are two coordinates to each of n shots
--   far_decided      2: `some_far` decides `Beyond`
--   same_decided     3: `some_same` decides `Repeated`
--   bent_decided     `some_bent` decides that some three shots turn
--   line_decided     4: no three shots turn, which decides `OneLine`
use mathlib.Core.Path.{◌≡◌, refl, ap}
use mathlib.Core.Bool.{not, ◌||◌}
use mathlib.Core.List.{List}
use Prim.Native.Nat.{ℕ, ◌*◌, ◌/◌, ◌%◌, ◌<◌}
use native.Mathlib.Omega.{arith}
use borrow.Author.Tests.{ne_eqb}
use lib.Dec.{ltb}
use lib.ListN.{get_or, length}
use lib.IntN.{ℤ, pos, nat_abs}
use Rattle.algebra.specs.Answer.{Reflects}
use Rattle.algebra.specs.Sign.{NZ}
use Rattle.algebra.proofs.AnswerLaws.{reflects_iff, reflects-not, reflects-or, reflects-and, reflects_ltb, reflects_eqb, reflects-eq_z, reflects-nought}
use Rattle.algebra.proofs.LoopLaws.{reflects-any}
use Rattle.algebra.proofs.SignLaws.{zero_if}
use Rattle.matroid.specs.Points.{Point}
use Rattle.matroid.proofs.Lines.{collinear_iff}
use Rattle.shots.specs.Sizes.{shots_least, shots_most, farthest}
use Rattle.shots.specs.Coordinates.{x_of, y_of, point_of, area_of}
use Rattle.shots.specs.Patch.{count_of, orient_of}
use Rattle.shots.specs.Tests.{bad_count, far_at, some_far, same_at, same_before, some_same, bent_at, bent_of, bent_before, some_bent}
use Rattle.shots.specs.Lines.{BadCount, Beyond, Repeated, OneLine}

pub count_test : (l : List ℤ) (n : ℕ) → length l ≡ 2 * n → bad_count l ≡ (ltb n shots_least || ltb shots_most n)
unfolding bad_count
count_test l n e = rw (ne_eqb (length l % 2) 1 (λ z. omega arith), half) refl
  where
    half : length l / 2 ≡ n
    half = omega arith

module _ (l : List ℤ) where
  pub count_decided : Reflects (BadCount l) (bad_count l)
  unfolding bad_count
  count_decided = reflects-or (reflects_eqb (length l % 2) 1) (reflects-or (reflects_ltb (count_of l) shots_least) (reflects_ltb shots_most (count_of l)))

  pub far_decided : Reflects (Beyond l) (some_far l)
  unfolding some_far far_at
  far_decided = reflects-any (λ i. farthest < nat_abs (get_or l i (pos 0))) (far_at l) (length l) (λ i h. reflects_ltb farthest (nat_abs (get_or l i (pos 0))))

  -- ---- two shots equal

  same_at_lem : (j i : ℕ) → Reflects (point_of l i ≡ point_of l j) (same_at l j i)
  unfolding same_at
  same_at_lem j i = reflects_iff (λ e k. record { x = e.0 k; y = e.1 k }, λ e. (ap (λ (p : Point). p.x) e, ap (λ (p : Point). p.y) e))
      (reflects-and (reflects-eq_z (x_of l i) (x_of l j)) (reflects-eq_z (y_of l i) (y_of l j)))

  same-before : (j : ℕ) → Reflects ((i : ℕ) × (i < j) × (point_of l i ≡ point_of l j)) (same_before l j)
  unfolding same_before
  same-before j = reflects-any (λ i. point_of l i ≡ point_of l j) (same_at l j) j (λ i h. same_at_lem j i)

  pub same_decided : Reflects (Repeated l) (some_same l)
  unfolding some_same
  same_decided = reflects_iff (λ r. (r.2.0, r.0, r.2.1, r.1, r.2.2), λ r. (r.1, r.3, (r.0, r.2, r.4)))
      (reflects-any (λ j. (i : ℕ) × (i < j) × (point_of l i ≡ point_of l j)) (same_before l) (count_of l) (λ j h. same-before j))

  -- ---- all shots on one line

  bent-of : (c b : ℕ) → Reflects ((a : ℕ) × (a < b) × NZ (area_of l a b c)) (bent_of l c b)
  unfolding bent_of bent_at orient_of
  bent-of c b = reflects-any (λ a. NZ (area_of l a b c)) (bent_at l c b) b (λ a h. reflects-not (reflects-nought (area_of l a b c)))

  bent-before : (c : ℕ) → Reflects ((b : ℕ) × (b < c) × ((a : ℕ) × (a < b) × NZ (area_of l a b c))) (bent_before l c)
  unfolding bent_before
  bent-before c = reflects-any (λ b. (a : ℕ) × (a < b) × NZ (area_of l a b c)) (bent_of l c) c (λ b h. bent-of c b)

  pub bent_decided : Reflects ((c : ℕ) × (c < count_of l) × ((b : ℕ) × (b < c) × ((a : ℕ) × (a < b) × NZ (area_of l a b c)))) (some_bent l)
  unfolding some_bent
  bent_decided = reflects-any (λ c. (b : ℕ) × (b < c) × ((a : ℕ) × (a < b) × NZ (area_of l a b c))) (bent_before l) (count_of l) (λ c h. bent-before c)

  pub line_decided : Reflects (OneLine l) (not (some_bent l))
  unfolding area_of
  line_decided = reflects_iff (
    λ k. (collinear_iff (count_of l) (point_of l)).1 (λ a b c ab bc cn. zero_if (area_of l a b c) (λ z. k (c, cn, (b, bc, (a, ab, z))))),
    λ s r. r.2.2.2 ((collinear_iff (count_of l) (point_of l)).0 s r.2.2.0 r.2.0 r.0 r.2.2.1 r.2.1 r.1),
  )
      (reflects-not bent_decided)
