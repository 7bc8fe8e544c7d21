-- From left to right, and upward where shots are upright above each other, as one direction: a step to the side counts for more than all steps up.
--
--   eastward           the direction
--   before_ahead     a shot is before another one exactly when that one is ahead along it
--   ahead_apart      of two different shots one is ahead
--   before_decided   the test of `Before` decides it
use mathlib.Core.Path.{◌≡◌, refl, sym, ◌∙◌, ap}
use mathlib.Core.Logic.{inl, inr, ⊎_elim, ◌↔◌}
use mathlib.Core.Bool.{Bool, true, false, cond}
use mathlib.Core.HLevel.{dec→stable}
use mathlib.Core.List.{List, [], ◌∷◌}
use Prim.Native.Nat.{ℕ, suc, ◌+◌, ◌*◌, ◌≤◌, ◌<◌}
use native.Mathlib.Omega.{arith}
use native.Mathlib.Numerals.{add-one}
use native.Mathlib.Decide.{ℕ_discrete}
use lib.IntN.{ℤ, pos, nat_abs, neg_ℤ, ◌+ℤ◌, ◌-ℤ◌, ◌*ℤ◌, +ℤ_invr}
use lib.Signed.{lt_z}
use Rattle.algebra.specs.Answer.{Reflects, holds, fails}
use Rattle.algebra.specs.Sign.{Pos, NN, Neg, Tri, below, at-nought, above, eq_z}
use Rattle.algebra.proofs.AnswerLaws.{reflects_iff, reflects-eq_z, reflects_lt_z}
use Rattle.algebra.proofs.Ring.{cst, var, ◌⊕◌, ◌⊗◌, neg, ring, sub-zero→eq}
use Rattle.algebra.proofs.SignLaws.{tri, pos_cast, pos_nn, pos_nn_add, nn-mul, nn-add, pos-zero, neg_nn}
use Rattle.algebra.proofs.SizeLaws.{nat_abs-neg, size_nn}
use Rattle.matroid.specs.Points.{Point}
use Rattle.matroid.specs.Chains.{Before}
use Rattle.matroid.proofs.Turns.{point_path}
use Rattle.matroid.proofs.Wrapping.{ahead}
use Rattle.shots.specs.Sizes.{farthest}
use Rattle.shots.specs.Coordinates.{x_of, y_of, point_of}
use Rattle.shots.specs.Patch.{count_of, before_of}
use Rattle.shots.specs.Tests.{refusal_of}
use Rattle.shots.proofs.Bounds.{near_gap}
use Rattle.shots.proofs.Patch.{patch_near, patch_differ}

-- one step to the side, and at most m down
lead : (x y : ℤ) (m : ℕ) → nat_abs y ≤ m → Pos x → Pos (pos (suc m) *ℤ x +ℤ pos 1 *ℤ y)
lead x y m h p = pos_cast (sym (λ k. wide k *ℤ step k +ℤ pos 1 *ℤ y)) (pos_cast
    (ring (pos m ∷ pos p.by ∷ y ∷ []) (cst (pos 1) ⊕ (var 2 ⊕ var 0 ⊕ (var 0 ⊗ var 1 ⊕ var 1))) ((var 0 ⊕ cst (pos 1)) ⊗ (var 1 ⊕ cst (pos 1)) ⊕ cst (pos 1) ⊗ var 2) tt)
    (pos_nn_add (record { by = 0; is = refl }) (nn-add (size_nn y m h) (nn-add (nn-mul (record { by = m; is = refl }) u) u))))
  where
    u : NN (pos p.by)
    u = record { by = p.by; is = refl }

    wide : pos (suc m) ≡ pos m +ℤ pos 1
    wide = ap pos (sym (add-one m))

    step : x ≡ pos p.by +ℤ pos 1
    step = p.is ∙ ap pos (sym (add-one p.by))

abbrev pub eastward : Point
eastward = record { x = pos (suc (2 * farthest)); y = pos 1 }

module _ (l : List ℤ) (h : refusal_of l ≡ 0) where
  abbrev Ahead : ℕ → ℕ → Type 0
  Ahead i j = Pos (ahead (point_of l) eastward i j)

  abbrev dx : ℕ → ℕ → ℤ
  dx i j = x_of l j -ℤ x_of l i

  abbrev dy : ℕ → ℕ → ℤ
  dy i j = y_of l j -ℤ y_of l i

  near : (i j : ℕ) → nat_abs (dy i j) ≤ 2 * farthest
  unfolding y_of
  near i j = near_gap l (patch_near l h) (2 * j + 1) (2 * i + 1)

  right_ahead : (i j : ℕ) → Pos (dx i j) → Ahead i j
  right_ahead i j = lead (dx i j) (dy i j) (2 * farthest) (near i j)

  left_behind : (i j : ℕ) → Neg (dx i j) → Neg (ahead (point_of l) eastward i j)
  left_behind i j p = pos_cast
      (ring (pos (suc (2 * farthest)) ∷ dx i j ∷ dy i j ∷ []) (var 0 ⊗ neg (var 1) ⊕ cst (pos 1) ⊗ neg (var 2)) (neg (var 0 ⊗ var 1 ⊕ cst (pos 1) ⊗ var 2)) tt)
      (lead (neg_ℤ (dx i j)) (neg_ℤ (dy i j)) (2 * farthest) (omega (arith, nat_abs-neg (dy i j), near i j)) p)

  upright : (i j : ℕ) → dx i j ≡ pos 0 → ahead (point_of l) eastward i j ≡ dy i j
  upright i j z = ap (λ (x : ℤ). pos (suc (2 * farthest)) *ℤ x +ℤ pos 1 *ℤ dy i j) z
      ∙ ring (pos (suc (2 * farthest)) ∷ dy i j ∷ []) (var 0 ⊗ cst (pos 0) ⊕ cst (pos 1) ⊗ var 1) (var 1) tt

  same_x : (i j : ℕ) → x_of l i ≡ x_of l j → dx i j ≡ pos 0
  same_x i j e = ap (λ (x : ℤ). x_of l j -ℤ x) e ∙ +ℤ_invr (x_of l j)

  pub before_ahead : (i j : ℕ) → Before (point_of l) i j ↔ Ahead i j
  before_ahead i j = (⊎_elim (right_ahead i j) (λ (e, p). pos_cast (sym (upright i j (same_x i j e))) p), λ p. go p (tri (dx i j)))
    where
      go : Ahead i j → Tri (dx i j) → Before (point_of l) i j
      go p (above q) = inl q
      go p (at-nought z) = inr (sym (sub-zero→eq (x_of l j) (x_of l i) z), pos_cast (upright i j z) p)
      go p (below q) = neg_nn (left_behind i j q) (pos_nn p)

  pub ahead_apart : (i j : ℕ) → i < count_of l → j < count_of l → ahead (point_of l) eastward i j ≡ pos 0 → i ≡ j
  ahead_apart i j il jl z = dec→stable (ℕ_discrete i j) (λ ne. go ne (tri (dx i j)))
    where
      go : (i ≡ j → ⊥) → Tri (dx i j) → ⊥
      go ne (above q) = pos-zero (right_ahead i j q) z
      go ne (below q) = pos-zero (left_behind i j q) (ap neg_ℤ z)
      go ne (at-nought e) = patch_differ l h i j il jl ne (sym (point_path (point_of l j) (point_of l i) (sub-zero→eq (x_of l j) (x_of l i) e) (sub-zero→eq (y_of l j) (y_of l i) (sym (upright i j e) ∙ z))))

pub before_decided : (l : List ℤ) (i j : ℕ) → Reflects (Before (point_of l) i j) (before_of l i j)
unfolding before_of
before_decided l i j = go (eq_z (x_of l i) (x_of l j)) (reflects-eq_z (x_of l i) (x_of l j))
  where
    away : x_of l i ≡ x_of l j → Pos (x_of l j -ℤ x_of l i) → ⊥
    away e p = pos-zero p (ap (λ (x : ℤ). x_of l j -ℤ x) e ∙ +ℤ_invr (x_of l j))

    go : (t : Bool) → Reflects (x_of l i ≡ x_of l j) t → Reflects (Before (point_of l) i j) (cond t (lt_z (y_of l i) (y_of l j)) (lt_z (x_of l i) (x_of l j)))
    go true (holds e) = reflects_iff (λ p. inr (e, p), ⊎_elim (λ p. absurd (away e p)) (λ (_, p). p)) (reflects_lt_z (y_of l i) (y_of l j))
    go false (fails ne) = reflects_iff (inl, ⊎_elim (λ p. p) (λ (e, _). absurd (ne e))) (reflects_lt_z (x_of l i) (x_of l j))
