-- Border pairs are the published ones (document 01, "Shots and orientation"): what the open-edge rule asks.
--
--   border_decided    the test of a pair decides that it is a border face of the patch
--   border_says       a pair passes it exactly when it is one
use mathlib.Core.Path.{◌≡◌, sym, ◌∙◌}
use mathlib.Core.Logic.{◌↔◌}
use mathlib.Core.Bool.{Bool, true}
use mathlib.Core.List.{List, [], ◌∷◌}
use Prim.Native.Nat.{ℕ}
use lib.IntN.{ℤ}
use Rattle.algebra.specs.Answer.{Reflects}
use Rattle.algebra.specs.Sign.{Sign, minus, plus, is_minus, is_plus}
use Rattle.algebra.proofs.AnswerLaws.{reflects_iff, reflects_yes, reflects_true, reflects-not, reflects-and, is-minus, is-plus}
use Rattle.algebra.proofs.LoopLaws.{reflects-any}
use Rattle.matroid.specs.Configurations.{cocircuit}
use Rattle.matroid.specs.Triangulations.{Border}
use Rattle.shots.specs.Coordinates.{patch_of}
use Rattle.shots.specs.Patch.{count_of, orient_of, some_left, some_right, border_of}
use Rattle.shots.proofs.Orientations.{orient_is_chirotope}

module _ (l : List ℤ) where
  abbrev n : ℕ
  n = count_of l

  -- the sign of shot k in the cocircuit of i, j
  beside : (i j k : ℕ) (s : Sign) {b : Bool} → Reflects (orient_of l i j k ≡ s) b → Reflects (cocircuit (patch_of l) (i ∷ j ∷ []) k ≡ s) b
  beside i j k s = reflects_iff (λ h. sym (orient_is_chirotope l i j k) ∙ h, λ h. orient_is_chirotope l i j k ∙ h)

  pub border_decided : (i j : ℕ) → Reflects (Border n (patch_of l) (i ∷ j ∷ [])) (border_of l i j)
  unfolding border_of some_left some_right
  border_decided i j =
      reflects-not
      (reflects-and (reflects-any (λ k. cocircuit (patch_of l) (i ∷ j ∷ []) k ≡ plus) (λ k. is_plus (orient_of l i j k)) n (λ k h. beside i j k plus (is-plus (orient_of l i j k))))
      (reflects-any (λ k. cocircuit (patch_of l) (i ∷ j ∷ []) k ≡ minus) (λ k. is_minus (orient_of l i j k)) n (λ k h. beside i j k minus (is-minus (orient_of l i j k)))))

  pub border_says : (i j : ℕ) → (border_of l i j ≡ true) ↔ Border n (patch_of l) (i ∷ j ∷ [])
  border_says i j = (λ t. reflects_yes (border_decided i j) t, λ h. reflects_true (border_decided i j) h)
