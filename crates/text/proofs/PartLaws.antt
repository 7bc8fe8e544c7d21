-- Parts put behind a text, one after another.
--
--   over_one, over_next           the list of one part; that of one part more
--   behind_none, behind_next      no part is put behind the text; one part more is
use mathlib.Core.Path.{◌≡◌, refl, sym, ◌∙◌, ap}
use mathlib.Core.List.{List, ◌++◌, append-nil, append_assoc}
use Prim.Native.Nat.{ℕ, ◌+◌, ◌≤◌}
use native.Mathlib.Omega.{arith}
use Rattle.algebra.specs.Loops.{over}
use Rattle.algebra.proofs.OverLaws.{over-turn, over_end, over-split}

module _ {A : Type 0} (f : ℕ → List A) where
  pub over_one : (i j : ℕ) → j ≡ i + 1 → over f i j ≡ f i
  over_one i j e = over-turn f i j (omega arith) ∙ ap (λ (s : List A). f i ++ s) (over_end f (i + 1) j (omega arith)) ∙ append-nil (f i)

  pub over_next : (a i : ℕ) → a ≤ i → over f a (i + 1) ≡ over f a i ++ f i
  over_next a i h = over-split f a i (i + 1) h (omega arith) ∙ ap (λ (s : List A). over f a i ++ s) (over_one i (i + 1) refl)

  module _ (t : List A) (a : ℕ) where
    pub behind_none : t ≡ t ++ over f a a
    behind_none = sym (ap (λ (s : List A). t ++ s) (over_end f a a (omega arith)) ∙ append-nil t)

    pub behind_next : (i : ℕ) {u v : List A} → a ≤ i → u ≡ t ++ over f a i → v ≡ u ++ f i → v ≡ t ++ over f a (i + 1)
    behind_next i h e p = p ∙ ap (λ (s : List A). s ++ f i) e ∙ append_assoc t (over f a i) (f i) ∙ ap (λ (s : List A). t ++ s) (sym (over_next a i h))
