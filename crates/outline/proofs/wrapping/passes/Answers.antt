-- `outline::wrapping::passes` meets its contract: one case for each sign.
use mathlib.Core.Path.{◌≡◌, refl, sym, ◌∙◌, ap}
use mathlib.Core.Bool.{Bool, true, not, ◌&&◌}
use mathlib.Core.List.{List}
use Prim.Native.Nat.{ℕ}
use borrow.Author.Rules.{rules}
use lib.IntN.{ℤ, pos}
use Rattle.algebra.specs.Sign.{Sign, minus, nought, plus, value}
use Rattle.shots.specs.Patch.{orient_of, before_of}
use Rattle.outline.specs.Wrapping.{is_north, outer_of, passes_of}
use Rattle.outline.proofs.wrapping.passes.Goals as goal

-- a shot ahead of p, by its sign
module _ (l : List ℤ) (b : Bool) (p q k : ℕ) (h : true ≡ before_of l p k) where
  outer : {r : Bool} → r ≡ outer_of b (before_of l q k) (orient_of l p q k) → r ≡ passes_of l b p q k
  unfolding passes_of
  outer e = e ∙ ap (λ (t : Bool). t && outer_of b (before_of l q k) (orient_of l p q k)) h

  module _ {z : ℤ} (v : z ≡ value (orient_of l p q k)) where
    along : z ≡ pos 0 → before_of l q k ≡ passes_of l b p q k
    unfolding value
    along e = outer (go (orient_of l p q k) (sym v ∙ e))
      where
        go : (s : Sign) → value s ≡ pos 0 → before_of l q k ≡ outer_of b (before_of l q k) s
        go minus h = cc
        go nought h = refl
        go plus h = cc

    left : z ≡ pos 1 → b ≡ passes_of l b p q k
    unfolding value
    left e = outer (go (orient_of l p q k) (sym v ∙ e))
      where
        go : (s : Sign) → value s ≡ pos 1 → b ≡ outer_of b (before_of l q k) s
        go minus h = cc
        go nought h = cc
        go plus h = refl

    right : (z ≡ pos 0 → ⊥) → (z ≡ pos 1 → ⊥) → not b ≡ passes_of l b p q k
    unfolding value
    right e f = outer (go (orient_of l p q k) (λ h. e (v ∙ h)) (λ h. f (v ∙ h)))
      where
        go : (s : Sign) → (value s ≡ pos 0 → ⊥) → (value s ≡ pos 1 → ⊥) → not b ≡ outer_of b (before_of l q k) s
        go minus h i = refl
        go nought h i = absurd (h refl)
        go plus h i = absurd (i refl)

pub returns-in-0 : goal.returns-in-0
returns-in-0 c = c.precedes-in-0.ensures ∙ along _ _ _ _ _ c.if-precedes.ensures c.sign.ensures (search rules)

pub returns-in-1 : goal.returns-in-1
returns-in-1 c = search rules ∙ left _ _ _ _ _ c.if-precedes.ensures c.sign.ensures (search rules)

pub returns-in_default : goal.returns-in_default
returns-in_default c = search rules ∙ right _ _ _ _ _ c.if-precedes.ensures c.sign.ensures (search rules) (search rules)

pub returns-else-precedes : goal.returns-else-precedes
unfolding passes_of
returns-else-precedes c =
    c.if-precedes.false
    ∙ ap (λ (t : Bool). t && outer_of (is_north c.args.facing) (before_of c.args.shots.now c.args.q c.args.k) (orient_of c.args.shots.now c.args.p c.args.q c.args.k)) c.if-precedes.ensures
