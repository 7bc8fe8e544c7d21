-- `intake::runs::shot_in` meets its contract, unit by unit.
use mathlib.Core.Path.{◌≡◌, sym, ap}
use mathlib.Core.Bool.{Bool, cond}
use Prim.Native.Nat.{ℕ}
use borrow.Author.Tests.{eq-eqb, ne_eqb}
use lib.Ieee.{Float}
use Rattle.intake.specs.Runs.{shot_of, shot_in}
use Rattle.intake.specs.declared.Shot.TheVariants.{Metres, Feet}
use Rattle.intake.proofs.runs.shot_in.Goals as goal

in-metres : (b : ℕ) (e n : Float) → b ≡ 0 → Metres e n ≡ shot_of b e n
in-metres b e n h = sym (ap (λ (t : Bool). cond t (Metres e n) (Feet e n)) (eq-eqb b 0 h))

in-feet : (b : ℕ) (e n : Float) → (b ≡ 0 → ⊥) → Feet e n ≡ shot_of b e n
in-feet b e n h = sym (ap (λ (t : Bool). cond t (Metres e n) (Feet e n)) (ne_eqb b 0 h))

pub returns-then-units-i-eq0 : goal.returns-then-units-i-eq0
unfolding shot_in
returns-then-units-i-eq0 c = in-metres _ _ _ c.if-units-i-eq0.true

pub returns-else-units-i-eq0 : goal.returns-else-units-i-eq0
unfolding shot_in
returns-else-units-i-eq0 c = in-feet _ _ _ c.if-units-i-eq0.false
