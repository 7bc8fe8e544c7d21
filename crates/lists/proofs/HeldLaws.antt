-- The circuits of what is worked out of a patch.
--
--   held_low       the number of one of them is below C
--   held_sides     its sides are those of the circuit of that number
use Rattle.std.specs.Prelude.{◌≡◌, ℕ, ◌<◌, List, length, slice_index_or, ℤ}
use mathlib.Core.Path.{◌∙◌, ap}
use native.Mathlib.Omega.{arith}
use Rattle.circuits.specs.declared.Sides.{Sides}
use Rattle.circuits.specs.Sides.{masks}
use Rattle.circuits.specs.Numbering.{circuits_of}
use Rattle.circuits.specs.Calls.{circuit_at}
use Rattle.circuits.proofs.FoundLaws.{found_count, found_at}
use Rattle.lists.specs.declared.kernel.Held.{Held}
use Rattle.lists.specs.Held.{HeldOf}

module _ (l : List ℤ) {h : Held} (g : HeldOf l h) {found : List Sides} (e : found ≡ h.circuits.items) (z : ℕ) where
  pub held_low : z < length found → z < length (circuits_of l)
  held_low k = omega (arith, found_count l (e ∙ g.circuits), k)

  pub held_sides : z < length (circuits_of l) → (d : Sides) {s : Sides} → s ≡ slice_index_or found z d → (s.plus ≡ (masks (circuit_at l z)).plus) × (s.minus ≡ (masks (circuit_at l z)).minus)
  held_sides low d q = let p = q ∙ found_at l (e ∙ g.circuits) z d low in (ap (λ (s : Sides). s.plus) p, ap (λ (s : Sides). s.minus) p)
