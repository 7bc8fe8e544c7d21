-- What stands at place z of what a run has worked out.
--
--   star_at      the stars of circuit z, by its sides
use Rattle.std.specs.Prelude.{◌≡◌, ℕ, ◌<◌, List, length, slice_index_or, ℤ}
use mathlib.Core.Path.{sym, ◌∙◌, ap}
use native.Mathlib.Omega.{arith}
use Rattle.algebra.proofs.ListLaws.{get_d_map}
use Rattle.shots.specs.Patch.{count_of}
use Rattle.circuits.specs.declared.Sides.{Sides}
use Rattle.circuits.specs.Numbering.{circuits_of}
use Rattle.circuits.proofs.FoundLaws.{found_count}
use Rattle.ready.specs.declared.kernel.Stars.{Stars}
use Rattle.ready.specs.declared.kernel.Ready.{Ready}
use Rattle.ready.specs.Ready.{stars_of, ReadyFor}

module _ (l : List ℤ) {r : Ready} (g : ReadyFor l r) {found : List Sides} {stars : List Stars} (e : found ≡ r.held.circuits.items) (q : stars ≡ r.stars.items) (z : ℕ) (low : z < length (circuits_of l)) where
  pub star_at : (d : Sides) (x : Stars) → slice_index_or stars z x ≡ stars_of (count_of l) (slice_index_or found z d)
  star_at d x =
      ap (λ (xs : List Stars). slice_index_or xs z x) (q ∙ g.stars)
      ∙ get_d_map (stars_of (count_of l)) r.held.circuits.items z d x (omega (arith, low, found_count l g.tests.circuits))
      ∙ ap (λ (xs : List Sides). stars_of (count_of l) (slice_index_or xs z d)) (sym e)
