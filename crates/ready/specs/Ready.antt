-- What a run has worked out before its first step.
--
--   stars_of n s        the stars of the sides s of a circuit, for n shots
--   ReadyFor l r       it is worked out of the patch l: all that a test reads, and the stars of each circuit
use Rattle.std.specs.Prelude.{◌≡◌, ℕ, ◌+◌, List, map, ℤ}
use Rattle.shots.specs.Patch.{count_of}
use Rattle.circuits.specs.declared.Sides.{Sides}
use Rattle.lists.specs.Held.{HeldOf}
use Rattle.surfaces.specs.Stars.{star_of}
use Rattle.ready.specs.declared.kernel.Stars.{Stars}
use Rattle.ready.specs.declared.kernel.Ready.{Ready}

abbrev pub stars_of : ℕ → Sides → Stars
stars_of n s = record { plus = record { words = star_of n s.plus (s.plus + s.minus) }; minus = record { words = star_of n s.minus (s.plus + s.minus) } }

pub record ReadyFor (l : List ℤ) (r : Ready) : Type 0 where
  pub tests : HeldOf l r.held
  pub stars : r.stars.items ≡ map (stars_of (count_of l)) r.held.circuits.items
