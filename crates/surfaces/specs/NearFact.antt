-- That shots are near has one proof at most, as a fact that a struct keeps must; src/placed.rt keeps it.
use Rattle.std.specs.Prelude.{ℤ, List}
use Rattle.std.specs.Coded.{le_prop, Π_prop}
use Rattle.shots.specs.Tests.{Near}

pub near_fact : (l : List ℤ) → IsProp (Near l)
unfolding Near
near_fact l = Π_prop (λ i. le_prop)
