use mathlib.Core.Path.{◌≡◌}
use Prim.Native.Nat.{◌+◌, ◌-◌, ◌<◌}
use Rattle.algebra.specs.Places.{choose, set_by}
use Rattle.triples.proofs.ranks.head.Given as goal

abbrev pub invariant-loop-number : goal.invariant-loop-number
invariant-loop-number l = (l.rest < choose (l.n - l.number) (l.k + 1)) × (set_by (l.k + 1) l.a (l.n - l.a) l.r ≡ set_by (l.k + 1) l.number (l.n - l.number) l.rest)
