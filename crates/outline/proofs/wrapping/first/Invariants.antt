use mathlib.Core.Path.{◌≡◌}
use mathlib.Core.Bool.{cond}
use Prim.Native.Nat.{◌<◌}
use Rattle.algebra.specs.Loops.{fold}
use Rattle.shots.specs.Patch.{before_of}
use Rattle.outline.proofs.wrapping.first.Given as goal

abbrev pub invariant-loop-k : goal.invariant-loop-k
invariant-loop-k l = (l.best < l.n) × (l.best ≡ fold (λ k' q. cond (before_of l.shots k' q) k' q) 0 l.k)
