use mathlib.Core.Path.{◌≡◌}
use mathlib.Core.Bool.{cond}
use Prim.Native.Nat.{◌<◌}
use Rattle.algebra.specs.Loops.{fold}
use Rattle.outline.specs.Wrapping.{is_north, passes_of}
use Rattle.outline.proofs.wrapping.next.Given as goal

abbrev pub invariant-loop-k : goal.invariant-loop-k
invariant-loop-k l = (l.q < l.n) × (l.q ≡ fold (λ k' q'. cond (passes_of l.shots (is_north l.facing) l.p q' k') k' q') l.p l.k)
