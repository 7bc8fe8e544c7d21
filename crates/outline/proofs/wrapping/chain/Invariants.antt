use Prim.Native.Nat.{◌<◌}
use Rattle.outline.specs.Wrapping.{is_north}
use Rattle.outline.proofs.ChainSteps.{Coming}
use Rattle.outline.proofs.wrapping.chain.Given as goal

abbrev pub invariant-loop : goal.invariant-loop
invariant-loop l = (l.p < l.n) × Coming l.shots (is_north l.facing) l.n l.corners.items l.counter l.p
