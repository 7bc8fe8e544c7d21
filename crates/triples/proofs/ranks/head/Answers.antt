-- `triples::ranks::head` meets its contract: the list at place r is the one at the place that is left, among those from the number reached on.
use mathlib.Core.Path.{◌∙◌}
use Prim.Native.Nat.{◌-◌, ◌<◌}
use native.Mathlib.Omega.{arith}
use Rattle.algebra.specs.Places.{choose}
use Rattle.algebra.proofs.PlaceLaws.{set_room, set-take, set_skip}
use Rattle.triples.proofs.ranks.head.Goals as goal

pub returns-then-rest-begun : goal.returns-then-rest-begun
returns-then-rest-begun c =
    let l = c.loop-number in
    let h : l.rest < choose (c.args.n - 1 - l.number) c.args.k = omega (arith, c.choose-begun.ensures, c.if-rest-begun.true) in
    (c.loop-number-test.true, h, l.invariant.1 ∙ set-take c.args.k l.number c.args.n l.rest l.invariant.0 h)

-- those that begin with the number reached are passed over
pub loop-number-preserved : goal.loop-number-preserved
loop-number-preserved c =
    let l = c.loop-number in
    let p = set_skip c.args.k l.number c.args.n l.rest l.invariant.0 (omega (arith, c.choose-begun.ensures, c.if-rest-begun.false)) in
    rw c.choose-begun.ensures (p.0, l.invariant.1 ∙ p.1)

-- there is always a number left
pub unreachable-requires : goal.unreachable-requires
unreachable-requires c = let l = c.loop-number in omega (arith, set_room c.args.k l.number c.args.n l.rest l.invariant.0, c.loop-number-test.false)
