-- `triples::ranks::piece_of` meets its contract: the mask so far, and the list at the place that is left, are the piece.
use mathlib.Core.Path.{◌≡◌, subst}
use Prim.Native.Nat.{ℕ, ◌+◌, ◌-◌}
use native.Mathlib.Omega.{arith}
use Rattle.triples.proofs.PieceLaws.{Reached, reached_none, reached_more, reached_end}
use Rattle.triples.proofs.ranks.piece_of.Goals as goal

pub loop-left-init : goal.loop-left-init
loop-left-init c = reached_none _ _ _ c.requires.1

pub loop-left-preserved : goal.loop-left-preserved
loop-left-preserved c =
    let l = c.loop-left in
    let f = c.head-first.ensures in
    let e : l.left ≡ l.left - 1 + 1 = omega (arith, c.loop-left-test.true) in
    rw c.with-x.ensures (reached_more _ _ _ (subst (λ (m : ℕ). Reached c.args.size c.args.n c.args.r l.x l.a m l.rest) e l.invariant) f.1 f.2)

pub returns : goal.returns
returns c = reached_end _ _ _ c.loop-left-test.false c.loop-left.invariant
