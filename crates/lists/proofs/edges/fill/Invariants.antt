use Rattle.std.specs.Prelude.{◌≡◌, length}
use Rattle.triples.specs.Sets.{SameBelow, Written}
use Rattle.lists.specs.Held.{inner_first, inner_from, inner_of, InnerBelow}
use Rattle.lists.proofs.edges.fill.Given as goal

-- the table behind the pairs with a larger shot below j
abbrev pub invariant-loop-j : goal.invariant-loop-j
invariant-loop-j l = (length l.held ≡ length l.fn.held) × InnerBelow l.shots l.j l.held × SameBelow inner_first l.fn.held l.held

-- behind those, the rows of the pairs with j as the larger shot
abbrev pub invariant-loop-i : goal.invariant-loop-i
invariant-loop-i l = Written (inner_from l.j) l.i (λ i. inner_of l.shots i l.j) l.initial.held l.held
