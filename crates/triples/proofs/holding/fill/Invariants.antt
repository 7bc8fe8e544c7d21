use mathlib.Core.Path.{◌≡◌}
use lib.ListN.{length}
use Rattle.triples.specs.Sets.{holders_of, Written}
use Rattle.triples.proofs.holding.fill.Given as goal

abbrev pub invariant-loop-k : goal.invariant-loop-k
invariant-loop-k l = (length l.held ≡ length l.initial.held) × Written 0 l.k (holders_of l.n) l.initial.held l.held
