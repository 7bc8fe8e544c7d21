use mathlib.Core.Path.{◌≡◌}
use Rattle.algebra.specs.Places.{choose}
use Rattle.triples.proofs.ranks.choose.Given as goal

abbrev pub invariant-loop-i : goal.invariant-loop-i
invariant-loop-i l = l.c ≡ choose l.m l.i
