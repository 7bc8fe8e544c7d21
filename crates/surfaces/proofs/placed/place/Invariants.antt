use Rattle.std.specs.Prelude.{◌≡◌}
use Rattle.algebra.specs.Loops.{fold}
use Rattle.triples.specs.Sets.{words_of}
use Rattle.surfaces.specs.Placing.{with_edge, with_edges}
use Rattle.surfaces.proofs.placed.place.Given as goal

abbrev pub invariant-loop-j : goal.invariant-loop-j
invariant-loop-j l = words_of l.t ≡ fold (with_edges l.ground.shots.now (words_of l.list) l.m) (words_of l.list) l.j

abbrev pub invariant-loop-i : goal.invariant-loop-i
invariant-loop-i l = words_of l.t ≡ fold (with_edge l.ground.shots.now (words_of l.list) l.m l.j) (words_of l.initial.t) l.i
