use Rattle.std.specs.Prelude.{◌≡◌}
use Rattle.algebra.specs.Loops.{fold}
use Rattle.triples.specs.Sets.{words_of}
use Rattle.surfaces.specs.Placing.{begin_of, place_next}
use Rattle.surfaces.proofs.placed.all.Given as goal

abbrev pub invariant-loop-m : goal.invariant-loop-m
invariant-loop-m l = words_of l.t ≡ fold (place_next l.shots) (begin_of l.shots) l.m
