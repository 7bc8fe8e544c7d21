use mathlib.Core.Path.{◌≡◌}
use mathlib.Core.Bool.{false}
use Rattle.algebra.specs.Loops.{any}
use Rattle.triples.specs.Sets.{words_of}
use Rattle.records.specs.Reading.{least_at, bad_at, listed_in}
use Rattle.records.proofs.listed.list_in.Given as goal

abbrev pub invariant-loop-j : goal.invariant-loop-j
invariant-loop-j l = (any l.j (bad_at l.n l.b) ≡ false) × (words_of l.list ≡ listed_in l.n l.b l.j) × (l.least ≡ least_at l.n l.b l.j)
