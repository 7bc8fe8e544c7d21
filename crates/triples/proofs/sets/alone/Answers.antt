-- `triples::sets::alone` meets its contract: there is a first one, and none behind it.
use mathlib.Core.Path.{◌∙◌}
use native.Mathlib.Omega.{arith}
use borrow.Author.Tests.{le-ltb}
use Rattle.algebra.specs.Words.{member, alone_of}
use Rattle.algebra.proofs.LoopLaws.{from_most, from_lone_none, from_lone}
use Rattle.triples.specs.Sets.{words_of}
use Rattle.triples.proofs.SetLaws.{words-of}
use Rattle.triples.proofs.sets.alone.Goals as goal

pub returns-then-r : goal.returns-then-r
unfolding alone_of
returns-then-r c = rw (words-of c.args.a c.well_formed.0).0 (from_lone (member (words_of c.args.a)) _ c.from-r.ensures (λ e. omega arith) c.from.ensures)

pub returns-else-r : goal.returns-else-r
unfolding alone_of
returns-else-r c = rw (words-of c.args.a c.well_formed.0).0 (le-ltb _ _ c.if-r.false ∙ from_lone_none (member (words_of c.args.a)) _ c.from-r.ensures (omega (arith, c.from-r.ensures, from_most (member (words_of c.args.a)) 0 128)))
