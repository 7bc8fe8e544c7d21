-- `triples::holding::among` meets its contract.
use Rattle.std.proofs.Common.{arith}
use Rattle.std.proofs.lemmas.Bool.Decides.{nat_tests}
use Rattle.algebra.specs.Sets.{is_on}
use Rattle.triples.proofs.holding.among.Goals as goal

pub returns : goal.returns
unfolding is_on
returns c = grind (arith, nat_tests, c.contains.ensures.value)
