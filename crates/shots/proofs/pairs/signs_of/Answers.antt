-- `shots::pairs::signs_of` meets its contract: place k is filled with the sign of place k.
use Rattle.std.proofs.Common.{rules}
use borrow.Author.Tests.{tests}
use lib.IntN.{pos}
use Rattle.algebra.proofs.ChainLaws.{filled_called}
use Rattle.shots.specs.Sizes.{shots_most}
use Rattle.shots.specs.Calls.{sign_at}
use Rattle.shots.proofs.pairs.signs_of.Goals as goal

pub returns : goal.returns
returns c = filled_called _ (sign_at c.args.shots.now c.args.i c.args.j) shots_most (pos 0) c.from_fn.ensures.items (λ i y q l k. search (rules, tests))
