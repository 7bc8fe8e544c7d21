-- `records::fields::two` meets its contract: two bytes, the first counted 256 times.
use mathlib.Core.Path.{ap}
use native.Mathlib.Omega.{arith}
use native.Mathlib.Nat.{add-zero}
use lib.ListN.{get_or}
use Rattle.records.specs.Fields.{field_of}
use Rattle.records.proofs.fields.two.Goals as goal

pub returns : goal.returns
unfolding field_of
returns c = omega (arith, ap (λ k. get_or c.args.b.now k 0) (add-zero c.args.at))
