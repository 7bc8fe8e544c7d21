-- `circuits::masks::of_three` meets its contract.
use borrow.Author.Rules.{rules}
use Rattle.circuits.specs.Joined.{begun}
use Rattle.circuits.proofs.MaskLaws.{below-begun, below-joined}
use Rattle.circuits.proofs.masks.of_three.Goals as goal

pub join-requires : goal.join-requires
join-requires c = (search rules, rw c.begin.ensures (below-begun c.args.a c.args.b c.requires.0))

pub join-requires-2 : goal.join-requires-2
join-requires-2 c =
    let s = c.before.before in
    (search rules, rw (c.join.ensures, c.begin.ensures) (below-joined (begun s.args.a) s.args.b s.args.c s.args.p (below-begun s.args.a s.args.b s.requires.0) s.requires.1))
