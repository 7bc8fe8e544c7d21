-- `circuits::masks::of_four` meets its contract.
use borrow.Author.Rules.{rules}
use Rattle.circuits.proofs.MaskLaws.{below-three}
use Rattle.circuits.proofs.masks.of_four.Goals as goal

pub join-requires : goal.join-requires
join-requires c =
    let s = c.before in
    (search rules, rw c.of_three.ensures (below-three s.args.a s.args.b s.args.c s.args.d s.args.p s.args.q s.requires.0 s.requires.1 s.requires.2))
