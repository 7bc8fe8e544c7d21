-- `intake::scaling::foot_of` meets its contract: the code's numbers are those of the definition.
use mathlib.Core.Path.{refl, sym, ap}
use borrow.Author.Rules.{rules}
use borrow.Author.Tests.{ne_eqb}
use lib.Ieee.{of_bits, of_int}
use Rattle.algebra.specs.Answer.{chain}
use Rattle.intake.specs.Scaling.{float, foot_of}
use Rattle.intake.specs.Tests.{foot_in}
use Rattle.intake.proofs.scaling.foot_of.Goals as goal

pub returns-in-1 : goal.returns-in-1
unfolding foot_in chain foot_of float of_bits of_int
returns-in-1 c = ap foot_in (sym c.in-1.is)

pub returns-in-2 : goal.returns-in-2
unfolding foot_in chain foot_of float of_bits of_int
returns-in-2 c = ap foot_in (sym c.in-2.is)

pub returns-in_default : goal.returns-in_default
unfolding foot_in chain
returns-in_default c = rw (ne_eqb c.args.edition 1 (search rules), ne_eqb c.args.edition 2 (search rules)) refl
