-- `circuits::kernel::three` meets its contract.
use Rattle.std.proofs.Common.{sym, ◌∙◌}
use borrow.Author.Tests.{eq-eqb, ne_eqb}
use Rattle.algebra.proofs.SizeLaws.{sign_is_nought}
use Rattle.circuits.specs.Numbering.{three}
use Rattle.circuits.proofs.StepLaws.{none_added, one_added, three_sides}
use Rattle.circuits.proofs.kernel.three.Goals as goal

pub returns-then-sign-ne0 : goal.returns-then-sign-ne0
unfolding three
returns-then-sign-ne0 c =
    none_added _ _ (sym (sign_is_nought c.sign.result _ c.sign.ensures) ∙ ne_eqb _ _ c.if-sign-ne0.true)

pub returns : goal.returns
unfolding three
returns c =
    one_added _ _ (sym (sign_is_nought c.sign.result _ c.sign.ensures) ∙ eq-eqb _ _ c.if-sign-ne0.false)
    (c.of_three.ensures ∙ three_sides _ _ _ _ c.between-ma.ensures c.between-mb.ensures c.between-mc.ensures)
