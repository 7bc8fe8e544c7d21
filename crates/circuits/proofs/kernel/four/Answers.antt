-- `circuits::kernel::four` meets its contract.
use Rattle.std.specs.Prelude.{not}
use mathlib.Core.Path.{sym, ◌∙◌, ap}
use Rattle.circuits.specs.Numbering.{four}
use Rattle.circuits.proofs.StepLaws.{none_added, one_added, flat_test, four_sides}
use Rattle.circuits.proofs.kernel.four.Goals as goal

pub returns-then-some_zero : goal.returns-then-some_zero
unfolding four
returns-then-some_zero c =
    let seen = c.some_zero.ensures ∙ flat_test _ _ _ _ _ (c.sign-sa.type_inv, c.sign-sa.ensures) (c.sign-sb.type_inv, c.sign-sb.ensures) (c.sign-sc.type_inv, c.sign-sc.ensures) (c.sign-sd.type_inv, c.sign-sd.ensures) in
    none_added _ _ (ap not (sym seen ∙ c.if-some_zero.true))

pub returns : goal.returns
unfolding four
returns c =
    let seen = c.some_zero.ensures ∙ flat_test _ _ _ _ _ (c.sign-sa.type_inv, c.sign-sa.ensures) (c.sign-sb.type_inv, c.sign-sb.ensures) (c.sign-sc.type_inv, c.sign-sc.ensures) (c.sign-sd.type_inv, c.sign-sd.ensures) in
    let bent = sym seen ∙ c.if-some_zero.false in
    one_added _ _ (ap not bent) (c.of_four.ensures ∙ four_sides _ _ _ _ _ bent c.sign-sa.ensures c.sign-sb.ensures c.sign-sc.ensures c.sign-sd.ensures)
