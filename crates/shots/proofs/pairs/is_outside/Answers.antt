-- `shots::pairs::is_outside` meets its contract.
use mathlib.Core.Path.{sym, ◌∙◌, ap}
use mathlib.Core.Bool.{not}
use borrow.Author.Tests.{eq-eqb, ne_eqb}
use Rattle.algebra.proofs.SizeLaws.{sign_is_nought}
use Rattle.shots.specs.Patch.{outside_at}
use Rattle.shots.proofs.pairs.is_outside.Goals as goal

pub returns-then-sign-eq0 : goal.returns-then-sign-eq0
unfolding outside_at
returns-then-sign-eq0 c =
    simp (ne_eqb _ _ c.if-k-i.false, ne_eqb _ _ c.if-k-j.false, sym (sign_is_nought c.sign.result _ c.sign.ensures) ∙ eq-eqb _ _ c.if-sign-eq0.true)
    (ap not c.between.ensures)
