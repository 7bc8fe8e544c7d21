-- `lists::edges::inner` meets its contract.
use mathlib.Core.Path.{sym, ◌∙◌}
use native.Mathlib.Omega.{arith}
use Rattle.algebra.specs.Words.{both_of}
use Rattle.lists.proofs.InnerLaws.{inner_border, inner_both}
use Rattle.lists.proofs.edges.inner.Goals as goal

pub returns-then-is_border : goal.returns-then-is_border
returns-then-is_border c = c.none.ensures ∙ inner_border _ _ _ (sym c.is_border.ensures ∙ c.if-is_border.true)

pub returns-else-is_border : goal.returns-else-is_border
returns-else-is_border c =
    c.both.ensures ∙ (λ k. both_of ((c.row_at.ensures ∙ c.requires.5 _ (omega (arith, c.requires.0, c.requires.1))) k) ((c.row_at-else-is_border.ensures ∙ c.requires.5 _ c.requires.1) k)) ∙ inner_both _ _ _ (sym c.is_border.ensures ∙ c.if-is_border.false)
