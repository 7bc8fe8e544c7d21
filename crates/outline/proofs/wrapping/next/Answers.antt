-- `outline::wrapping::next` meets its contract: the best so far, shot by shot.
use mathlib.Core.Path.{sym, ◌∙◌}
use native.Mathlib.Omega.{arith}
use borrow.Author.Rules.{rules}
use Rattle.algebra.proofs.LoopLaws.{fold_none, fold_more, fold_end}
use Rattle.outline.specs.Wrapping.{next_of}
use Rattle.outline.proofs.wrapping.next.Goals.{else-passes, then-passes}
use Rattle.outline.proofs.wrapping.next.Goals as goal

pub loop-k-init : goal.loop-k-init
loop-k-init c = (search rules, fold_none _ _)

pub loop-k-preserved : goal.loop-k-preserved
loop-k-preserved c =
    let test = c.passes.ensures in
    let so_far = c.loop-k.invariant.1 in
    elim c.if-passes.branch [
      | then-passes w ↦ (omega (arith, w.q-is), fold_more _ _ _ so_far (simp (sym test ∙ w.if-passes.true) w.q-is))
      | else-passes w ↦ (omega (arith, w.q-is), fold_more _ _ _ so_far (simp (sym test ∙ w.if-passes.false) w.q-is))
    ]

pub returns : goal.returns
unfolding next_of
returns c = (fold_end _ _ _ _ c.loop-k.auto.k-end c.loop-k-test.false c.loop-k.invariant.1, c.loop-k.invariant.0)
