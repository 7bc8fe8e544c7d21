-- `outline::wrapping::first` meets its contract: the first so far, shot by shot.
use mathlib.Core.Path.{sym, ◌∙◌}
use native.Mathlib.Omega.{arith}
use borrow.Author.Rules.{rules}
use Rattle.algebra.proofs.LoopLaws.{fold_none, fold_more, fold_end}
use Rattle.outline.specs.Wrapping.{first_of}
use Rattle.outline.proofs.wrapping.first.Goals.{else-precedes, then-precedes}
use Rattle.outline.proofs.wrapping.first.Goals as goal

pub loop-k-init : goal.loop-k-init
loop-k-init c = (search rules, fold_none _ _)

pub loop-k-preserved : goal.loop-k-preserved
loop-k-preserved c =
    let test = c.precedes.ensures in
    let so_far = c.loop-k.invariant.1 in
    elim c.if-precedes.branch [
      | then-precedes w ↦ (omega (arith, w.best-is), fold_more _ _ _ so_far (simp (sym test ∙ w.if-precedes.true) w.best-is))
      | else-precedes w ↦ (omega (arith, w.best-is), fold_more _ _ _ so_far (simp (sym test ∙ w.if-precedes.false) w.best-is))
    ]

pub returns : goal.returns
unfolding first_of
returns c = (fold_end _ _ _ _ c.loop-k.auto.k-end c.loop-k-test.false c.loop-k.invariant.1, c.loop-k.invariant.0)
