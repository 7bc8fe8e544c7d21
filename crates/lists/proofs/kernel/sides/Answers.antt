-- `lists::kernel::sides` meets its contract: the rows written so far, and the holders below them, which stay.
use Rattle.std.proofs.Common.{rules, ◌∙◌}
use native.Mathlib.Omega.{arith}
use Rattle.triples.specs.Sets.{around_of}
use Rattle.lists.specs.Held.{sides_at}
use Rattle.lists.proofs.SideRows.{around_more}
use Rattle.lists.proofs.kernel.sides.Goals as goal

pub loop-z-preserved : goal.loop-z-preserved
loop-z-preserved c =
    let n = c.args.n in
    let zs = c.deref-side-items.result.now in
    let k = c.loop-z.z in
    around_more n zs k c.args.held.now c.loop-z.held c.put_row.new.table _ _ (omega (arith, c.loop-z-test.true, c.deref-side-items.ensures.1)) (omega (arith, c.requires.2)) (search rules) (search rules) c.put_row.ensures c.put_row-in-loop-z.ensures
    (c.around-plus.ensures ∙ (λ i. around_of n (sides_at zs k).plus (c.full-all.ensures i)))
    (c.around-minus.ensures ∙ (λ i. around_of n (sides_at zs k).minus (c.full-all.ensures i)))
    c.loop-z.invariant
