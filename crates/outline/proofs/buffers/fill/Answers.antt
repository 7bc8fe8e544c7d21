-- `outline::buffers::fill` meets its contract: one of the two buffers has no room, and nothing is written, or both are.
use mathlib.Core.Path.{refl, sym, ◌∙◌, ap}
use mathlib.Core.List.{◌++◌}
use lib.ListN.{length, drop}
use Rattle.algebra.proofs.WritingLaws.{wrote-front}
use Rattle.outline.proofs.CallChains.{fill_both, fill_south, fill_north}
use Rattle.outline.proofs.buffers.fill.Goals.{then-south-below-via-then-south-below, then-south-below-via-else-south-below+then-north-above}
use Rattle.outline.proofs.buffers.fill.Goals as goal

pub returns-then-south-below : goal.returns-then-south-below
returns-then-south-below c = (elim c.then-south-below.branch [ then-south-below-via-then-south-below w ↦ fill_south _ _ _ _ w.if-south-below.true | then-south-below-via-else-south-below+then-north-above w ↦ fill_north _ _ _ _ w.if-north-above.true ], refl, refl)

pub returns : goal.returns
returns c = (
  fill_both _ _ _ _ c.if-south-below.false c.if-north-above.false,
  ap (λ s. s ++ drop (length c.args.below.now) c.args.south.now) c.copy_from_slice.ensures.after ∙ sym (wrote-front _ _ c.if-south-below.false),
  ap (λ s. s ++ drop (length c.args.above.now) c.args.north.now) c.copy_from_slice-2.ensures.after ∙ sym (wrote-front _ _ c.if-north-above.false),
)
