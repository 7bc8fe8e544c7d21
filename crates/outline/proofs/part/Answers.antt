-- `outline::part` meets its contract: the part of the buffer that is asked for.
use mathlib.Core.Path.{sym, ◌∙◌, ap}
use Rattle.outline.specs.Calls.{part_of}
use Rattle.outline.specs.declared.Facing.{Facing}
use Rattle.outline.proofs.part.Goals as goal

pub returns-in-South : goal.returns-in-South
unfolding part_of
returns-in-South c =
    let a = c.args in
    c.front.ensures ∙ sym (ap (λ (f : Facing). part_of f a.south.now a.north.now a.lengths) c.in-South.is)

pub returns-in-North : goal.returns-in-North
unfolding part_of
returns-in-North c =
    let a = c.args in
    c.front-in-North.ensures ∙ sym (ap (λ (f : Facing). part_of f a.south.now a.north.now a.lengths) c.in-North.is)
