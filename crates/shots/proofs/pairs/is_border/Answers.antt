-- `shots::pairs::is_border` meets its contract: what is right of a pair is left of the pair turned.
use mathlib.Core.Path.{sym, ◌∙◌, ap}
use mathlib.Core.Bool.{not}
use Rattle.shots.specs.Patch.{border_of}
use Rattle.shots.proofs.Orientations.{right_is_left}
use Rattle.shots.proofs.pairs.is_border.Goals as goal

pub returns-else-not-some_left : goal.returns-else-not-some_left
unfolding border_of
returns-else-not-some_left c =
    let a = c.args in
    simp (sym c.some_left.ensures ∙ c.if-not-some_left.false) (ap not (c.some_left-else-not-some_left.ensures ∙ sym (right_is_left a.shots.now a.i a.j)))
