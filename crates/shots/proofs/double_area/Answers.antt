-- `shots::double_area` meets its contract: a refusal of `orientation` is handed on, and of an area that it gives the size.
use Rattle.std.proofs.Common.{rules, ◌≡◌, ◌∙◌, ap, Err}
use lib.IntN.{nat_abs}
use Rattle.algebra.specs.Answer.{gives, on_value}
use Rattle.shots.specs.Refusals.{answered}
use Rattle.shots.specs.Calls.{double_area_of}
use Rattle.shots.proofs.double_area.Goals as goal

pub returns-in_err-area : goal.returns-in_err-area
unfolding double_area_of
returns-in_err-area c =
    let e : c.from_residual.result ≡ Err c.in_err-area.field-0.0 = search rules in
    ap answered e ∙ ap (on_value nat_abs) c.in_err-area.ensures

pub returns : goal.returns
unfolding double_area_of
returns c = (let f : c.unsigned_abs.result ≡ nat_abs c.in_ok-area.area = search rules in ap gives f) ∙ ap (on_value nat_abs) c.in_ok-area.ensures
