-- `intake::take` meets its contract: the edition or the number of shots is refused, or the shots are taken by the edition's foot.
use Rattle.std.proofs.Common.{rules, ◌≡◌, sym, ◌∙◌, ap, Err, take, length}
use lib.ListN.{length-take}
use native.Mathlib.Omega.{arith}
use Rattle.shots.specs.Sizes.{shots_most}
use Rattle.shots.specs.Calls.{read_patch}
use Rattle.intake.specs.Tests.{count_rule}
use Rattle.intake.specs.Calls.{taken_by, take_of}
use Rattle.intake.proofs.CallChains.{count_few, take_miscounted, take_unknown, take_known}
use Rattle.intake.proofs.take.Goals as goal

pub returns-in_err-foot : goal.returns-in_err-foot
unfolding take_of
returns-in_err-foot c =
    let a = c.args in
    let e : c.from_residual.result ≡ Err c.in_err-foot.field-0.0 = search rules in
    ap read_patch e ∙ take_unknown a.edition (count_rule a.count) (take a.count a.shots) a.count c.in_err-foot.ensures

pub returns-then-miscounted : goal.returns-then-miscounted
unfolding take_of
returns-then-miscounted c =
    let a = c.args in
    let r = count_rule a.count in
    let l = take a.count a.shots in
    take_miscounted _ l a.count r (sym c.if-miscounted.ensures) ∙ take_known a.edition r l a.count c.in_ok-foot.ensures

pub returns : goal.returns
unfolding take_of
returns c =
    let a = c.args in
    let l = take a.count a.shots in
    let wide : length a.shots ≡ shots_most = search rules in
    let m : length l ≡ a.count = omega (arith, length-take a.count a.shots, wide, count_few a.count (sym c.if-miscounted.ensures)) in
    c.taken.ensures ∙ ap (λ k. taken_by c.in_ok-foot.foot (count_rule k) l k) m ∙ take_known a.edition (count_rule a.count) l a.count c.in_ok-foot.ensures
