-- `intake::take_runs` meets its contract: the edition or the number of shots is refused, the runs are unequal, or the shots are taken as an array, by the edition's foot.
use Rattle.std.proofs.Common.{rules, ◌≡◌, sym, ◌∙◌, ap, Err, length}
use mathlib.Core.Bool.{true, not, ◌||◌}
use Prim.Native.Nat.{◌*◌}
use borrow.Author.Tests.{ne_eqb}
use lib.Dec.{eqb}
use Rattle.shots.specs.Calls.{read_patch}
use Rattle.intake.specs.Runs.{shots_in, runs_rule}
use Rattle.intake.specs.Calls.{take_runs_of}
use Rattle.intake.proofs.CallChains.{count_few, take_miscounted, take_unknown, take_known, taken_same}
use Rattle.intake.proofs.take_runs.Goals.{then-miscounted-via-then-miscounted, then-miscounted-via-else-miscounted+then-values-count}
use Rattle.intake.proofs.take_runs.Goals as goal

pub returns-in_err-foot : goal.returns-in_err-foot
unfolding take_runs_of
returns-in_err-foot c =
    let u = c.args.units.now in
    let v = c.args.values.now in
    let e : c.from_residual.result ≡ Err c.in_err-foot.field-0.0 = search rules in
    ap read_patch e ∙ take_unknown c.args.edition (runs_rule u v) (shots_in u v) (length u) c.in_err-foot.ensures

pub returns-then-miscounted : goal.returns-then-miscounted
unfolding take_runs_of
returns-then-miscounted c =
    let u = c.args.units.now in
    let v = c.args.values.now in
    let broken : (runs_rule u v).broken ≡ true = elim c.then-miscounted.branch [
      | then-miscounted-via-then-miscounted w ↦ ap (λ b. b || not (eqb (length v) (2 * length u))) (sym w.if-miscounted.ensures)
      | then-miscounted-via-else-miscounted+then-values-count w ↦ λ k. sym w.if-miscounted.ensures k || not (ne_eqb (length v) (2 * length u) w.if-values-count.true k)
    ] in
    take_miscounted _ (shots_in u v) (length u) (runs_rule u v) broken ∙ take_known c.args.edition (runs_rule u v) (shots_in u v) (length u) c.in_ok-foot.ensures

pub returns : goal.returns
unfolding take_runs_of
returns c =
    let u = c.args.units.now in
    let v = c.args.values.now in
    let few = count_few (length u) (sym c.if-miscounted.ensures) in
    c.taken.ensures ∙ taken_same u v c.in_ok-foot.foot few c.if-values-count.false c.gathered.ensures ∙ take_known c.args.edition (runs_rule u v) (shots_in u v) (length u) c.in_ok-foot.ensures
