-- `walks::start` meets its contract: where the list is refused, nothing changes.
use Rattle.std.proofs.Common.{rules, ◌≡◌, ◌∙◌, sym, ap, Err}
use Rattle.reach.proofs.StepLaws.{start-refused}
use Rattle.walks.specs.Calls.{start_landing}
use Rattle.walks.proofs.start.Goals as goal

pub returns-in_err-test : goal.returns-in_err-test
returns-in_err-test c =
    let a = c.args in
    let e : c.from_residual.result ≡ Err c.in_err-test.field-0.0 = search rules in
    ap (λ r. start_landing r a.walk.now a.table.now) e ∙ sym (start-refused _ _ _ _ _ (sym c.in_err-test.ensures))
