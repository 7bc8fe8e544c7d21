-- `report::walked::of_patch` meets its contract: the walk from the placing surface; an accepted patch has one.
use Rattle.std.proofs.Common.{rules, ◌≡◌, ◌∙◌, sym, ap, ℕ, List, Err}
use Rattle.report.specs.Report.{read_found}
use Rattle.report.proofs.WalkLaws.{placing_tested}
use Rattle.report.proofs.LineLaws.{find_placed}
use Rattle.report.proofs.walked.of_patch.Goals as goal

pub from-requires : goal.from-requires
from-requires c = (c.requires.0, placing_tested c.args.shots.now _ (sym c.in_ok-list.ensures), c.requires.1)

pub returns-in_err-list : goal.returns-in_err-list
returns-in_err-list c =
    let e : c.from_residual.result ≡ Err c.in_err-list.field-0.0 = search rules in
    let t = c.args.table.now in
    ap (λ r. read_found r t) e
    ∙ ap (λ (u : List ℕ). read_found (Err c.in_err-list.field-0.0) u) c.requires.1
    ∙ find_placed c.args.shots.now c.in_err-list.ensures

pub returns : goal.returns
returns c = c.from.ensures ∙ find_placed c.args.shots.now c.in_ok-list.ensures
