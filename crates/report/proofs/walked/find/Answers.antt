-- `report::walked::find` meets its contract: the record is refused, or the patch read is walked.
use Rattle.std.proofs.Common.{rules, ◌≡◌, ◌∙◌, sym, ap, ℕ, List, Err}
use lib.IntN.{ℤ}
use native.Mathlib.Omega.{arith}
use Rattle.shots.specs.Tests.{refusal_of}
use Rattle.shots.specs.Calls.{PatchRead}
use Rattle.surfaces.specs.Calls.{placing_of}
use Rattle.report.specs.Report.{read_found, placed_find}
use Rattle.report.proofs.LineLaws.{find-refused, find_read}
use Rattle.report.proofs.ReadLaws.{shots_few, handed_count, shots-front, shots-accepted}
use Rattle.report.proofs.walked.find.Goals as goal

pub returns-in_err-patch : goal.returns-in_err-patch
returns-in_err-patch c =
    let e : c.from_residual.result ≡ Err c.in_err-patch.field-0.0 = search rules in
    let t = c.args.table.now in
    ap (λ r. read_found r t) e
    ∙ ap (λ (u : List ℕ). read_found (Err c.in_err-patch.field-0.0) u) c.requires
    ∙ sym (find-refused c.args.bytes.now _ (sym (ap (λ (y : PatchRead). y.answer) c.in_err-patch.ensures)))

pub overflow_mul-patch : goal.overflow_mul-patch
overflow_mul-patch c = omega (arith, shots_few c.args.bytes.now _ (handed_count c.args.bytes.now c.in_ok-patch.patch c.in_ok-patch.ensures))

pub shared_ref_as_front-of_patch : goal.shared_ref_as_front-of_patch
shared_ref_as_front-of_patch c = omega (arith, shots_few c.args.bytes.now _ (handed_count c.args.bytes.now c.in_ok-patch.patch c.in_ok-patch.ensures))

pub of_patch-requires : goal.of_patch-requires
of_patch-requires c =
    let b = c.args.bytes.now in
    let p = c.in_ok-patch.patch in
    let e = c.in_ok-patch.ensures in
    (ap refusal_of (shots-front b p e) ∙ shots-accepted b _ (handed_count b p e), c.requires)

pub returns : goal.returns
returns c =
    let b = c.args.bytes.now in
    let p = c.in_ok-patch.patch in
    let e = c.in_ok-patch.ensures in
    c.of_patch.ensures ∙ ap (λ (l : List ℤ). placed_find l (placing_of l)) (shots-front b p e) ∙ sym (find_read b _ (handed_count b p e))
