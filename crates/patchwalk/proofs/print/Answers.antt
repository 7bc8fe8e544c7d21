-- The rows that were found fit their table; each part ends within the lines, and the next begins where it ended; so the report is written, part by part.
use Rattle.std.proofs.Common.{◌∙◌, sym, ap, subst, arith, rules, ◌≡◌, ℕ, ◌+◌, ◌-◌, ◌<◌, ◌≤◌, List, ◌++◌}
use Prim.Native.Nat.{min}
use Rattle.std.specs.declared.option.Option.{Option}
use Rattle.std.specs.Io.KnownBytes.{Appends}
use Rattle.std.proofs.KnownBytes.{Appends-nil, Appends-trans}
use Rattle.algebra.specs.Loops.{over}
use Rattle.algebra.proofs.OverLaws.{over_end, over-split}
use Rattle.records.specs.Reading.{coordinates_of}
use Rattle.report.specs.Report.{find_of, line_of, line_count}
use Rattle.report.proofs.LineLaws.{Fits, find_fits, found_fits}
use Rattle.report.proofs.Promises.{report_lines}
use Rattle.patchwalk.proofs.PrintLaws.{on_err, stops_on}
use Rattle.patchwalk.proofs.print.Goals as goal

pub count-lines-requires : goal.count-lines-requires
count-lines-requires g c = found_fits _ c.find-found.new.table (subst Fits (sym c.find-found.ensures) (find_fits _))

pub loop-from-init : goal.loop-from-init
loop-from-init g c =
    (search rules, subst (Appends _ _) (sym (over_end (line_of (coordinates_of c.args.bytes.now) (find_of c.args.bytes.now)) 0 0 (search rules))) (Appends-nil _))

-- a part ends within the lines, behind where it begins
behind : (from lines k : ℕ) → from < lines → k ≡ min 64 (lines - from) → (from < from + k) × (from + k ≤ lines) × (from + k - from ≤ 64)
behind from lines k h e = (omega arith, omega arith, omega arith)

pub part-requires : goal.part-requires
part-requires g c =
    let f = c.find-found.ensures in
    let e = behind c.loop-from.from c.count-lines.result c.min.result c.loop-from-test.true c.min.ensures in
    let n = c.count-lines.ensures c.find-found.new.table ∙ ap line_count f in
    (f, e.0, omega (arith, e.1, n), e.2)

-- one part more, from line to line
part_more : (line : ℕ → List ℕ) (from k : ℕ) {to : ℕ} (a b c : Option (List ℕ)) {text : List ℕ} → Appends a b (over line 0 from) → Appends b c text → text ≡ over line from (from + k) → from + k ≡ to → Appends a c (over line 0 to)
part_more line from k a b c p q e t =
    let joined = ap (λ l. over line 0 from ++ l) e ∙ sym (over-split line 0 from (from + k) (omega arith) (omega arith)) ∙ ap (over line 0) t in
    subst (Appends a c) joined (Appends-trans a b c (over line 0 from) _ p q)

pub loop-from-preserved : goal.loop-from-preserved
loop-from-preserved g c =
    let line = line_of (coordinates_of c.args.bytes.now) (find_of c.args.bytes.now) in
    let part : c.as_bytes.result.now ≡ over line c.loop-from.from (c.loop-from.from + c.min.result) = search rules in
    (omega arith, part_more line c.loop-from.from c.min.result _ _ _ c.loop-from.invariant.1 c.in_ok-put.ensures.all part (omega (arith, c.min.ensures)))

pub returns-in_err-put-clause-front : goal.returns-in_err-put-clause-front
returns-in_err-put-clause-front g c =
    let bytes = c.args.bytes.now in
    let line = line_of (coordinates_of bytes) (find_of bytes) in
    let from = c.loop-from.from in
    let to = from + c.min.result in
    let lines = line_count (find_of bytes) in
    let e = behind from c.count-lines.result c.min.result c.loop-from-test.true c.min.ensures in
    let n = c.count-lines.ensures c.find-found.new.table ∙ ap line_count c.find-found.ensures in
    let part : c.as_bytes.result.now ≡ over line from to = search rules in
    let ends = over-split line from to lines (omega (arith, e.0)) (omega (arith, e.1, n)) in
    let whole = report_lines bytes ∙ over-split line 0 from lines (search rules) (omega (arith, e.0, e.1, n)) ∙ ap (λ l. over line 0 from ++ l) (ends ∙ ap (λ l. l ++ over line to lines) (sym part)) in
    on_err c.from_residual.result (stops_on _ _ _ (over line 0 from) _ (over line to lines) _ whole c.loop-from.invariant.1 c.in_err-put.ensures.front)

pub returns-clause-all : goal.returns-clause-all
returns-clause-all g c =
    let bytes = c.args.bytes.now in
    let line = line_of (coordinates_of bytes) (find_of bytes) in
    let n = c.count-lines.ensures c.find-found.new.table ∙ ap line_count c.find-found.ensures in
    let last : c.loop-from.from ≡ line_count (find_of bytes) = omega (arith, n) in
    subst (Appends _ _) (ap (over line 0) last ∙ sym (report_lines bytes)) c.loop-from.invariant.1

pub returns-in_ok-put-clause-all : goal.returns-in_ok-put-clause-all
returns-in_ok-put-clause-all g c =
    let bytes = c.args.bytes.now in
    let line = line_of (coordinates_of bytes) (find_of bytes) in
    let n = c.count-lines.ensures c.find-found.new.table ∙ ap line_count c.find-found.ensures in
    let part : c.as_bytes.result.now ≡ over line c.loop-from.from (c.loop-from.from + c.min.result) = search rules in
    let all = part_more line c.loop-from.from c.min.result _ _ _ c.loop-from.invariant.1 c.in_ok-put.ensures.all part (omega (arith, c.min.ensures, n, c.loop-from-test.true)) in
    subst (Appends _ _) (sym (report_lines bytes)) all
