use Rattle.std.specs.Prelude.{◌≡◌, ◌++◌, ◌+◌, ◌-◌, ◌*◌, ◌≤◌, length}
use Rattle.algebra.specs.Loops.{over}
use Rattle.text.specs.Sizes.{line_most}
use Rattle.report.specs.Report.{ended_in, shown_line}
use Rattle.report.proofs.lines.from_to.Given as goal

abbrev pub invariant-loop-i : goal.invariant-loop-i
invariant-loop-i g l =
    (length l.out.bytes ≤ length l.initial.out.bytes + (l.i - l.from) * line_most) × (l.out.bytes ≡ l.initial.out.bytes ++ over (shown_line l.shots (ended_in l.table l.ended.walk) l.ended.complete) l.from l.i)
