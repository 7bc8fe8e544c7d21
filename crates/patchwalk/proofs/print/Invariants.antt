use Rattle.std.proofs.Common.{◌≤◌}
use Rattle.std.specs.Io.KnownBytes.{Appends}
use Rattle.algebra.specs.Loops.{over}
use Rattle.records.specs.Reading.{coordinates_of}
use Rattle.report.specs.Report.{find_of, line_of}
use Rattle.patchwalk.proofs.print.Given as goal

abbrev pub invariant-loop-from : goal.invariant-loop-from
invariant-loop-from g l =
    (l.from ≤ l.lines)
    × Appends (g.W.Write.contents l.initial.out) (g.W.Write.contents l.out) (over (line_of (coordinates_of l.fn.bytes) (find_of l.fn.bytes)) 0 l.from)
