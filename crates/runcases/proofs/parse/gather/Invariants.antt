use Rattle.std.proofs.Common.{◌≤◌, length}
use Rattle.runcases.proofs.parse.gather.Given as goal

abbrev pub invariant-loop-c : goal.invariant-loop-c
invariant-loop-c l = l.len ≤ length l.cells
