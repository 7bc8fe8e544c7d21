use Prim.Native.Nat.{◌+◌, ◌*◌}
use lib.ListN.{length}
use Rattle.algebra.proofs.WritingLaws.{Putting}
use Rattle.records.specs.Formats.{coordinate_bytes}
use Rattle.records.proofs.patches.put_coordinates.Given as goal

abbrev pub invariant-loop-i : goal.invariant-loop-i
invariant-loop-i l = Putting (coordinate_bytes l.shots) (length l.shots) l.initial.out 4 l.i l.out (4 + 4 * l.i)
