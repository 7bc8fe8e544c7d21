use Rattle.std.proofs.Common.{◌≡◌, ◌-◌, ◌≤◌, length, take, drop}
use Rattle.std.specs.Io.KnownBytes.{Appends}
use Rattle.streams.proofs.put.Given as goal

abbrev pub invariant-loop-rest : goal.invariant-loop-rest
invariant-loop-rest g l =
    (length l.rest ≤ length l.text) × (l.rest ≡ drop (length l.text - length l.rest) l.text)
    × Appends (g.W.Write.contents l.initial.out) (g.W.Write.contents l.out) (take (length l.text - length l.rest) l.text)

abbrev pub decreases-loop-rest : goal.decreases-loop-rest
decreases-loop-rest g l = length l.rest
