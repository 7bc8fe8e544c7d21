use Prim.Native.Nat.{◌-◌}
use Rattle.algebra.specs.Words.{member}
use Rattle.algebra.proofs.LoopLaws.{Found}
use Rattle.algebra.proofs.WritingLaws.{Putting}
use Rattle.triples.specs.Sets.{words_of}
use Rattle.records.specs.Formats.{rank_bytes}
use Rattle.records.proofs.listed.put_triples.Given as goal

abbrev pub invariant-loop-r : goal.invariant-loop-r
invariant-loop-r l = Found (member (words_of l.list)) l.count (λ q. Putting (rank_bytes l.n (words_of l.list)) l.count l.initial.out 5 q l.out l.at) l.r

abbrev pub decreases-loop-r : goal.decreases-loop-r
decreases-loop-r l = l.count - l.r
