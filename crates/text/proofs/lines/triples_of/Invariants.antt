use mathlib.Core.Path.{◌≡◌}
use mathlib.Core.List.{List, ◌++◌}
use Prim.Native.Nat.{ℕ, ◌+◌, ◌*◌, ◌-◌, ◌≤◌}
use lib.ListN.{length}
use Rattle.algebra.specs.Loops.{over}
use Rattle.algebra.specs.Words.{member}
use Rattle.algebra.proofs.LoopLaws.{Found}
use Rattle.triples.specs.Sets.{words_of}
use Rattle.text.specs.Lines.{rank_text}
use Rattle.text.proofs.lines.triples_of.Given as goal

-- the texts of the ranks below r are put behind t
abbrev pub Lined : ℕ → List ℕ → List ℕ → List ℕ → ℕ → Type 0
Lined n w t out r = (length out ≤ length t + 4 * r) × (out ≡ t ++ over (rank_text n w) 0 r)

abbrev pub invariant-loop-r : goal.invariant-loop-r
invariant-loop-r g l = Found (member (words_of l.list)) l.count (Lined l.n (words_of l.list) l.initial.out.bytes l.out.bytes) l.r

abbrev pub decreases-loop-r : goal.decreases-loop-r
decreases-loop-r g l = l.count - l.r
