use mathlib.Core.Path.{◌≡◌}
use mathlib.Core.Bool.{cond}
use mathlib.Core.List.{List}
use Prim.Native.Nat.{ℕ, ◌-◌, ◌≤◌}
use Rattle.algebra.specs.Loops.{tally}
use Rattle.algebra.specs.Words.{member}
use Rattle.algebra.proofs.LoopLaws.{Found}
use Rattle.triples.specs.Sets.{words_of}
use Rattle.triples.proofs.holding.size.Given as goal

-- k of the ranks below r are in the set
abbrev pub Counted : List ℕ → ℕ → ℕ → Type 0
Counted w k r = (k ≤ r) × (k ≡ tally r (λ i. cond (member w i) 1 0))

abbrev pub invariant-loop-r : goal.invariant-loop-r
invariant-loop-r l = Found (member (words_of l.list)) l.count (Counted (words_of l.list) l.k) l.r

abbrev pub decreases-loop-r : goal.decreases-loop-r
decreases-loop-r l = l.count - l.r
