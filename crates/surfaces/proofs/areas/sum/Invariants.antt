use Rattle.std.specs.Prelude.{◌≡◌, ℕ, ◌-◌, ◌*◌, ◌≤◌, cond, List, ℤ}
use Rattle.algebra.specs.Loops.{tally}
use Rattle.algebra.specs.Words.{member}
use Rattle.algebra.proofs.LoopLaws.{Found}
use Rattle.shots.specs.Sizes.{farthest}
use Rattle.shots.specs.Patch.{count_of}
use Rattle.triples.specs.Ranks.{triple_at}
use Rattle.triples.specs.Sets.{words_of}
use Rattle.surfaces.specs.Areas.{triple_area_of}
use Rattle.surfaces.proofs.areas.sum.Given as goal

-- the double area of a rank
abbrev pub size_at : List ℤ → ℕ → ℕ
size_at l r = triple_area_of l (triple_at (count_of l) r)

-- s is the sum over the ranks below r
abbrev pub Summed : List ℤ → List ℕ → ℕ → ℕ → Type 0
Summed l w s r = (s ≤ 8 * farthest * farthest * r) × (s ≡ tally r (λ i. cond (member w i) (size_at l i) 0))

abbrev pub invariant-loop-r : goal.invariant-loop-r
invariant-loop-r l = Found (member (words_of l.list)) l.count (Summed l.shots (words_of l.list) l.sum) l.r

abbrev pub decreases-loop-r : goal.decreases-loop-r
decreases-loop-r l = l.count - l.r
