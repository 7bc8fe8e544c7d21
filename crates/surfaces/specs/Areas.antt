-- The double area of a list: that of its triples, summed.
--
--   triple_area_of l s   the double area of the triple s
--   area_sum_of l w      the double areas of the triples of the list w, summed
--   SumOfSizes l w v   so in the words of document 02: v is the sum of the sizes of what `orientation` gives, over the triples of the list w, each once
--
-- src/areas.rt sums it; theorems: proofs/AreaSums (`area_sum_says`: of an accepted patch both are one), proofs/AreaKept (`flip_keeps_area`). Source: document 01, "Shots and orientation", "The square with its centre"; document 02, E6.
use Rattle.std.specs.Prelude.{◌≡◌, ℕ, ◌<◌, cond, ◌↔◌, List, [], ◌∷◌, length, ℤ, ◌≢◌, slice_index_or, unsigned_abs}
use mathlib.Core.List.{Memᴰ}
use Rattle.algebra.specs.Answer.{gives}
use Rattle.algebra.specs.Loops.{tally, sum_of}
use Rattle.algebra.specs.Words.{member}
use Rattle.shots.specs.Coordinates.{area_of}
use Rattle.shots.specs.Patch.{count_of}
use Rattle.shots.specs.Calls.{orientation_of}
use Rattle.triples.specs.Ranks.{triple_count, triple_at}
use Rattle.lists.specs.Lines.{Listed}

unfoldable pub triple_area_of : List ℤ → List ℕ → ℕ
triple_area_of l [] = 0
triple_area_of l (i ∷ []) = 0
triple_area_of l (i ∷ j ∷ []) = 0
triple_area_of l (i ∷ j ∷ k ∷ s) = unsigned_abs (area_of l i j k)

unfoldable pub area_sum_of : List ℤ → List ℕ → ℕ
area_sum_of l w = tally (triple_count (count_of l)) (λ r. cond (member w r) (triple_area_of l (triple_at (count_of l) r)) 0)

pub record SumOfSizes (l : List ℤ) (w : List ℕ) (v : ℕ) : Type 0 where
  -- the triples of the list, each once
  pub triples : List (List ℕ)
  pub each : (t : List ℕ) → Memᴰ t triples ↔ Listed (count_of l) w t
  pub once : (p q : ℕ) → p < q → q < length triples → slice_index_or triples p [] ≢ slice_index_or triples q []
  -- what the call gives for each
  pub signed : List ℕ → ℤ
  pub called : (t : List ℕ) → Memᴰ t triples → (i : ℕ) × (j : ℕ) × (k : ℕ) × (t ≡ i ∷ j ∷ k ∷ []) × (orientation_of l i j k ≡ gives (signed t))
  pub total : v ≡ sum_of (λ t. unsigned_abs (signed t)) triples
