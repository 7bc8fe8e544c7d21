-- What the published flips lead to, with nothing asked of their results but that they are lists of the patch: two words, nothing past the last rank.
--
--   BareFlip l w w'      w' is such a list, of the published flip of w along some published circuit of the patch
--   BareReach l w₀ w     w is reached from w₀ by such flips
--
-- From an accepted list these are the surfaces of demand 3: proofs/Theorem (`reach_bare`, `walk_whole`). Source: document 02, E9.
use Rattle.std.specs.Prelude.{ℕ, List, ℤ}
use Rattle.algebra.specs.Words.{Words}
use Rattle.matroid.specs.Circuits.{SignVector, Circuit}
use Rattle.matroid.specs.Flips.{Flipped}
use Rattle.reach.specs.Reach.{Reach}
use Rattle.shots.specs.Coordinates.{patch_of}
use Rattle.shots.specs.Patch.{count_of}
use Rattle.triples.specs.Sizes.{word_count}
use Rattle.lists.specs.Lines.{Listed, PastLast}

abbrev pub BareFlip : List ℤ → List ℕ → List ℕ → Type 0
BareFlip l w w' = (X : SignVector) × Circuit (count_of l) (patch_of l) X × Flipped (count_of l) (Listed (count_of l) w) X (Listed (count_of l) w') × Words word_count w' × (PastLast l w' → ⊥)

abbrev pub BareReach : List ℤ → List ℕ → List ℕ → Type 0
BareReach l w₀ w = Reach (BareFlip l) w₀ w
