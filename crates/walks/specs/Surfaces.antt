-- The surfaces of a patch that are reached from one by flips, in the paper's words.
--
--   PublishedFlip l w w'   w' is an accepted list of two words, and the published flip of w along some published circuit of the patch
--   Reachable l w₀ w       w is reached from w₀ by such flips
--
-- Theorems: proofs/Theorem. Source: demand 3; document 01, "Flips"; source 001, section 3.4.
use Rattle.std.specs.Prelude.{ℕ, List, ℤ}
use Rattle.algebra.specs.Words.{Words}
use Rattle.matroid.specs.Circuits.{SignVector, Circuit}
use Rattle.matroid.specs.Flips.{Flipped}
use Rattle.reach.specs.Reach.{Reach}
use Rattle.shots.specs.Coordinates.{patch_of}
use Rattle.shots.specs.Patch.{count_of}
use Rattle.triples.specs.Sizes.{word_count}
use Rattle.lists.specs.Lines.{Listed}
use Rattle.lists.specs.Lines.{Accepted}

abbrev pub PublishedFlip : List ℤ → List ℕ → List ℕ → Type 0
PublishedFlip l w w' = (X : SignVector) × Circuit (count_of l) (patch_of l) X × Flipped (count_of l) (Listed (count_of l) w) X (Listed (count_of l) w') × Words word_count w' × Accepted l w'

abbrev pub Reachable : List ℤ → List ℕ → List ℕ → Type 0
Reachable l w₀ w = Reach (PublishedFlip l) w₀ w
