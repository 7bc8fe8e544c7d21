-- The lines of document 01's table of refusals that a list can give, as statements of the published theorem.
--
--   Listed n w s      s is a triple of the list w: the list as a set of triples
--   PastLast l w      a bit past the last rank
--   FlatTriple l w    a flat triple
--   NoTriple l w      no triple
--   Cross l w         a circuit with one side inside one triple of the list and the other inside one
--   OpenEdge l w      an edge of a triple of the list that is no edge of another one, and no border pair
--   list_lines l w     the lines 7, 10, 8, 9
--   test_lines l w     the table of `test`
--   Accepted l w      the list is a triangulation of the patch: nothing past the last rank, and Theorem 2.1
--
-- The theorems: proofs/Promises, proofs/Agreement.
use Rattle.std.specs.Prelude.{◌≡◌, ℕ, ◌*◌, ◌<◌, ◌≤◌, true, ◌⊎◌, List, [], ◌∷◌, ◌++◌, length, ℤ, ◌≢◌}
use Rattle.algebra.specs.Answer.{Line}
use Rattle.algebra.specs.Sets.{On}
use Rattle.algebra.specs.Words.{word_bits, member}
use Rattle.matroid.specs.Circuits.{Crossing}
use Rattle.matroid.specs.Configurations.{Flat}
use Rattle.matroid.specs.Triangulations.{Family, Face, Border, Triangulation}
use Rattle.shots.specs.Coordinates.{patch_of}
use Rattle.shots.specs.Patch.{count_of}
use Rattle.shots.specs.Lines.{shot_lines}
use Rattle.triples.specs.Ranks.{triple_count, triple_at}

abbrev pub Listed : ℕ → List ℕ → Family
Listed n w s = (r : ℕ) × (r < triple_count n) × (member w r ≡ true) × (triple_at n r ≡ s)

abbrev pub PastLast : List ℤ → List ℕ → Type 0
PastLast l w = (r : ℕ) × (r < word_bits * length w) × (triple_count (count_of l) ≤ r) × (member w r ≡ true)

abbrev pub FlatTriple : List ℤ → List ℕ → Type 0
FlatTriple l w = (s : List ℕ) × Listed (count_of l) w s × Flat (patch_of l) s

abbrev pub NoTriple : List ℤ → List ℕ → Type 0
NoTriple l w = (s : List ℕ) × Listed (count_of l) w s → ⊥

abbrev pub Cross : List ℤ → List ℕ → Type 0
Cross l w = (s : List ℕ) × (t : List ℕ) × Listed (count_of l) w s × Listed (count_of l) w t × Crossing (count_of l) (patch_of l) (On s) (On t)

abbrev pub OpenEdge : List ℤ → List ℕ → Type 0
OpenEdge l w =
    (s : List ℕ) × (e : List ℕ) × Listed (count_of l) w s × Face (count_of l) (patch_of l) e s × (Border (count_of l) (patch_of l) e → ⊥)
    × ((t : List ℕ) × Listed (count_of l) w t × (t ≢ s) × Face (count_of l) (patch_of l) e t → ⊥)

abbrev pub list_lines : List ℤ → List ℕ → List Line
list_lines l w =
    record { number = 7; when = PastLast l w ⊎ FlatTriple l w }
    ∷ record { number = 10; when = NoTriple l w }
    ∷ record { number = 8; when = Cross l w }
    ∷ record { number = 9; when = OpenEdge l w }
    ∷ []

abbrev pub test_lines : List ℤ → List ℕ → List Line
test_lines l w = shot_lines l ++ list_lines l w

abbrev pub Accepted : List ℤ → List ℕ → Type 0
Accepted l w = (PastLast l w → ⊥) × Triangulation (count_of l) (patch_of l) (Listed (count_of l) w)
