-- The two records, as bytes. Each is defined once, here; that the readers take exactly these and give back what was written is proved (proofs/RoundTrips).
--
--   patch_bytes l        the record of a patch: length, version, n, then x and y of each shot; `coordinate_bytes l i`: the four bytes at place i
--   triple_bytes n w     the triples of the list w, three bytes each, in the order of their ranks; `rank_bytes n w r`: those of rank r
--   surface_bytes n w    the record of the list w of n shots: length, version, n, t, then t triples
--
-- Source: document 01, "Records".
use Rattle.std.specs.Prelude.{cond, List, [], ◌∷◌, ◌++◌, ℕ, ◌+◌, ◌*◌, get_or, length, ℤ, pos}
use Rattle.algebra.specs.Loops.{over}
use Rattle.algebra.specs.Words.{member}
use Rattle.shots.specs.Patch.{count_of}
use Rattle.triples.specs.Ranks.{triple_count, triple_at}
use Rattle.triples.specs.Sets.{size_of}
use Rattle.records.specs.Sizes.{version}
use Rattle.records.specs.Fields.{bytes_of, code_of}

-- the four bytes of the coordinate at place i
unfoldable pub coordinate_bytes : List ℤ → ℕ → List ℕ
coordinate_bytes l i = bytes_of 4 (code_of (get_or l i (pos 0)))

unfoldable pub patch_bytes : List ℤ → List ℕ
patch_bytes l = bytes_of 2 (2 + 8 * count_of l) ++ (version ∷ count_of l ∷ over (coordinate_bytes l) 0 (length l))

-- the bytes of rank r: those of its triple where it is in the list
unfoldable pub rank_bytes : ℕ → List ℕ → ℕ → List ℕ
rank_bytes n w r = cond (member w r) (triple_at n r) []

unfoldable pub triple_bytes : ℕ → List ℕ → List ℕ
triple_bytes n w = over (rank_bytes n w) 0 (triple_count n)

unfoldable pub surface_bytes : ℕ → List ℕ → List ℕ
surface_bytes n w = bytes_of 2 (3 + 3 * size_of n w) ++ (version ∷ n ∷ size_of n w ∷ triple_bytes n w)
