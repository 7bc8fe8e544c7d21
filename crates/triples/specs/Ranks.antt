-- The triples i < j < k of n shots, as increasing lists, and their ranks: their places in lexicographic order, from 0.
--
--   triples_of n       the triples, in lexicographic order
--   triple_count n     how many there are
--   triple_at n r      the triple of rank r; the empty list past the last rank
--   rank_of n s        the rank of the triple s
--   piece_count k n, piece_at k n r, rank_in k n s    the same for the increasing lists of k shots
--
-- Laws: proofs/RankLaws (`rank_of_triple`, `triple_of_rank`, `rank_order`; by formula `count-choose`, `rank_later`, `triple_by`). Source: document 01, "What a surface is"; document 02, E3.
use Rattle.std.specs.Prelude.{List, [], ℕ, length, get_or}
use Rattle.algebra.specs.Sets.{sets_of, place_of}

abbrev pub triples_of : ℕ → List (List ℕ)
triples_of n = sets_of 3 n

unfoldable pub triple_count : ℕ → ℕ
triple_count n = length (triples_of n)

unfoldable pub triple_at : ℕ → ℕ → List ℕ
triple_at n r = get_or (triples_of n) r []

unfoldable pub rank_of : ℕ → List ℕ → ℕ
rank_of n s = place_of s (triples_of n)

-- the same for the increasing lists of k of n shots, pieces of k shots
unfoldable pub piece_count : ℕ → ℕ → ℕ
piece_count k n = length (sets_of k n)

unfoldable pub piece_at : ℕ → ℕ → ℕ → List ℕ
piece_at k n r = get_or (sets_of k n) r []

unfoldable pub rank_in : ℕ → ℕ → List ℕ → ℕ
rank_in k n s = place_of s (sets_of k n)
