-- The pieces of a list as masks of shots, shot i at bit i, and what is asked of a list by them. k is the number of shots of a piece.
--
--   piece_of k n r       the piece of rank r
--   pieces_in k n w      the pieces of the list w, in the order of their ranks
--   holds x p            the piece p holds every shot of the mask x
--   holder_count ps x    how many of the pieces ps hold x
--   is_face ps x         x is a face: some piece holds it
--   InRankOrder k n t    place r of t has the piece of rank r
--   Piece k n x          the mask x is k of n shots
--   Pieces k n ps        so are all of ps, and they are few enough to be counted
--
-- Laws: proofs/PieceLaws.
use Rattle.std.specs.Prelude.{◌≡◌, Bool, not, cond, ◌&&◌, List, map, ℕ, ◌^◌, ◌<◌, ltb, length, get_or}
use Rattle.algebra.specs.Loops.{any, picks, sum_of}
use Rattle.algebra.specs.Sets.{mask_of, bit, set_of}
use Rattle.algebra.specs.Words.{member}
use Rattle.shots.specs.Sizes.{mask_bits}
use Rattle.triples.specs.Ranks.{piece_count, piece_at}

unfoldable pub piece_of : ℕ → ℕ → ℕ → ℕ
piece_of k n r = mask_of (piece_at k n r)

unfoldable pub pieces_in : ℕ → ℕ → List ℕ → List ℕ
pieces_in k n w = map (piece_of k n) (picks (piece_count k n) (member w))

unfoldable pub holds : ℕ → ℕ → Bool
holds x p = not (any mask_bits (λ i. bit x i && not (bit p i)))

unfoldable pub holder_count : List ℕ → ℕ → ℕ
holder_count ps x = sum_of (λ p. cond (holds x p) 1 0) ps

abbrev pub is_face : List ℕ → ℕ → Bool
is_face ps x = ltb 0 (holder_count ps x)

abbrev pub InRankOrder : ℕ → ℕ → List ℕ → Type 0
InRankOrder k n t = (r : ℕ) → r < piece_count k n → get_or t r 0 ≡ piece_of k n r

abbrev pub Piece : ℕ → ℕ → ℕ → Type 0
Piece k n x = (x < 2 ^ n) × (length (set_of n x) ≡ k)

abbrev pub Pieces : ℕ → ℕ → List ℕ → Type 0
Pieces k n ps = (length ps < 2 ^ mask_bits) × ((t : ℕ) → t < length ps → Piece k n (get_or ps t 0))
