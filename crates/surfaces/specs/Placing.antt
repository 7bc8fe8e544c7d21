-- The placing surface, as a function that computes.
--
--   first_off l            the smallest shot that is not on the line of shots 0 and 1
--   begin_of l             the one triple of 0, 1 and that shot
--   third_in n w i j v     v makes a triple of the list with i and j
--   lone_third n w i j v   and no other shot does: i and j are an edge of exactly one triple, and v is its third shot
--   opposed s t           two opposite signs
--   visible l w m i j     i and j are an edge of exactly one triple so far, and m lies strictly on the other side from its third shot
--   with_edge l w m j i u  u with the triple of m and the edge i, j, where that edge of w is visible
--   with_edges l w m j u   so for each i < j
--   place_shot l w m       the list w with m joined to every visible edge
--   place_next l m w       the same for a remaining shot m; the three first shots are passed over
--   placed_of l            every shot in increasing number
--
-- Main theorem: proofs/PlacedAccepted (`placed-accepted`: the surface of an accepted patch is a triangulation of it).
-- Source: document 01, "The placing surface"; source 001, section 3.3.
use Rattle.std.specs.Prelude.{ℕ, Bool, cond, not, ◌&&◌, ◌||◌, List, [], ◌∷◌, replicate, ℤ, ◌==◌}
use Rattle.algebra.specs.Loops.{any, first, fold}
use Rattle.algebra.specs.Sets.{union}
use Rattle.algebra.specs.Sign.{Sign, opposite, is_nought, same_sign}
use Rattle.algebra.specs.Words.{put_in}
use Rattle.shots.specs.Patch.{count_of, orient_of}
use Rattle.triples.specs.Sizes.{word_count}
use Rattle.triples.specs.Ranks.{rank_of}
use Rattle.lists.specs.Tests.{listed}

unfoldable pub first_off : List ℤ → ℕ
first_off l = first (count_of l) (λ k. not (is_nought (orient_of l 0 1 k)))

unfoldable pub begin_of : List ℤ → List ℕ
begin_of l = put_in (replicate word_count 0) (rank_of (count_of l) (0 ∷ 1 ∷ first_off l ∷ []))

unfoldable pub third_in : ℕ → List ℕ → ℕ → ℕ → ℕ → Bool
third_in n w i j v = listed n w (union n (i ∷ j ∷ []) (v ∷ []))

unfoldable pub lone_third : ℕ → List ℕ → ℕ → ℕ → ℕ → Bool
lone_third n w i j v = third_in n w i j v && not (any n (λ u. not (u == v) && third_in n w i j u))

abbrev pub opposed : Sign → Sign → Bool
opposed s t = not (is_nought s) && same_sign s (opposite t)

unfoldable pub visible : List ℤ → List ℕ → ℕ → ℕ → ℕ → Bool
visible l w m i j = any (count_of l) (λ v. lone_third (count_of l) w i j v && opposed (orient_of l i j v) (orient_of l i j m))

unfoldable pub with_edge : List ℤ → List ℕ → ℕ → ℕ → ℕ → List ℕ → List ℕ
with_edge l w m j i u = cond (visible l w m i j) (put_in u (rank_of (count_of l) (union (count_of l) (i ∷ j ∷ []) (m ∷ [])))) u

unfoldable pub with_edges : List ℤ → List ℕ → ℕ → ℕ → List ℕ → List ℕ
with_edges l w m j u = fold (with_edge l w m j) u j

unfoldable pub place_shot : List ℤ → List ℕ → ℕ → List ℕ
place_shot l w m = fold (with_edges l w m) w (count_of l)

unfoldable pub place_next : List ℤ → ℕ → List ℕ → List ℕ
place_next l m w = cond (m == 0 || (m == 1 || m == first_off l)) w (place_shot l w m)

unfoldable pub placed_of : List ℤ → List ℕ
placed_of l = fold (place_next l) (begin_of l) (count_of l)
