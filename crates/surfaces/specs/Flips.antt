-- The flip of a list along a circuit, by its pieces and their links, as functions that compute. A set of shots is the increasing list of its numbers.
--
--   support_of n z         the shots of the circuit z
--   pieces_of n z a        the shots of z without one shot of the side a, each in turn
--   completions n p       the shot sets that could make a triple of the piece p: as many shots as it lacks
--   completes n w p c     c completes p to a triple of the list: c is in the link of p
--   some_link n w ps       a piece has a link that is not empty
--   mixed_links n w ps     a set is in the link of one piece and not in that of another
--   supports n w ps       every piece has the same, non-empty link
--   joins n w ps qs r     the triple of rank r is one of qs joined with a member of the link of ps
--   exchanged n w ps qs   the list without the pieces ps joined with their link, and with the pieces qs joined with it
--   flipped_of n w z       the plus pieces exchanged where they are supported, else the minus pieces
--
-- Agreement with the published flip: proofs/Agreement. Source: document 01, "Flips".
use Rattle.std.specs.Prelude.{ℕ, ◌-◌, Bool, cond, not, ◌&&◌, ◌||◌, List, map, length, nat_lt}
use Rattle.algebra.specs.Loops.{any_of}
use Rattle.algebra.specs.Sets.{same_list, union, dropped, sets_of}
use Rattle.algebra.specs.Words.{member, sift}
use Rattle.circuits.specs.Sides.{TwoSides}
use Rattle.triples.specs.Ranks.{triple_count, triple_at}
use Rattle.lists.specs.Tests.{listed}

unfoldable pub support_of : ℕ → TwoSides → List ℕ
support_of n z = union n z.plus z.minus

unfoldable pub pieces_of : ℕ → TwoSides → List ℕ → List (List ℕ)
pieces_of n z a = map (λ i. dropped n i (support_of n z)) a

abbrev pub completions : ℕ → List ℕ → List (List ℕ)
completions n p = sets_of (3 - length p) n

unfoldable pub completes : ℕ → List ℕ → List ℕ → List ℕ → Bool
completes n w p c = listed n w (union n p c)

unfoldable pub some_link : ℕ → List ℕ → List (List ℕ) → Bool
some_link n w ps = any_of (λ p. any_of (completes n w p) (completions n p)) ps

unfoldable pub mixed_links : ℕ → List ℕ → List (List ℕ) → Bool
mixed_links n w ps = any_of (λ p. any_of (λ c. completes n w p c && any_of (λ q. not (completes n w q c)) ps) (completions n p)) ps

unfoldable pub supports : ℕ → List ℕ → List (List ℕ) → Bool
supports n w ps = some_link n w ps && not (mixed_links n w ps)

unfoldable pub joins : ℕ → List ℕ → List (List ℕ) → List (List ℕ) → ℕ → Bool
joins n w ps qs r = nat_lt r (triple_count n) && any_of (λ q. any_of (λ p. any_of (λ c. same_list (triple_at n r) (union n q c) && completes n w p c) (completions n p)) ps) qs

unfoldable pub exchanged : ℕ → List ℕ → List (List ℕ) → List (List ℕ) → List ℕ
exchanged n w ps qs = sift (length w) (λ r. (member w r && not (joins n w ps ps r)) || joins n w ps qs r)

unfoldable pub flipped_of : ℕ → List ℕ → TwoSides → List ℕ
flipped_of n w z =
    cond (supports n w (pieces_of n z z.plus)) (exchanged n w (pieces_of n z z.plus) (pieces_of n z z.minus))
    (exchanged n w (pieces_of n z z.minus) (pieces_of n z z.plus))
