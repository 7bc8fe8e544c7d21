-- When a list is refused, 7 10 8 9, as tests that compute (specs/Lines has them as statements). A list is a set of triples, one bit for each rank.
--
--   listed n w t       t is a triple of the list w
--   is_flat l s         the triple s has orientation 0
--   past_last l w       a bit past the last rank
--   some_flat l w       a flat triple
--   is_empty l w        no triple
--   sides_in z s t      the plus side of z is inside s and its minus side inside t
--   crosses n w z      the sides of z are inside two triples of the list, which may be one
--   crossing l w       so it is for some circuit
--   shared n w r i j   a triple of the list other than that of rank r holds i and j
--   open_at l w r i j   i and j are an edge of the triple of rank r, of no other one, and no border pair
--   open_edge l w       so it is for some edge of some triple of the list
--   list_rules l w      the rules of a list, in order
--   list_refusal_of l w  the number that refuses the list, 0 where it is accepted
--
-- Source: document 01, "What a surface is", "Refusal numbers".
use Rattle.std.specs.Prelude.{ℕ, ◌*◌, Bool, true, not, ◌&&◌, ◌||◌, List, [], ◌∷◌, length, ℤ, ◌==◌, nat_le}
use Rattle.algebra.specs.Answer.{Rule, refusal}
use Rattle.algebra.specs.Loops.{any}
use Rattle.algebra.specs.Sets.{is_on, all_on, same_list}
use Rattle.algebra.specs.Sign.{is_nought}
use Rattle.algebra.specs.Words.{word_bits, member}
use Rattle.shots.specs.Patch.{count_of, orient_of, border_of}
use Rattle.circuits.specs.Sides.{TwoSides}
use Rattle.circuits.specs.Numbering.{circuits_of}
use Rattle.circuits.specs.Calls.{circuit_at}
use Rattle.triples.specs.Ranks.{triple_count, triple_at}

unfoldable pub listed : ℕ → List ℕ → List ℕ → Bool
listed n w t = any (triple_count n) (λ r. member w r && same_list (triple_at n r) t)

-- what is no triple counts as flat
unfoldable pub is_flat : List ℤ → List ℕ → Bool
is_flat l [] = true
is_flat l (i ∷ []) = true
is_flat l (i ∷ j ∷ []) = true
is_flat l (i ∷ j ∷ k ∷ []) = is_nought (orient_of l i j k)
is_flat l (i ∷ j ∷ k ∷ h ∷ s) = true

unfoldable pub past_last : List ℤ → List ℕ → Bool
past_last l w = any (word_bits * length w) (λ r. nat_le (triple_count (count_of l)) r && member w r)

unfoldable pub some_flat : List ℤ → List ℕ → Bool
some_flat l w = any (triple_count (count_of l)) (λ r. member w r && is_flat l (triple_at (count_of l) r))

unfoldable pub is_empty : List ℤ → List ℕ → Bool
is_empty l w = not (any (triple_count (count_of l)) (member w))

unfoldable pub sides_in : TwoSides → List ℕ → List ℕ → Bool
sides_in z s t = all_on z.plus s && all_on z.minus t

unfoldable pub crosses : ℕ → List ℕ → TwoSides → Bool
crosses n w z = any (triple_count n) (λ r. member w r && any (triple_count n) (λ s. member w s && sides_in z (triple_at n r) (triple_at n s)))

unfoldable pub crossing : List ℤ → List ℕ → Bool
crossing l w = any (length (circuits_of l)) (λ z. crosses (count_of l) w (circuit_at l z))

unfoldable pub shared : ℕ → List ℕ → ℕ → ℕ → ℕ → Bool
shared n w r i j = any (triple_count n) (λ s. member w s && (not (s == r) && (is_on i (triple_at n s) && is_on j (triple_at n s))))

unfoldable pub open_at : List ℤ → List ℕ → ℕ → ℕ → ℕ → Bool
open_at l w r i j = (is_on i (triple_at (count_of l) r) && is_on j (triple_at (count_of l) r)) && (not (border_of l i j) && not (shared (count_of l) w r i j))

unfoldable pub open_edge : List ℤ → List ℕ → Bool
open_edge l w = any (triple_count (count_of l)) (λ r. member w r && any (count_of l) (λ j. any j (λ i. open_at l w r i j)))

abbrev pub list_rules : List ℤ → List ℕ → List Rule
list_rules l w =
    record { number = 7; broken = past_last l w || some_flat l w }
    ∷ record { number = 10; broken = is_empty l w }
    ∷ record { number = 8; broken = crossing l w }
    ∷ record { number = 9; broken = open_edge l w }
    ∷ []

unfoldable pub list_refusal_of : List ℤ → List ℕ → ℕ
list_refusal_of l w = refusal (list_rules l w)
