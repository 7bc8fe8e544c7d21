-- How the code finds the pieces of a circuit with what they are joined with: by sets of triples.
--
--   star_of n a x          for a side a of a circuit, both as masks: the triples that hold all of the circuit x but one shot of that side
--   IsStar n x t          t is the star of some side of the circuit x
--   cone_of n k t          those of the set t that hold shot k
--   linked_at n x t w k    shot k is outside the circuit x, and its whole cone in t is in the list w, and is not empty
--   linked_of n x t w      the triples with such a shot
--   supported_by n x t w   the list w supports the pieces whose star is t
--   turned_by n x t u w    the list with the star t taken out, and what belongs to the same link in the star u put in
--   found_by n x t u w     the list w supports the pieces of one of the stars t and u
--   flipped_by n x t u w   the list turned from t to u where t is supported, else from u to t where u is, else as it is
--   taken_by b w           the list w where b holds, and else none
--   found_answer o         the list that a flip found; or 13 where it found none
--
-- That this is the flip of specs/Flips: proofs/ByStars, proofs/CallChains.
use Rattle.std.specs.Prelude.{◌≡◌, ℕ, Bool, Option, Some, None, cond, not, ◌&&◌, ◌||◌, List, nat_lt}
use Rattle.algebra.specs.Answer.{Answer, gives, refuses}
use Rattle.algebra.specs.Loops.{any}
use Rattle.algebra.specs.Sets.{is_on, bit}
use Rattle.algebra.specs.Words.{clear_bit, sift, both_of, either_of, less_of, meets_of, inside_of}
use Rattle.triples.specs.Sizes.{word_count}
use Rattle.triples.specs.Ranks.{triple_count, triple_at}
use Rattle.triples.specs.Sets.{mask_on, holders_of}

unfoldable pub star_of : ℕ → ℕ → ℕ → List ℕ
star_of n a x = sift word_count (λ r. nat_lt r (triple_count n) && any n (λ i. bit a i && (mask_on n (clear_bit x i) (triple_at n r) && not (is_on i (triple_at n r)))))

abbrev pub IsStar : ℕ → ℕ → List ℕ → Type 0
IsStar n x t = (a : ℕ) × (t ≡ star_of n a x)

unfoldable pub cone_of : ℕ → ℕ → List ℕ → List ℕ
cone_of n k t = both_of t (holders_of n k)

unfoldable pub linked_at : ℕ → ℕ → List ℕ → List ℕ → ℕ → Bool
linked_at n x t w k = not (bit x k) && (meets_of (cone_of n k t) w && inside_of (cone_of n k t) w)

unfoldable pub linked_of : ℕ → ℕ → List ℕ → List ℕ → List ℕ
linked_of n x t w = sift word_count (λ r. any n (λ k. linked_at n x t w k && is_on k (triple_at n r)))

unfoldable pub supported_by : ℕ → ℕ → List ℕ → List ℕ → Bool
supported_by n x t w = meets_of t w && (inside_of t w || inside_of (both_of t w) (linked_of n x t w))

unfoldable pub turned_by : ℕ → ℕ → List ℕ → List ℕ → List ℕ → List ℕ
turned_by n x t u w = either_of (less_of w t) (cond (inside_of t w) u (both_of u (linked_of n x t w)))

-- ---- between two stars

abbrev pub found_by : ℕ → ℕ → List ℕ → List ℕ → List ℕ → Bool
found_by n x t u w = supported_by n x t w || supported_by n x u w

abbrev pub flipped_by : ℕ → ℕ → List ℕ → List ℕ → List ℕ → List ℕ
flipped_by n x t u w = cond (supported_by n x t w) (turned_by n x t u w) (cond (supported_by n x u w) (turned_by n x u t w) w)

-- the list w where there is a flip
abbrev pub taken_by : Bool → List ℕ → Option (List ℕ)
taken_by b w = cond b (Some w) None

abbrev pub found_answer : Option (List ℕ) → Answer (List ℕ)
found_answer None = refuses 13
found_answer (Some w) = gives w
