-- The circuits of a patch, numbered from 0: all threes first, then all fours, each group in lexicographic order.
--
--   three l a b c      the circuit of three shots on a line, the two ends against the middle one; none where they are not on a line
--   four l a b c d     the circuit of four shots, split by sign; none where three of them are on a line
--   terms3, terms4     their shots with their signs: `end_sign` of an end and of the middle one; document 01's four signs
--   flat_among l a b c d    three of the four shots are on a line
--   one_if b z          z alone where b says so, else nothing
--   threes l, fours l  those of all a < b < c, of all a < b < c < d; `threes_from`, `threes_with`, `fours_from`, `fours_with`, `fours_upon`: where the smallest one, two or three are fixed
--   circuits_of l       the circuits of the patch in the order of their numbers
--   shots_in n z        the shots of a circuit, those below n, in increasing order
--   Before s t         fewer shots, or as many and earlier in lexicographic order
--
-- Agreement with the published definition: proofs/Agreement; that the numbers follow the order: proofs/Signs. Source: document 01, "Circuits".
use Rattle.std.specs.Prelude.{◌≡◌, ℕ, ◌+◌, ◌<◌, Bool, true, false, cond, not, ◌||◌, ◌⊎◌, List, [], ◌∷◌, ◌++◌, length, ℤ}
use Rattle.algebra.specs.Loops.{picks, over}
use Rattle.algebra.specs.Sets.{Lex}
use Rattle.algebra.specs.Sign.{Sign, minus, plus, opposite, is_nought}
use Rattle.shots.specs.Patch.{count_of, orient_of, between_of}
use Rattle.circuits.specs.Sides.{TwoSides, Term, split, sign_in}

-- one circuit or none
unfoldable pub one_if : Bool → TwoSides → List TwoSides
one_if b z = cond b (z ∷ []) []

-- an end is plus, the middle one minus
abbrev pub end_sign : Bool → Sign
end_sign true = minus
end_sign false = plus

abbrev pub terms3 : List ℤ → ℕ → ℕ → ℕ → List Term
terms3 l a b c =
    record { shot = a; sign = end_sign (between_of l a b c) }
    ∷ record { shot = b; sign = end_sign (between_of l b a c) }
    ∷ record { shot = c; sign = end_sign (between_of l c a b) }
    ∷ []

unfoldable pub three : List ℤ → ℕ → ℕ → ℕ → List TwoSides
three l a b c = one_if (is_nought (orient_of l a b c)) (split (terms3 l a b c))

abbrev pub terms4 : List ℤ → ℕ → ℕ → ℕ → ℕ → List Term
terms4 l a b c d =
    record { shot = a; sign = orient_of l b c d }
    ∷ record { shot = b; sign = opposite (orient_of l a c d) }
    ∷ record { shot = c; sign = orient_of l a b d }
    ∷ record { shot = d; sign = opposite (orient_of l a b c) }
    ∷ []

-- three of the four are on a line
abbrev pub flat_among : List ℤ → ℕ → ℕ → ℕ → ℕ → Bool
flat_among l a b c d = is_nought (orient_of l b c d) || (is_nought (orient_of l a c d) || (is_nought (orient_of l a b d) || is_nought (orient_of l a b c)))

unfoldable pub four : List ℤ → ℕ → ℕ → ℕ → ℕ → List TwoSides
four l a b c d = one_if (not (flat_among l a b c d)) (split (terms4 l a b c d))

-- the last shot, the last two and so on from the ones that are fixed
unfoldable pub threes_with : List ℤ → ℕ → ℕ → List TwoSides
threes_with l a b = over (three l a b) (b + 1) (count_of l)

unfoldable pub threes_from : List ℤ → ℕ → List TwoSides
threes_from l a = over (threes_with l a) (a + 1) (count_of l)

unfoldable pub threes : List ℤ → List TwoSides
threes l = over (threes_from l) 0 (count_of l)

unfoldable pub fours_upon : List ℤ → ℕ → ℕ → ℕ → List TwoSides
fours_upon l a b c = over (four l a b c) (c + 1) (count_of l)

unfoldable pub fours_with : List ℤ → ℕ → ℕ → List TwoSides
fours_with l a b = over (fours_upon l a b) (b + 1) (count_of l)

unfoldable pub fours_from : List ℤ → ℕ → List TwoSides
fours_from l a = over (fours_with l a) (a + 1) (count_of l)

unfoldable pub fours : List ℤ → List TwoSides
fours l = over (fours_from l) 0 (count_of l)

unfoldable pub circuits_of : List ℤ → List TwoSides
circuits_of l = threes l ++ fours l

unfoldable pub shots_in : ℕ → TwoSides → List ℕ
shots_in n z = picks n (λ i. not (is_nought (sign_in z i)))

abbrev pub Before : List ℕ → List ℕ → Type 0
Before s t = (length s < length t) ⊎ ((length s ≡ length t) × Lex s t)
