-- How many circuits a patch can have.
--
--   circuits_few           no more than there are sets of three and of four shots
--   candidates_most        at most 330 of those for a patch of ten shots or fewer
--   circuits-most          so at most 330 circuits
use Rattle.std.specs.Prelude.{ℕ, ◌≤◌, Bool, true, false, not, List, [], ◌∷◌, length, ℤ}
use native.Mathlib.Omega.{arith}
use native.Mathlib.Nat.{le_trans}
use lib.ListN.{length-append}
use Rattle.algebra.specs.Sign.{is_nought}
use Rattle.algebra.specs.Sets.{sets_of}
use Rattle.algebra.specs.Places.{choose}
use Rattle.algebra.proofs.SetLaws.{nest-length}
use Rattle.algebra.proofs.ChooseLaws.{choose_grows}
use Rattle.algebra.proofs.PlaceLaws.{sets_count}
use Rattle.shots.specs.Sizes.{shots_most}
use Rattle.shots.specs.Patch.{count_of, orient_of}
use Rattle.circuits.specs.Sizes.{circuits_most, candidates}
use Rattle.circuits.specs.Sides.{TwoSides, split}
use Rattle.circuits.proofs.Sources.{three_of, four_of, threes-nest, fours-nest}
use Rattle.circuits.specs.Numbering.{one_if, terms3, terms4, flat_among, three, four, threes, fours, circuits_of}

-- one circuit at most
one_or_none : (b : Bool) (z : TwoSides) → length (one_if b z) ≤ 1
unfolding one_if
one_or_none true z = omega arith
one_or_none false z = omega arith

module _ (l : List ℤ) where
  three_most : (s : List ℕ) → length (three_of l s) ≤ 1
  unfolding three
  three_most [] = omega arith
  three_most (a ∷ []) = omega arith
  three_most (a ∷ b ∷ []) = omega arith
  three_most (a ∷ b ∷ c ∷ []) = one_or_none (is_nought (orient_of l a b c)) (split (terms3 l a b c))
  three_most (a ∷ b ∷ c ∷ d ∷ s) = omega arith

  four_most : (s : List ℕ) → length (four_of l s) ≤ 1
  unfolding four
  four_most [] = omega arith
  four_most (a ∷ []) = omega arith
  four_most (a ∷ b ∷ []) = omega arith
  four_most (a ∷ b ∷ c ∷ []) = omega arith
  four_most (a ∷ b ∷ c ∷ d ∷ []) = one_or_none (not (flat_among l a b c d)) (split (terms4 l a b c d))
  four_most (a ∷ b ∷ c ∷ d ∷ e ∷ s) = omega arith

  threes_few : length (threes l) ≤ length (sets_of 3 (count_of l))
  threes_few = rw (threes-nest l) (nest-length 3 (three_of l) (λ s. s ∷ []) 0 (count_of l) three_most)

  fours_few : length (fours l) ≤ length (sets_of 4 (count_of l))
  fours_few = rw (fours-nest l) (nest-length 4 (four_of l) (λ s. s ∷ []) 0 (count_of l) four_most)

  pub circuits_few : length (circuits_of l) ≤ candidates (count_of l)
  unfolding circuits_of candidates
  circuits_few = omega (arith, length-append (threes l) (fours l), length-append (sets_of 3 (count_of l)) (sets_of 4 (count_of l)), threes_few, fours_few)

pub candidates_most : (n : ℕ) → n ≤ shots_most → candidates n ≤ circuits_most
unfolding candidates choose
candidates_most n h = omega (arith, length-append (sets_of 3 n) (sets_of 4 n), sets_count 3 n, sets_count 4 n, choose_grows n shots_most 3 h, choose_grows n shots_most 4 h)

pub circuits-most : (l : List ℤ) → count_of l ≤ shots_most → length (circuits_of l) ≤ circuits_most
circuits-most l h = le_trans (circuits_few l) (candidates_most (count_of l) h)
