-- The inner triples of pairs of shots.
--
--   inner_border, inner_both    of a border pair there are none; of another pair they are the triples that hold both shots
use Rattle.std.specs.Prelude.{◌≡◌, ℕ, Bool, true, false, not, ◌&&◌, List, replicate, ℤ}
use mathlib.Core.Path.{refl, sym, ◌∙◌, ap}
use Rattle.algebra.specs.Sets.{is_on}
use Rattle.algebra.specs.Words.{both_of}
use Rattle.algebra.proofs.WordLaws.{sift_same}
use Rattle.shots.specs.Patch.{count_of, border_of}
use Rattle.triples.specs.Sizes.{word_count}
use Rattle.triples.specs.Ranks.{triple_at}
use Rattle.triples.specs.Sets.{holders_of}
use Rattle.lists.specs.Held.{inner_of}
use Rattle.triples.proofs.SiftLaws.{none_sifted, both_sifted}

module _ (l : List ℤ) (i j : ℕ) where
  pub inner_border : border_of l i j ≡ true → replicate word_count 0 ≡ inner_of l i j
  unfolding inner_of
  inner_border e = none_sifted word_count _ (λ r h. ap (λ (b : Bool). not b && (is_on i (triple_at (count_of l) r) && is_on j (triple_at (count_of l) r))) e)

  pub inner_both : border_of l i j ≡ false → both_of (holders_of (count_of l) i) (holders_of (count_of l) j) ≡ inner_of l i j
  unfolding inner_of holders_of
  inner_both e =
      both_sifted word_count (λ r. is_on i (triple_at (count_of l) r)) (λ r. is_on j (triple_at (count_of l) r)) refl refl refl
      ∙ sift_same word_count _ _ (λ r h. ap (λ (b : Bool). not b && (is_on i (triple_at (count_of l) r) && is_on j (triple_at (count_of l) r))) (sym e))
