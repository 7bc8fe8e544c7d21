-- What is asked of a list by the masks of its pieces, by its ranks. For a list w of pieces of k of n shots:
--
--   holds_decided    `holds` decides that the shots of one set are in another, for masks of sets
--   piece-set        the shots of the mask of a rank
--   pieces-any       a test of some piece; `pieces_none`: there is none
--   holders_count    how many pieces hold a mask; `face-any`: some piece does
use mathlib.Core.Path.{◌≡◌, refl, sym, ◌∙◌, ap}
use mathlib.Core.Bool.{Bool, true, false, cond, not, ◌&&◌}
use mathlib.Core.List.{List, [], ◌∷◌}
use Prim.Native.Nat.{ℕ, zero, suc, ◌+◌, ◌<◌, ◌≤◌}
use native.Mathlib.Omega.{arith}
use lib.Dec.{ltb, eqb}
use lib.ListN.{length, length-map, length-append}
use Rattle.algebra.specs.Answer.{Reflects}
use Rattle.algebra.specs.Loops.{any, any_of, picks, tally}
use Rattle.algebra.specs.Sets.{On, Within, mask_of, bit, set_of}
use Rattle.algebra.specs.Words.{member}
use Rattle.algebra.proofs.AnswerLaws.{reflects_agree, reflects_iff, reflects-not, reflects-and, reflects_stable, reflects_eqb, reflects_ltb}
use Rattle.algebra.proofs.LoopLaws.{reflects_test, reflects-any, any_of-map, any_of-picks, sum-map, sum-picks, tally_same, tally_some}
use Rattle.algebra.proofs.SetTests.{on_low, set_at}
use Rattle.algebra.proofs.BitLaws.{bit_mask}
use Rattle.algebra.proofs.MaskLaws.{set_of_mask}
use Rattle.shots.specs.Sizes.{mask_bits}
use Rattle.triples.specs.Ranks.{piece_count, piece_at}
use Rattle.triples.specs.Pieces.{piece_of, pieces_in, holds, holder_count, is_face}

pub holds_decided : (n : ℕ) (s t : List ℕ) → n ≤ mask_bits → Within 0 s n → Within 0 t n → Reflects ((i : ℕ) → On s i → On t i) (holds (mask_of s) (mask_of t))
unfolding holds
holds_decided n s t l v w = reflects_iff (into, out)
    (reflects-not (reflects-any Left _ mask_bits (λ i _. reflects-and (reflects_test (bit (mask_of s) i)) (reflects-not (reflects_test (bit (mask_of t) i))))))
  where
    Left : ℕ → Type 0
    Left i = (bit (mask_of s) i ≡ true) × (bit (mask_of t) i ≡ true → ⊥)

    into : ((i : ℕ) × (i < mask_bits) × Left i → ⊥) → (i : ℕ) → On s i → On t i
    into none i o = sym (bit_mask i n t w) ∙ reflects_stable (reflects_test (bit (mask_of t) i)) (λ off. none (i, let k = (on_low s 0 n i v o).1 in omega arith, (bit_mask i n s v ∙ o, off)))

    out : ((i : ℕ) → On s i → On t i) → (i : ℕ) × (i < mask_bits) × Left i → ⊥
    out h (i, _, (a, off)) = off (bit_mask i n t w ∙ h i (sym (bit_mask i n s v) ∙ a))

module _ (k n : ℕ) where
  pub piece-set : (r : ℕ) → r < piece_count k n → set_of n (piece_of k n r) ≡ piece_at k n r
  unfolding piece_of piece_count piece_at
  piece-set r l = set_of_mask n (piece_at k n r) (set_at k n r l).0

  module _ (w : List ℕ) where
    pub pieces-any : (f : ℕ → Bool) → any_of f (pieces_in k n w) ≡ any (piece_count k n) (λ r. member w r && f (piece_of k n r))
    unfolding pieces_in
    pieces-any f = any_of-map f (piece_of k n) (picks (piece_count k n) (member w)) ∙ any_of-picks (λ r. f (piece_of k n r)) (member w) (piece_count k n)

    pub pieces_none : eqb (length (pieces_in k n w)) 0 ≡ not (any (piece_count k n) (member w))
    unfolding pieces_in picks tally
    pieces_none = ap (λ (x : ℕ). eqb x 0) (length-map (picks (piece_count k n) (member w)) (piece_of k n)) ∙ none (piece_count k n)
      where
        counted : (m : ℕ) → length (picks m (member w)) ≡ tally m (λ r. cond (member w r) 1 0)
        counted zero = refl
        counted (suc m) = length-append (picks m (member w)) (cond (member w m) (m ∷ []) []) ∙ (λ x. counted m x + one (member w m) x)
          where
            one : (b : Bool) → length (cond b (m ∷ []) []) ≡ cond b 1 0
            one true = refl
            one false = refl

        none : (m : ℕ) → eqb (length (picks m (member w))) 0 ≡ not (any m (member w))
        none m = ap (λ (x : ℕ). eqb x 0) (counted m) ∙ reflects_agree {A = total ≡ 0} (reflects_eqb total 0)
            (rw (sym (tally_some (member w) m)) (reflects_iff (λ (q : 0 < total → ⊥). omega arith, λ (q : total ≡ 0) (l : 0 < total). omega arith) (reflects-not (reflects_ltb 0 total))))
          where
            total : ℕ
            total = tally m (λ r. cond (member w r) 1 0)

    module _ (x : ℕ) where
      pub holders_count : holder_count (pieces_in k n w) x ≡ tally (piece_count k n) (λ r. cond (member w r && holds x (piece_of k n r)) 1 0)
      unfolding pieces_in holder_count
      holders_count =
          sum-map (λ p. cond (holds x p) 1 0) (piece_of k n) (picks (piece_count k n) (member w)) ∙ sum-picks (λ r. cond (holds x (piece_of k n r)) 1 0) (member w) (piece_count k n)
          ∙ tally_same _ _ (piece_count k n) (λ r _. joined (member w r) (holds x (piece_of k n r)))
        where
          joined : (a b : Bool) → ◌≡◌ {A = ℕ} (cond a (cond b 1 0) 0) (cond (a && b) 1 0)
          joined true b = refl
          joined false b = refl

      pub face-any : is_face (pieces_in k n w) x ≡ any (piece_count k n) (λ r. member w r && holds x (piece_of k n r))
      face-any = ap (ltb 0) holders_count ∙ tally_some (λ r. member w r && holds x (piece_of k n r)) (piece_count k n)
