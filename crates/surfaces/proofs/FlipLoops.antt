-- How the loops of the flip put together a set of triples, and what the flip takes out of a list.
--
--   gathered k c f i    in k words, the numbers that pass c and, for some j below i, the test f at j
--   gathered_none, gathered_in, gathered_out, gathered_end    where such a loop begins, a turn that adds what passes, one with nothing to add, where it ends
--   less_covered        taking out what is in t and u is taking out t, where u has all that is in t and in the list
use Rattle.std.specs.Prelude.{◌≡◌, ℕ, ◌+◌, ◌*◌, ◌<◌, ◌≤◌, Bool, true, false, not, ◌&&◌, ◌||◌, List, length, replicate}
use mathlib.Core.Path.{refl, sym, ◌∙◌, ap}
use mathlib.Core.Bool.{or-false, and-false, and-or_distrib_left}
use native.Mathlib.Omega.{arith}
use native.Mathlib.Numerals.{add-one}
use Rattle.algebra.specs.Loops.{any}
use Rattle.algebra.specs.Words.{word_bits, Words, member, sift, both_of, either_of, less_of, inside_of}
use Rattle.algebra.proofs.AnswerLaws.{reflects_yes}
use Rattle.algebra.proofs.LoopLaws.{any_none, any_last}
use Rattle.algebra.proofs.WordLaws.{sift_words, member-sift, sift_same, both_words}
use Rattle.triples.proofs.SiftLaws.{none_sifted}
use Rattle.algebra.proofs.WordLaws.{both-member, inside_at}

abbrev pub gathered : ℕ → (ℕ → Bool) → (ℕ → ℕ → Bool) → ℕ → List ℕ
gathered k c f i = sift k (λ r. c r && any i (f r))

module _ (k : ℕ) (c : ℕ → Bool) (f : ℕ → ℕ → Bool) where
  pub gathered_none : replicate k 0 ≡ gathered k c f 0
  gathered_none = none_sifted k (λ r. c r && any 0 (f r)) (λ r l. ap (λ (b : Bool). c r && b) (any_none (f r)) ∙ and-false (c r))

  one_more : (i r : ℕ) → (any i (f r) || f r i) ≡ any (i + 1) (f r)
  one_more i r = rw add-one (sym (any_last (f r) i))

  pub gathered_in : (i : ℕ) (w : List ℕ) {t u : List ℕ} → ((r : ℕ) → r < word_bits * k → member w r ≡ (c r && f r i)) → t ≡ gathered k c f i → u ≡ either_of t w → u ≡ gathered k c f (i + 1)
  unfolding either_of
  gathered_in i w q p e =
      e ∙ ap (λ (v : List ℕ). either_of v w) p
      ∙ ap (λ (n : ℕ). sift n (λ r. member (gathered k c f i) r || member w r)) (sift_words k (λ r. c r && any i (f r))).0
      ∙ sift_same k (λ r. member (gathered k c f i) r || member w r) (λ r. c r && any (i + 1) (f r))
      (λ r l. (λ j. member-sift k (λ s. c s && any i (f s)) r l j || q r l j)
      ∙ sym (and-or_distrib_left (c r) (any i (f r)) (f r i)) ∙ ap (λ (b : Bool). c r && b) (one_more i r))

  pub gathered_out : (i : ℕ) {t : List ℕ} → ((r : ℕ) → f r i ≡ false) → t ≡ gathered k c f i → t ≡ gathered k c f (i + 1)
  gathered_out i q p =
      p ∙ sift_same k (λ r. c r && any i (f r)) (λ r. c r && any (i + 1) (f r))
      (λ r l. ap (λ (b : Bool). c r && b) (sym (or-false (any i (f r))) ∙ ap (λ (b : Bool). any i (f r) || b) (sym (q r)) ∙ one_more i r))

  pub gathered_end : (i m : ℕ) {t : List ℕ} → i ≤ m → m ≤ i → t ≡ gathered k c f i → t ≡ gathered k c f m
  gathered_end i m h l p = p ∙ ap (gathered k c f) (let e : i ≡ m = omega arith in e)

pub less_covered : (k : ℕ) (t u w : List ℕ) → Words k t → inside_of (both_of t w) u ≡ true → less_of w (both_of t u) ≡ less_of w t
unfolding less_of
less_covered k t u w v h =
    sift_same (length w) (λ r. member w r && not (member (both_of t u) r)) (λ r. member w r && not (member t r)) (λ r l. go r (member t r) (member w r) refl refl)
  where
    covered : (r : ℕ) → member t r ≡ true → member w r ≡ true → member u r ≡ true
    covered r p q = reflects_yes (inside_at k (both_of t w) u (both_words k t w v)) h r (both-member k t w v r ∙ rw (p, q) refl)

    go : (r : ℕ) (a b : Bool) → member t r ≡ a → member w r ≡ b → (member w r && not (member (both_of t u) r)) ≡ (member w r && not (member t r))
    go r true true p q = rw (both-member k t u v r, p, q, covered r p q) refl
    go r false b p q = rw (both-member k t u v r, p) refl
    go r true false p q = rw q refl
