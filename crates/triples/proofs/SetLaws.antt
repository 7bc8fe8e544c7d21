-- Two sets of triples taken together, word by word.
--
--   words-of                  the words of a set that a call takes, by what it knows of its argument (`c.well_formed`)
--   Bitwise op g              the operation op on words does g to each bit
--   and_bitwise, or_bitwise, less_bitwise    and, or, and with not
--   same_words                the test of words one by one is the test of lists
--   each_op                   the words of op of the words of two sets, one by one, are the set that g makes of them
--   changed_at                one word changed, the others as they were, one by one
use mathlib.Core.Path.{◌≡◌, refl, sym, ◌∙◌, ap, subst}
use mathlib.Core.Bool.{Bool, not, cond, ◌||◌, ◌&&◌}
use mathlib.Core.List.{List, [], ◌∷◌}
use Prim.Native.Nat.{ℕ, zero, suc, ◌-◌, ◌^◌, ◌<◌}
use native.Mathlib.Omega.{arith}
use native.Mathlib.Decide.{dec_lt, ℕ_discrete}
use lib.Bits.{bit_and, bit_or, and_lt, or_lt}
use lib.ListN.{length, length-set, set, get_or, get_or-eq_default}
use lib.Seq.{get_or-set_same, get_or-set_other}
use borrow.Author.Tests.{eq-eqb, ne_eqb}
use Rattle.std.proofs.lemmas.List.{ext_get_or}
use mir.Val.{Val}
use denote.Array.{each, array_val}
use denote.Builtin.{u64}
use denote.Shadow.{shadow}
use Rattle.algebra.specs.Sets.{bit, same_list}
use lib.Pointwise.{pointwise}
use lib.Dec.{eqb}
use Rattle.algebra.specs.Words.{word_bits, Words, member, sift}
use Rattle.algebra.specs.Loops.{tabulate}
use Rattle.algebra.proofs.LoopLaws.{length-tabulate, get_d_tabulate}
use Rattle.algebra.proofs.BitOps.{bit-and, bit-or, bit_not}
use Rattle.algebra.proofs.WordLaws.{combined}
use Rattle.triples.specs.Sizes.{word_count}
use Rattle.triples.specs.Sets.{words_of}
use Rattle.triples.specs.declared.Triples.{Triples}

-- an array of words, as a call knows it that takes one
each_word : (w : List ℕ) (vs : List Val) → shadow (each ℕ u64.own_val w vs) → (i : ℕ) → get_or w i 0 < 2 ^ word_bits
each_word [] vs s i = omega arith
each_word (x ∷ w) [] s i = absurd s
each_word (x ∷ w) (v ∷ vs) s zero = s.0.1
each_word (x ∷ w) (v ∷ vs) s (suc i) = each_word w vs s.1 i

pub words-of : (t : Triples) {P : List Val × Unit {0} → Type 0}
    → (x : List Val × Unit {0}) × (P x × (((vs : List Val) × ((x.0 ≡ array_val vs ∷ [] × length t.words ≡ word_count) × shadow (each ℕ u64.own_val t.words vs))) × Unit {0}))
    → Words word_count (words_of t)
words-of t h = (h.1.1.0.1.0.1, each_word t.words h.1.1.0.0 h.1.1.0.1.1)

-- ---- operations

pub record Bitwise (op : ℕ → ℕ → ℕ) (g : Bool → Bool → Bool) : Type 0 where
  pub low : (x y : ℕ) → x < 2 ^ word_bits → y < 2 ^ word_bits → op x y < 2 ^ word_bits
  pub bits : (x y j : ℕ) → x < 2 ^ word_bits → y < 2 ^ word_bits → j < word_bits → bit (op x y) j ≡ g (bit x j) (bit y j)

pub and_bitwise : Bitwise bit_and ◌&&◌
and_bitwise = record { low = λ x y h l. and_lt word_bits x y h l; bits = λ x y j h l u. bit-and x y j }

pub or_bitwise : Bitwise bit_or ◌||◌
or_bitwise = record { low = λ x y h l. or_lt word_bits x y h l; bits = λ x y j h l u. bit-or x y j }

pub less_bitwise : Bitwise (λ x y. bit_and x (2 ^ word_bits - 1 - y)) (λ a b. a && not b)
less_bitwise = record {
  low = λ x y h l. and_lt word_bits x (2 ^ word_bits - 1 - y) h (omega arith);
  bits = λ x y j h l u. bit-and x (2 ^ word_bits - 1 - y) j ∙ ap (λ (b : Bool). bit x j && b) (bit_not word_bits y j l u);
}

-- an array of an operation on the words of two sets, word by word
pub each_op : (k : ℕ) (op : ℕ → ℕ → ℕ) (g : Bool → Bool → Bool) (v w : List ℕ) → Bitwise op g → Words k v → Words k w
    → tabulate k (λ i. op (get_or v i 0) (get_or w i 0)) ≡ sift (length v) (λ r. g (member v r) (member w r))
each_op k op g v w b p q =
    combined k op g v w (tabulate k f) p q (length-tabulate f k, λ j. low j (dec_lt j k)) b.bits (λ j l. get_d_tabulate f k j 0 l) ∙ ap (λ (n : ℕ). sift n (λ r. g (member v r) (member w r))) (sym p.0)
  where
    f : ℕ → ℕ
    f i = op (get_or v i 0) (get_or w i 0)

    low : (j : ℕ) → Dec (j < k) → get_or (tabulate k f) j 0 < 2 ^ word_bits
    low j (yes l) = subst (λ (x : ℕ). x < 2 ^ word_bits) (sym (get_d_tabulate f k j 0 l)) (b.low (get_or v j 0) (get_or w j 0) (p.1 j) (q.1 j))
    low j (no l) = subst (λ (x : ℕ). x < 2 ^ word_bits) (sym (get_or-eq_default (tabulate k f) 0 {n = j} (let a = length-tabulate f k in omega arith))) (omega arith)

-- f changes word q
pub changed_at : (k : ℕ) (f : ℕ → ℕ) (w : List ℕ) (q : ℕ) → length w ≡ k → q < k → tabulate k (λ i. cond (eqb i q) (f (get_or w i 0)) (get_or w i 0)) ≡ set w q (f (get_or w q 0))
changed_at k f w q e h =
    ext_get_or 0 (tabulate k g) changed (length-tabulate g k ∙ sym (length-set w q (f (get_or w q 0)) ∙ e))
    (λ i l. get_d_tabulate g k i 0 (omega (arith, length-tabulate g k)) ∙ go i (ℕ_discrete i q))
  where
    g : ℕ → ℕ
    g i = cond (eqb i q) (f (get_or w i 0)) (get_or w i 0)

    changed : List ℕ
    changed = set w q (f (get_or w q 0))

    go : (i : ℕ) → Dec (i ≡ q) → g i ≡ get_or changed i 0
    go i (yes z) =
        ap (λ (b : Bool). cond b (f (get_or w i 0)) (get_or w i 0)) (eq-eqb i q z) ∙ ap (λ (j : ℕ). f (get_or w j 0)) z
        ∙ sym (get_or-set_same w q (f (get_or w q 0)) 0 (omega (arith, e))) ∙ ap (λ (j : ℕ). get_or changed j 0) (sym z)
    go i (no ne) = ap (λ (b : Bool). cond b (f (get_or w i 0)) (get_or w i 0)) (ne_eqb i q ne) ∙ sym (get_or-set_other w q i (f (get_or w q 0)) 0 ne)

-- ---- equality of words

pub same_words : (v w : List ℕ) → pointwise eqb v w ≡ same_list v w
unfolding same_list
same_words [] [] = refl
same_words [] (y ∷ w) = refl
same_words (x ∷ v) [] = refl
same_words (x ∷ v) (y ∷ w) = ap (λ (b : Bool). eqb x y && b) (same_words v w)
