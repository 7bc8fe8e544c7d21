-- Laws of sets of numbers as bits in words, over any number k of words.
--
--   bit-member, member_past      bit j of word i is number 64 i + j; nothing is in the set past its words
--   rest_of w r                   what is left of the word that holds number r, from r on
--   rest_none, rest_lowest       nothing is in it; its lowest bit is the next member
--   words_same, same_members     sets with the same members are the same words
--   sift_words, member-sift, sift_same, sift-member    the set of the numbers that pass a test
--   put_words, member-put, put_here, put_other         a number put in
--   take_words, member-take, take_here, take_other     a number taken out
--   both_words, either_words, less_words, member_both, member_either, member_less    sets made of two
--   meets_reflects, inside_reflects, alone_reflects    the tests decide what they say
--   sift_all, both-member, meets_at, inside_at         the same with no bound on the numbers
--   misses_either                what meets no number of two sets together meets none of either
--   combined, meets_words, inside_words                the same word by word, as the loops of the code go
--   row-length, row_at, row_same, row_other, row_behind, set_row-length     rows of a table; the words behind a row that is written
--   row_whole                    k words, read as the first row of rows of k words, are those words
--   row-only                     k words, written over k words, are what stands there
use mathlib.Core.Path.{◌≡◌, refl, sym, ◌∙◌, ap, subst}
use mathlib.Core.Logic.{◌↔◌}
use mathlib.Core.Bool.{Bool, true, false, not, ◌||◌, ◌&&◌, true≢false, false≢true, or-true, or-false, and-true, and-false, not-not}
use mathlib.Core.List.{List}
use Prim.Native.Nat.{ℕ, zero, suc, ◌+◌, ◌-◌, ◌*◌, ◌/◌, ◌%◌, ◌^◌, ◌<◌, ◌≤◌}
use native.Mathlib.Omega.{arith}
use native.Mathlib.Nat.{not-suc-le-zero, mul-le-mul_left}
use native.Mathlib.Decide.{dec_lt, ℕ_discrete}
use lib.Dec.{eqb}
use lib.Bits.{bit_and, and_lt}
use lib.Count.{count_trailing_zeros}
use lib.Pow.{shr_le}
use lib.ListN.{length, get_or, set, length-set, get_or-eq_default}
use lib.Seq.{ext_get_or, set_out, get_or-set_same, get_or-set_other}
use borrow.Author.Tests.{lt-ltb, eq-eqb, ne_eqb}
use Rattle.algebra.specs.Answer.{Reflects}
use Rattle.algebra.specs.Loops.{any, every, fold, picks, tabulate}
use Rattle.algebra.specs.Sets.{bit, mask_of}
use Rattle.algebra.specs.Words.{word_bits, set_bit, clear_bit, Words, member, put_in, take_out, sift, both_of, either_of, less_of, meets_of, inside_of, alone_of, row_of, set_row}
use Rattle.algebra.proofs.AnswerLaws.{reflects_no, reflects_false, reflects_iff, reflects-not, reflects-and}
use Rattle.algebra.proofs.LoopLaws.{and_parts, any_none, any_same, any_last, any-add, every_same, every-not, reflects-any, reflects_test, reflects_lone}
use Rattle.algebra.proofs.LoopLaws.{length-tabulate, get_d_tabulate, tabulate_same}
use Rattle.algebra.proofs.SetTests.{is_on-picks, picks_within}
use Rattle.algebra.proofs.BitLaws.{mask_below, bit_mask}
use Rattle.algebra.proofs.BitOps.{bit-and, bits_same, bit_high, bit_none, bit_shift, lowest-bit, bit-set, bit_clear, set_low, clear_low, zero_bits, inside_bits}

-- ---- members by word and bit

pub bit-member : (w : List ℕ) (i j : ℕ) → j < word_bits → bit (get_or w i 0) j ≡ member w (word_bits * i + j)
unfolding member
bit-member w i j h = λ k. bit (get_or w (word k) 0) (place k)
  where
    word : i ≡ (word_bits * i + j) / word_bits
    word = omega arith

    place : j ≡ (word_bits * i + j) % word_bits
    place = omega arith

pub member_past : (w : List ℕ) (r : ℕ) → word_bits * length w ≤ r → member w r ≡ false
unfolding member
member_past w r h = ap (λ (x : ℕ). bit x (r % word_bits)) (get_or-eq_default w 0 {n = r / word_bits} (omega arith)) ∙ bit_none (r % word_bits)

-- ---- from one member to the next

-- what is left of the word that holds the number r, from r on
abbrev pub rest_of : List ℕ → ℕ → ℕ
rest_of w r = get_or w (r / word_bits) 0 / 2 ^ (r % word_bits)

module _ (w : List ℕ) (r : ℕ) where
  rest-member : (j : ℕ) → r % word_bits + j < word_bits → bit (rest_of w r) j ≡ member w (r + j)
  rest-member j h =
      bit_shift (get_or w (r / word_bits) 0) (r % word_bits) j ∙ bit-member w (r / word_bits) (r % word_bits + j) h
      ∙ ap (member w) (let e : word_bits * (r / word_bits) + (r % word_bits + j) ≡ r + j = omega arith in e)

  -- up to the number i, which is in the same word
  rest_at : (i : ℕ) → r ≤ i → i < word_bits * (r / word_bits + 1) → member w i ≡ bit (rest_of w r) (i - r)
  rest_at i h l = ap (member w) (let e : i ≡ r + (i - r) = omega arith in e) ∙ sym (rest-member (i - r) (omega arith))

  pub rest_none : rest_of w r ≡ 0 → (i : ℕ) → r ≤ i → i < word_bits * (r / word_bits + 1) → member w i ≡ false
  rest_none e i h l = rest_at i h l ∙ ap (λ (x : ℕ). bit x (i - r)) e ∙ bit_none (i - r)

  pub rest_lowest : get_or w (r / word_bits) 0 < 2 ^ word_bits → (rest_of w r ≡ 0 → ⊥)
      → let t = count_trailing_zeros word_bits (rest_of w r) in (member w (r + t) ≡ true) × ((i : ℕ) → r ≤ i → i < r + t → member w i ≡ false)
  rest_lowest v ne = (sym (rest-member t inside) ∙ low.1, λ i h l. rest_at i h (omega (arith, inside)) ∙ low.2 (i - r) (omega arith))
    where
      t : ℕ
      t = count_trailing_zeros word_bits (rest_of w r)

      low : (t < word_bits) × (bit (rest_of w r) t ≡ true) × ((j : ℕ) → j < t → bit (rest_of w r) j ≡ false)
      low = lowest-bit word_bits (rest_of w r) (omega (arith, shr_le (get_or w (r / word_bits) 0) (r % word_bits))) ne

      inside : r % word_bits + t < word_bits
      inside = go (dec_lt (r % word_bits + t) word_bits)
        where
          go : Dec (r % word_bits + t < word_bits) → r % word_bits + t < word_bits
          go (yes l) = l
          go (no l) = absurd (true≢false (sym low.1 ∙ bit_shift (get_or w (r / word_bits) 0) (r % word_bits) t ∙ bit_high word_bits (get_or w (r / word_bits) 0) (r % word_bits + t) v (omega arith)))

-- ---- sets with the same members

pub words_same : (k : ℕ) (v w : List ℕ) → Words k v → Words k w → ((r : ℕ) → r < word_bits * k → member v r ≡ member w r) → v ≡ w
words_same k v w p q h =
    ext_get_or 0 v w (p.0 ∙ sym q.0)
    (λ i l. bits_same word_bits (get_or v i 0) (get_or w i 0) (p.1 i) (q.1 i) (λ j u. bit-member v i j u ∙ h (word_bits * i + j) (let e = p.0 in omega arith) ∙ sym (bit-member w i j u)))

pub same_members : (k m : ℕ) (v w : List ℕ) → Words k v → Words k w → ((r : ℕ) → m ≤ r → member v r ≡ false) → ((r : ℕ) → m ≤ r → member w r ≡ false)
    → (v ≡ w) ↔ ((r : ℕ) → r < m → member v r ≡ member w r)
same_members k m v w p q f g = (λ e r l. ap (λ (u : List ℕ). member u r) e, λ h. words_same k v w p q (λ r l. at h r (dec_lt r m)))
  where
    at : ((r : ℕ) → r < m → member v r ≡ member w r) → (r : ℕ) → Dec (r < m) → member v r ≡ member w r
    at h r (yes l) = h r l
    at h r (no l) = f r (omega arith) ∙ sym (g r (omega arith))

-- ---- the numbers that pass

pub sift_words : (k : ℕ) (f : ℕ → Bool) → Words k (sift k f)
unfolding sift
sift_words k f = (length-tabulate word k, λ i. low i (dec_lt i k))
  where
    word : ℕ → ℕ
    word i = mask_of (picks word_bits (λ b. f (word_bits * i + b)))

    low : (i : ℕ) → Dec (i < k) → get_or (tabulate k word) i 0 < 2 ^ word_bits
    low i (yes l) =
        subst (λ (x : ℕ). x < 2 ^ word_bits) (sym (get_d_tabulate word k i 0 l))
        (mask_below word_bits (picks word_bits (λ b. f (word_bits * i + b))) (picks_within (λ b. f (word_bits * i + b)) word_bits))
    low i (no l) = subst (λ (x : ℕ). x < 2 ^ word_bits) (sym (get_or-eq_default (tabulate k word) 0 {n = i} (let e = length-tabulate word k in omega arith))) (omega arith)

pub member-sift : (k : ℕ) (f : ℕ → Bool) (r : ℕ) → r < word_bits * k → member (sift k f) r ≡ f r
unfolding member sift
member-sift k f r h =
    ap (λ (x : ℕ). bit x (r % word_bits)) (get_d_tabulate (λ i. mask_of (picks word_bits (λ b. f (word_bits * i + b)))) k (r / word_bits) 0 (omega arith))
    ∙ bit_mask (r % word_bits) word_bits (picks word_bits test) (picks_within test word_bits) ∙ is_on-picks test word_bits (r % word_bits)
    ∙ ap (λ (b : Bool). b && test (r % word_bits)) (lt-ltb (r % word_bits) word_bits (omega arith)) ∙ ap f (let e : word_bits * (r / word_bits) + r % word_bits ≡ r = omega arith in e)
  where
    test : ℕ → Bool
    test b = f (word_bits * (r / word_bits) + b)

pub sift_same : (k : ℕ) (f g : ℕ → Bool) → ((r : ℕ) → r < word_bits * k → f r ≡ g r) → sift k f ≡ sift k g
sift_same k f g h = words_same k (sift k f) (sift k g) (sift_words k f) (sift_words k g) (λ r l. member-sift k f r l ∙ h r l ∙ sym (member-sift k g r l))

pub sift-member : (k : ℕ) (w : List ℕ) → Words k w → sift k (member w) ≡ w
sift-member k w v = words_same k (sift k (member w)) w (sift_words k (member w)) v (member-sift k (member w))

-- ---- one number put in, taken out

set_words : (k : ℕ) (w : List ℕ) (q x : ℕ) → Words k w → x < 2 ^ word_bits → Words k (set w q x)
set_words k w q x v h = (length-set w q x ∙ v.0, λ i. low i (ℕ_discrete i q) (dec_lt q (length w)))
  where
    low : (i : ℕ) → Dec (i ≡ q) → Dec (q < length w) → get_or (set w q x) i 0 < 2 ^ word_bits
    low i (no ne) d = subst (λ (y : ℕ). y < 2 ^ word_bits) (sym (get_or-set_other w q i x 0 ne)) (v.1 i)
    low i (yes e) (no l) = subst (λ (u : List ℕ). get_or u i 0 < 2 ^ word_bits) (sym (set_out w q x (omega arith))) (v.1 i)
    low i (yes e) (yes l) = subst (λ (y : ℕ). y < 2 ^ word_bits) (sym (ap (λ (j : ℕ). get_or (set w q x) j 0) e ∙ get_or-set_same w q x 0 l)) h

-- two numbers of one word are the same where their bits are
same_bit : (r s : ℕ) → s / word_bits ≡ r / word_bits → eqb (s % word_bits) (r % word_bits) ≡ eqb s r
same_bit r s e = go (ℕ_discrete s r)
  where
    go : Dec (s ≡ r) → eqb (s % word_bits) (r % word_bits) ≡ eqb s r
    go (yes q) = eq-eqb (s % word_bits) (r % word_bits) (omega arith) ∙ sym (eq-eqb s r q)
    go (no q) = ne_eqb (s % word_bits) (r % word_bits) (λ z. q (omega arith)) ∙ sym (ne_eqb s r q)

pub put_words : (k : ℕ) (w : List ℕ) (r : ℕ) → Words k w → Words k (put_in w r)
unfolding put_in
put_words k w r v = set_words k w (r / word_bits) (set_bit (get_or w (r / word_bits) 0) (r % word_bits)) v (set_low word_bits (get_or w (r / word_bits) 0) (r % word_bits) (omega arith) (v.1 (r / word_bits)))

pub take_words : (k : ℕ) (w : List ℕ) (r : ℕ) → Words k w → Words k (take_out w r)
unfolding take_out
take_words k w r v = set_words k w (r / word_bits) (clear_bit (get_or w (r / word_bits) 0) (r % word_bits)) v (clear_low word_bits (get_or w (r / word_bits) 0) (r % word_bits) (v.1 (r / word_bits)))

-- one word replaced: its members, and the others
set_here : (w : List ℕ) (q x s : ℕ) → q < length w → s / word_bits ≡ q → member (set w q x) s ≡ bit x (s % word_bits)
unfolding member
set_here w q x s h e = ap (λ (i : ℕ). bit (get_or (set w q x) i 0) (s % word_bits)) e ∙ ap (λ (y : ℕ). bit y (s % word_bits)) (get_or-set_same w q x 0 h)

set_else : (w : List ℕ) (q x s : ℕ) → (s / word_bits ≡ q → ⊥) → member (set w q x) s ≡ member w s
unfolding member
set_else w q x s ne = ap (λ (y : ℕ). bit y (s % word_bits)) (get_or-set_other w q (s / word_bits) x 0 ne)

member_here : (w : List ℕ) (q s : ℕ) → s / word_bits ≡ q → member w s ≡ bit (get_or w q 0) (s % word_bits)
unfolding member
member_here w q s e = ap (λ (i : ℕ). bit (get_or w i 0) (s % word_bits)) e

elsewhere : (r s : ℕ) → (s / word_bits ≡ r / word_bits → ⊥) → eqb s r ≡ false
elsewhere r s ne = ne_eqb s r (λ e. ne (ap (λ (y : ℕ). y / word_bits) e))

pub member-put : (k : ℕ) (w : List ℕ) (r s : ℕ) → Words k w → r < word_bits * k → member (put_in w r) s ≡ (member w s || eqb s r)
unfolding put_in
member-put k w r s v h = go (ℕ_discrete (s / word_bits) (r / word_bits))
  where
    go : Dec (s / word_bits ≡ r / word_bits) → member (set w (r / word_bits) (set_bit (get_or w (r / word_bits) 0) (r % word_bits))) s ≡ (member w s || eqb s r)
    go (yes e) =
        set_here w (r / word_bits) (set_bit (get_or w (r / word_bits) 0) (r % word_bits)) s (let l = v.0 in omega arith) e ∙ bit-set (get_or w (r / word_bits) 0) (r % word_bits) (s % word_bits)
        ∙ (λ k. sym (member_here w (r / word_bits) s e) k || same_bit r s e k)
    go (no ne) = set_else w (r / word_bits) (set_bit (get_or w (r / word_bits) 0) (r % word_bits)) s ne ∙ sym (or-false (member w s)) ∙ ap (λ (b : Bool). member w s || b) (sym (elsewhere r s ne))

pub put_here : (k : ℕ) (w : List ℕ) (r : ℕ) → Words k w → r < word_bits * k → member (put_in w r) r ≡ true
put_here k w r v h = member-put k w r r v h ∙ ap (λ (b : Bool). member w r || b) (eq-eqb r r refl) ∙ or-true (member w r)

pub put_other : (k : ℕ) (w : List ℕ) (r s : ℕ) → Words k w → r < word_bits * k → (s ≡ r → ⊥) → member (put_in w r) s ≡ member w s
put_other k w r s v h ne = member-put k w r s v h ∙ ap (λ (b : Bool). member w s || b) (ne_eqb s r ne) ∙ or-false (member w s)

pub member-take : (k : ℕ) (w : List ℕ) (r s : ℕ) → Words k w → r < word_bits * k → member (take_out w r) s ≡ (member w s && not (eqb s r))
unfolding take_out
member-take k w r s v h = go (ℕ_discrete (s / word_bits) (r / word_bits))
  where
    go : Dec (s / word_bits ≡ r / word_bits) → member (set w (r / word_bits) (clear_bit (get_or w (r / word_bits) 0) (r % word_bits))) s ≡ (member w s && not (eqb s r))
    go (yes e) =
        set_here w (r / word_bits) (clear_bit (get_or w (r / word_bits) 0) (r % word_bits)) s (let l = v.0 in omega arith) e ∙ bit_clear (get_or w (r / word_bits) 0) (r % word_bits) (s % word_bits)
        ∙ (λ k. sym (member_here w (r / word_bits) s e) k && not (same_bit r s e k))
    go (no ne) = set_else w (r / word_bits) (clear_bit (get_or w (r / word_bits) 0) (r % word_bits)) s ne ∙ sym (and-true (member w s)) ∙ ap (λ (b : Bool). member w s && not b) (sym (elsewhere r s ne))

pub take_here : (k : ℕ) (w : List ℕ) (r : ℕ) → Words k w → r < word_bits * k → member (take_out w r) r ≡ false
take_here k w r v h = member-take k w r r v h ∙ ap (λ (b : Bool). member w r && not b) (eq-eqb r r refl) ∙ and-false (member w r)

pub take_other : (k : ℕ) (w : List ℕ) (r s : ℕ) → Words k w → r < word_bits * k → (s ≡ r → ⊥) → member (take_out w r) s ≡ member w s
take_other k w r s v h ne = member-take k w r s v h ∙ ap (λ (b : Bool). member w s && not b) (ne_eqb s r ne) ∙ and-true (member w s)

-- ---- sets made of two

pub both_words : (k : ℕ) (v w : List ℕ) → Words k v → Words k (both_of v w)
unfolding both_of
both_words k v w p = subst (λ (n : ℕ). Words n (sift (length v) (λ r. member v r && member w r))) p.0 (sift_words (length v) (λ r. member v r && member w r))

pub either_words : (k : ℕ) (v w : List ℕ) → Words k v → Words k (either_of v w)
unfolding either_of
either_words k v w p = subst (λ (n : ℕ). Words n (sift (length v) (λ r. member v r || member w r))) p.0 (sift_words (length v) (λ r. member v r || member w r))

pub less_words : (k : ℕ) (v w : List ℕ) → Words k v → Words k (less_of v w)
unfolding less_of
less_words k v w p = subst (λ (n : ℕ). Words n (sift (length v) (λ r. member v r && not (member w r)))) p.0 (sift_words (length v) (λ r. member v r && not (member w r)))

pub member_both : (v w : List ℕ) (r : ℕ) → r < word_bits * length v → member (both_of v w) r ≡ (member v r && member w r)
unfolding both_of
member_both v w r h = member-sift (length v) (λ s. member v s && member w s) r h

pub member_either : (v w : List ℕ) (r : ℕ) → r < word_bits * length v → member (either_of v w) r ≡ (member v r || member w r)
unfolding either_of
member_either v w r h = member-sift (length v) (λ s. member v s || member w s) r h

pub member_less : (v w : List ℕ) (r : ℕ) → r < word_bits * length v → member (less_of v w) r ≡ (member v r && not (member w r))
unfolding less_of
member_less v w r h = member-sift (length v) (λ s. member v s && not (member w s)) r h

-- ---- tests

pub meets_reflects : (v w : List ℕ) → Reflects ((r : ℕ) × (r < word_bits * length v) × (member v r ≡ true) × (member w r ≡ true)) (meets_of v w)
unfolding meets_of
meets_reflects v w =
    reflects_iff (λ q. (q.0, q.1, q.2.0, q.2.1), λ q. (q.0, q.1, (q.2, q.3)))
    (reflects-any (λ r. (member v r ≡ true) × (member w r ≡ true)) (λ r. member v r && member w r) (word_bits * length v)
    (λ r l. reflects-and (reflects_test (member v r)) (reflects_test (member w r))))

pub inside_reflects : (v w : List ℕ) → Reflects ((r : ℕ) → r < word_bits * length v → member v r ≡ true → member w r ≡ true) (inside_of v w)
unfolding inside_of
inside_reflects v w =
    reflects_iff (into, λ h q. q.2.1 (h q.0 q.1 q.2.0))
    (reflects-not (reflects-any (λ r. (member v r ≡ true) × (member w r ≡ true → ⊥)) (λ r. member v r && not (member w r)) (word_bits * length v)
    (λ r l. reflects-and (reflects_test (member v r)) (reflects-not (reflects_test (member w r))))))
  where
    into : ((r : ℕ) × (r < word_bits * length v) × ((member v r ≡ true) × (member w r ≡ true → ⊥)) → ⊥) → (r : ℕ) → r < word_bits * length v → member v r ≡ true → member w r ≡ true
    into h r l e = go (member w r) refl
      where
        go : (b : Bool) → member w r ≡ b → b ≡ true
        go true q = refl
        go false q = absurd (h (r, l, (e, λ z. false≢true (sym q ∙ z))))

pub alone_reflects : (v : List ℕ)
    → Reflects ((r : ℕ) × (r < word_bits * length v) × (member v r ≡ true) × ((s : ℕ) → s < word_bits * length v → member v s ≡ true → s ≡ r)) (alone_of v)
unfolding alone_of
alone_reflects v = reflects_lone (member v) (word_bits * length v)

-- ---- with no bound on the numbers

words_low : (k : ℕ) (u : List ℕ) (r : ℕ) → Words k u → member u r ≡ true → r < word_bits * k
words_low k u r v m = go (dec_lt r (word_bits * k))
  where
    go : Dec (r < word_bits * k) → r < word_bits * k
    go (yes h) = h
    go (no h) = absurd (true≢false (sym m ∙ member_past u r (let e = v.0 in omega arith)))

pub sift_all : (k : ℕ) (f : ℕ → Bool) → ((r : ℕ) → f r ≡ true → r < word_bits * k) → (r : ℕ) → member (sift k f) r ≡ f r
sift_all k f h r = go (dec_lt r (word_bits * k)) (f r) refl
  where
    go : Dec (r < word_bits * k) → (b : Bool) → f r ≡ b → member (sift k f) r ≡ f r
    go (yes l) b e = member-sift k f r l
    go (no l) true e = absurd (l (h r e))
    go (no l) false e = member_past (sift k f) r (let e = (sift_words k f).0 in omega arith) ∙ sym e

module _ (k : ℕ) (u w : List ℕ) (v : Words k u) where
  pub both-member : (r : ℕ) → member (both_of u w) r ≡ (member u r && member w r)
  unfolding both_of
  both-member r = sift_all (length u) (λ s. member u s && member w s) (λ s e. words_low (length u) u s (refl, v.1) (and_parts (member u s) (member w s) e).0) r

  pub meets_at : Reflects ((r : ℕ) × (member u r ≡ true) × (member w r ≡ true)) (meets_of u w)
  meets_at = reflects_iff (λ q. (q.0, q.2, q.3), λ q. (q.0, words_low (length u) u q.0 (refl, v.1) q.1, q.1, q.2)) (meets_reflects u w)

  pub inside_at : Reflects ((r : ℕ) → member u r ≡ true → member w r ≡ true) (inside_of u w)
  inside_at = reflects_iff (λ h r e. h r (words_low (length u) u r (refl, v.1) e) e, λ h r l e. h r e) (inside_reflects u w)

pub misses_either : (k : ℕ) (u v w : List ℕ) → Words k u → Words k v → meets_of (either_of u v) w ≡ false → (meets_of u w ≡ false) × (meets_of v w ≡ false)
misses_either k u v w p q e = (part u p (λ r m. ap (λ (b : Bool). b || member v r) m), part v q (λ r m. ap (λ (b : Bool). member u r || b) m ∙ or-true (member u r)))
  where
    part : (t : List ℕ) → Words k t → ((r : ℕ) → member t r ≡ true → (member u r || member v r) ≡ true) → meets_of t w ≡ false
    part t x into =
        reflects_false (meets_at k t w x)
        (λ m. reflects_no (meets_at k (either_of u v) w (either_words k u v p)) e
        (m.0, member_either u v m.0 (let l = words_low k t m.0 x m.1 in let c = p.0 in omega arith) ∙ into m.0 m.1, m.2))

-- ---- word by word

-- an operation on words that goes bit by bit makes the set that goes member by member
pub combined : (k : ℕ) (op : ℕ → ℕ → ℕ) (g : Bool → Bool → Bool) (v w u : List ℕ) → Words k v → Words k w → Words k u
    → ((x y j : ℕ) → x < 2 ^ word_bits → y < 2 ^ word_bits → j < word_bits → bit (op x y) j ≡ g (bit x j) (bit y j))
    → ((i : ℕ) → i < k → get_or u i 0 ≡ op (get_or v i 0) (get_or w i 0)) → u ≡ sift k (λ r. g (member v r) (member w r))
combined k op g v w u p q s f h =
    words_same k u (sift k (λ r. g (member v r) (member w r))) s (sift_words k (λ r. g (member v r) (member w r)))
    (λ r l. at r l ∙ sym (member-sift k (λ t. g (member v t) (member w t)) r l))
  where
    at : (r : ℕ) → r < word_bits * k → member u r ≡ g (member v r) (member w r)
    at r l =
        member_here u (r / word_bits) r refl ∙ ap (λ (x : ℕ). bit x (r % word_bits)) (h (r / word_bits) (omega arith))
        ∙ f (get_or v (r / word_bits) 0) (get_or w (r / word_bits) 0) (r % word_bits) (p.1 (r / word_bits)) (q.1 (r / word_bits)) (omega arith)
        ∙ (λ i. g (sym (member_here v (r / word_bits) r refl) i) (sym (member_here w (r / word_bits) r refl) i))

-- some number of k words passes: one of some word does
any_words : (f : ℕ → Bool) (k : ℕ) → any k (λ i. any word_bits (λ j. f (word_bits * i + j))) ≡ any (word_bits * k) f
any_words f zero = any_none (λ i. any word_bits (λ j. f (word_bits * i + j))) ∙ sym (any_none f)
any_words f (suc k) =
    any_last (λ i. any word_bits (λ j. f (word_bits * i + j))) k ∙ ap (λ (b : Bool). b || any word_bits (λ j. f (word_bits * k + j))) (any_words f k) ∙ sym (any-add f (word_bits * k) word_bits)
    ∙ ap (λ (n : ℕ). any n f) (let e : word_bits * k + word_bits ≡ word_bits * suc k = omega arith in e)

pub meets_words : (k : ℕ) (v w : List ℕ) → Words k v → Words k w → any k (λ i. not (eqb (bit_and (get_or v i 0) (get_or w i 0)) 0)) ≡ meets_of v w
unfolding meets_of
meets_words k v w p q =
    any_same (λ i. not (eqb (bit_and (get_or v i 0) (get_or w i 0)) 0)) (λ i. any word_bits (λ j. member v (word_bits * i + j) && member w (word_bits * i + j))) k (λ i l. at i)
    ∙ any_words (λ r. member v r && member w r) k ∙ ap (λ (n : ℕ). any (word_bits * n) (λ r. member v r && member w r)) (sym p.0)
  where
    at : (i : ℕ) → not (eqb (bit_and (get_or v i 0) (get_or w i 0)) 0) ≡ any word_bits (λ j. member v (word_bits * i + j) && member w (word_bits * i + j))
    at i =
        ap not (zero_bits word_bits (bit_and (get_or v i 0) (get_or w i 0)) (and_lt word_bits (get_or v i 0) (get_or w i 0) (p.1 i) (q.1 i)))
        ∙ not-not (any word_bits (bit (bit_and (get_or v i 0) (get_or w i 0))))
        ∙ any_same (bit (bit_and (get_or v i 0) (get_or w i 0))) (λ j. member v (word_bits * i + j) && member w (word_bits * i + j)) word_bits
        (λ j l. bit-and (get_or v i 0) (get_or w i 0) j ∙ (λ n. bit-member v i j l n && bit-member w i j l n))

pub inside_words : (k : ℕ) (v w : List ℕ) → Words k v → Words k w → every k (λ i. eqb (bit_and (get_or v i 0) (get_or w i 0)) (get_or v i 0)) ≡ inside_of v w
unfolding inside_of
inside_words k v w p q =
    every_same (λ i. eqb (bit_and (get_or v i 0) (get_or w i 0)) (get_or v i 0)) (λ i. not (any word_bits (λ j. member v (word_bits * i + j) && not (member w (word_bits * i + j))))) k (λ i l. at i)
    ∙ every-not (λ i. any word_bits (λ j. member v (word_bits * i + j) && not (member w (word_bits * i + j)))) k
    ∙ ap not (any_words (λ r. member v r && not (member w r)) k ∙ ap (λ (n : ℕ). any (word_bits * n) (λ r. member v r && not (member w r))) (sym p.0))
  where
    at : (i : ℕ) → eqb (bit_and (get_or v i 0) (get_or w i 0)) (get_or v i 0) ≡ not (any word_bits (λ j. member v (word_bits * i + j) && not (member w (word_bits * i + j))))
    at i =
        inside_bits word_bits (get_or v i 0) (get_or w i 0) (p.1 i)
        ∙ ap not (any_same (λ j. bit (get_or v i 0) j && not (bit (get_or w i 0) j)) (λ j. member v (word_bits * i + j) && not (member w (word_bits * i + j))) word_bits
        (λ j l. λ n. bit-member v i j l n && not (bit-member w i j l n)))

-- ---- rows

pub row-length : (k : ℕ) (t : List ℕ) (p : ℕ) → length (row_of k t p) ≡ k
unfolding row_of
row-length k t p = length-tabulate (λ i. get_or t (k * p + i) 0) k

pub row_at : (k : ℕ) (t : List ℕ) (p i : ℕ) → i < k → get_or (row_of k t p) i 0 ≡ get_or t (k * p + i) 0
unfolding row_of
row_at k t p i h = get_d_tabulate (λ i. get_or t (k * p + i) 0) k i 0 h

-- n words of w written from place a on
module _ (w : List ℕ) (a : ℕ) where
  written : List ℕ → ℕ → List ℕ
  written t n = fold (λ i u. set u (a + i) (get_or w i 0)) t n

  written-length : (t : List ℕ) (n : ℕ) → length (written t n) ≡ length t
  unfolding written fold
  written-length t zero = refl
  written-length t (suc n) = length-set (written t n) (a + n) (get_or w n 0) ∙ written-length t n

  written_in : (t : List ℕ) (n i : ℕ) → i < n → a + n ≤ length t → get_or (written t n) (a + i) 0 ≡ get_or w i 0
  unfolding written fold
  written_in t zero i h l = absurd (not-suc-le-zero h)
  written_in t (suc n) i h l = go (ℕ_discrete i n) (λ u. written_in t n i u (omega arith))
    where
      go : Dec (i ≡ n) → (i < n → get_or (written t n) (a + i) 0 ≡ get_or w i 0) → get_or (set (written t n) (a + n) (get_or w n 0)) (a + i) 0 ≡ get_or w i 0
      go (yes e) ih =
          ap (λ (j : ℕ). get_or (set (written t n) (a + n) (get_or w n 0)) (a + j) 0) e
          ∙ get_or-set_same (written t n) (a + n) (get_or w n 0) 0 (let q = written-length t n in omega arith) ∙ ap (λ (j : ℕ). get_or w j 0) (sym e)
      go (no ne) ih = get_or-set_other (written t n) (a + n) (a + i) (get_or w n 0) 0 (λ e. ne (omega arith)) ∙ ih (omega arith)

  written_out : (t : List ℕ) (n i : ℕ) → ((j : ℕ) → j < n → i ≡ a + j → ⊥) → get_or (written t n) i 0 ≡ get_or t i 0
  unfolding written fold
  written_out t zero i h = refl
  written_out t (suc n) i h = get_or-set_other (written t n) (a + n) i (get_or w n 0) 0 (h n (omega arith)) ∙ written_out t n i (λ j l. h j (omega arith))

row_written : (k : ℕ) (t : List ℕ) (p : ℕ) (w : List ℕ) → length w ≡ k → set_row t p w ≡ written w (k * p) t k
unfolding set_row written
row_written k t p w e = ap (λ (n : ℕ). fold (λ i u. set u (n * p + i) (get_or w i 0)) t n) e

pub set_row-length : (t : List ℕ) (p : ℕ) (w : List ℕ) → length (set_row t p w) ≡ length t
set_row-length t p w = ap length (row_written (length w) t p w refl) ∙ written-length w (length w * p) t (length w)

pub row_same : (k : ℕ) (t : List ℕ) (p : ℕ) (w : List ℕ) → length w ≡ k → k * p + k ≤ length t → row_of k (set_row t p w) p ≡ w
row_same k t p w e h =
    ext_get_or 0 (row_of k (set_row t p w) p) w (row-length k (set_row t p w) p ∙ sym e)
    (λ i l. let m : i < k = omega (arith, row-length k (set_row t p w) p) in
    row_at k (set_row t p w) p i m ∙ ap (λ (u : List ℕ). get_or u (k * p + i) 0) (row_written k t p w e) ∙ written_in w (k * p) t k i m h)

pub row_other : (k : ℕ) (t : List ℕ) (p q : ℕ) (w : List ℕ) → length w ≡ k → (p ≡ q → ⊥) → row_of k (set_row t p w) q ≡ row_of k t q
unfolding row_of
row_other k t p q w e ne =
    tabulate_same (λ i. get_or (set_row t p w) (k * q + i) 0) (λ i. get_or t (k * q + i) 0) k
    (λ i l. ap (λ (u : List ℕ). get_or u (k * q + i) 0) (row_written k t p w e) ∙ written_out w (k * p) t k (k * q + i) (λ j m z. apart i j l m z (dec_lt p q)))
  where
    apart : (i j : ℕ) → i < k → j < k → k * q + i ≡ k * p + j → Dec (p < q) → ⊥
    apart i j l m z (yes h) = omega (arith, mul-le-mul_left k h)
    apart i j l m z (no h) = let g : q < p = omega arith in omega (arith, mul-le-mul_left k g)

pub row_behind : (k : ℕ) (t : List ℕ) (p i : ℕ) (w : List ℕ) → length w ≡ k → k * p + k ≤ i → get_or (set_row t p w) i 0 ≡ get_or t i 0
row_behind k t p i w e h = ap (λ (u : List ℕ). get_or u i 0) (row_written k t p w e) ∙ written_out w (k * p) t k i (λ j m z. absurd (omega arith))

module _ (k : ℕ) where
  pub row_whole : (t : List ℕ) → length t ≡ k → row_of k t 0 ≡ t
  row_whole t e =
      ext_get_or 0 (row_of k t 0) t (row-length k t 0 ∙ sym e)
      (λ i h. let l : i < k = omega (arith, row-length k t 0) in row_at k t 0 i l ∙ ap (λ (j : ℕ). get_or t j 0) (let z : k * 0 + i ≡ i = omega arith in z))

  pub row-only : (t w : List ℕ) → length t ≡ k → length w ≡ k → set_row t 0 w ≡ w
  row-only t w e f = sym (row_whole (set_row t 0 w) (set_row-length t 0 w ∙ e)) ∙ row_same k t 0 w f (omega arith)
