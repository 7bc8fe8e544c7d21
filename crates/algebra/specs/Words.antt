-- Sets of numbers as bits in words: number r is bit r mod 64, from the low end, of word r div 64. A set is a list of words, of any number of words;
-- a table is a run of words, so many to a row.
--
--   word_bits                  64
--   set_bit x k, clear_bit x k  x with bit k set, cleared
--   Words k w                 w is k words
--   member w r                r is in the set w
--   put_in w r, take_out w r    the set with r, without r
--   sift k f                  the set, in k words, of the numbers that pass f
--   both_of, either_of, less_of  what is in both sets, in one of them, in the first and not in the second
--   meets_of, inside_of         some number is in both; every number of the first is in the second
--   empty_of, alone_of          no number is in the set; exactly one is
--   row_of k t p, set_row t p w   row p of a table t of rows of k words; the table with the words w at row p
--
-- Laws: proofs/WordLaws. Source: document 01, "What a surface is".
use Rattle.std.specs.Prelude.{◌≡◌, Bool, not, cond, ◌||◌, ◌&&◌, List, ℕ, ◌+◌, ◌-◌, ◌*◌, ◌/◌, ◌%◌, ◌^◌, ◌<◌, eqb, length, get_or, set}
use Rattle.algebra.specs.Loops.{any, fold, picks, tabulate}
use Rattle.algebra.specs.Sets.{bit, mask_of}

abbrev pub word_bits : ℕ
word_bits = 64

unfoldable pub set_bit : ℕ → ℕ → ℕ
set_bit x k = cond (bit x k) x (x + 2 ^ k)

unfoldable pub clear_bit : ℕ → ℕ → ℕ
clear_bit x k = cond (bit x k) (x - 2 ^ k) x

abbrev pub Words : ℕ → List ℕ → Type 0
Words k w = (length w ≡ k) × ((i : ℕ) → get_or w i 0 < 2 ^ word_bits)

unfoldable pub member : List ℕ → ℕ → Bool
member w r = bit (get_or w (r / word_bits) 0) (r % word_bits)

unfoldable pub put_in : List ℕ → ℕ → List ℕ
put_in w r = set w (r / word_bits) (set_bit (get_or w (r / word_bits) 0) (r % word_bits))

unfoldable pub take_out : List ℕ → ℕ → List ℕ
take_out w r = set w (r / word_bits) (clear_bit (get_or w (r / word_bits) 0) (r % word_bits))

unfoldable pub sift : ℕ → (ℕ → Bool) → List ℕ
sift k f = tabulate k (λ i. mask_of (picks word_bits (λ b. f (word_bits * i + b))))

-- ---- sets made of two

unfoldable pub both_of : List ℕ → List ℕ → List ℕ
both_of v w = sift (length v) (λ r. member v r && member w r)

unfoldable pub either_of : List ℕ → List ℕ → List ℕ
either_of v w = sift (length v) (λ r. member v r || member w r)

unfoldable pub less_of : List ℕ → List ℕ → List ℕ
less_of v w = sift (length v) (λ r. member v r && not (member w r))

-- ---- tests of sets

unfoldable pub meets_of : List ℕ → List ℕ → Bool
meets_of v w = any (word_bits * length v) (λ r. member v r && member w r)

unfoldable pub inside_of : List ℕ → List ℕ → Bool
inside_of v w = not (any (word_bits * length v) (λ r. member v r && not (member w r)))

unfoldable pub empty_of : List ℕ → Bool
empty_of v = not (any (word_bits * length v) (member v))

unfoldable pub alone_of : List ℕ → Bool
alone_of v = any (word_bits * length v) (λ r. member v r && not (any (word_bits * length v) (λ s. not (eqb s r) && member v s)))

-- ---- rows

unfoldable pub row_of : ℕ → List ℕ → ℕ → List ℕ
row_of k t p = tabulate k (λ i. get_or t (k * p + i) 0)

unfoldable pub set_row : List ℕ → ℕ → List ℕ → List ℕ
set_row t p w = fold (λ i u. set u (length w * p + i) (get_or w i 0)) t (length w)
