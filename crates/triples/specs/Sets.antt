-- Sets of triples as words: how the code's set is read, and the sets of triples by the shots that they hold.
--
--   words_of t           the words of the code's set
--   full_of n            every triple of n shots
--   holders_of n k       the triples that hold shot k
--   size_of n w          how many triples of n shots are in w
--   mask_on n x s        every shot of the mask x is in s
--   around_of n x w      those of w that hold every shot of the mask x
--   Rows t k f          row p of the table t holds f p, for each p below k
--   SameBelow a t u     the rows below a are the same in both tables
--   Written a k f t u   u is t with f p written to row a + p, for each p below k; the rows below a stay
--   Holding n t         row k holds the holders of shot k
use Rattle.std.specs.Prelude.{◌≡◌, Bool, not, cond, ◌||◌, ◌&&◌, List, ℕ, ◌+◌, ◌<◌, ltb, length}
use Rattle.algebra.specs.Loops.{every, tally}
use Rattle.algebra.specs.Sets.{is_on, bit}
use Rattle.algebra.specs.Words.{member, sift, row_of}
use Rattle.triples.specs.Sizes.{word_count}
use Rattle.triples.specs.Ranks.{triple_count, triple_at}
use Rattle.triples.specs.declared.Triples.{Triples}

abbrev pub words_of : Triples → List ℕ
words_of t = t.words

unfoldable pub full_of : ℕ → List ℕ
full_of n = sift word_count (λ r. ltb r (triple_count n))

unfoldable pub holders_of : ℕ → ℕ → List ℕ
holders_of n k = sift word_count (λ r. is_on k (triple_at n r))

unfoldable pub size_of : ℕ → List ℕ → ℕ
size_of n w = tally (triple_count n) (λ r. cond (member w r) 1 0)

unfoldable pub mask_on : ℕ → ℕ → List ℕ → Bool
mask_on n x s = every n (λ i. not (bit x i) || is_on i s)

unfoldable pub around_of : ℕ → ℕ → List ℕ → List ℕ
around_of n x w = sift word_count (λ r. member w r && mask_on n x (triple_at n r))

abbrev pub Rows : List ℕ → ℕ → (ℕ → List ℕ) → Type 0
Rows t k f = (p : ℕ) → p < k → row_of word_count t p ≡ f p

abbrev pub SameBelow : ℕ → List ℕ → List ℕ → Type 0
SameBelow a t u = (p : ℕ) → p < a → row_of word_count u p ≡ row_of word_count t p

pub record Written (a k : ℕ) (f : ℕ → List ℕ) (before after : List ℕ) : Type 0 where
  pub lengths : length after ≡ length before
  pub here : (p : ℕ) → p < k → row_of word_count after (a + p) ≡ f p
  pub there : SameBelow a before after

abbrev pub Holding : ℕ → List ℕ → Type 0
Holding n t = Rows t n (holders_of n)
