-- `triples::words::from` meets its contract: word by word, nothing of the list from r on is passed over; in a word, the zeros below its lowest bit.
use mathlib.Core.Path.{◌≡◌, sym, ◌∙◌, subst}
use mathlib.Core.Bool.{true, false, true≢false}
use mathlib.Core.List.{List}
use Prim.Native.Nat.{ℕ, ◌+◌, ◌-◌, ◌*◌, ◌/◌, ◌%◌, ◌^◌, ◌<◌, ◌≤◌, max}
use native.Mathlib.Omega.{arith}
use native.Mathlib.Decide.{dec_lt}
use lib.Count.{count_trailing_zeros}
use lib.ListN.{length, get_or}
use Rattle.algebra.specs.Loops.{first_from}
use Rattle.algebra.specs.Words.{word_bits, member}
use Rattle.algebra.proofs.LoopLaws.{from_is}
use Rattle.algebra.proofs.WordLaws.{member_past, rest_of, rest_none, rest_lowest}
use Rattle.triples.proofs.words.from.Goals as goal

-- word i, with the number from which on it is looked at, and the rest of the word from there on
module _ (w : List ℕ) (r i first : ℕ) (low : r / word_bits ≤ i) (e : first ≡ max r (word_bits * i)) (before : (j : ℕ) → r ≤ j → j < word_bits * i → member w j ≡ false) where
  abbrev rest : ℕ
  rest = get_or w i 0 / 2 ^ (first - word_bits * i)

  word : i ≡ first / word_bits
  word = omega (arith, e)

  place : first - word_bits * i ≡ first % word_bits
  place = omega (arith, e)

  rest-is : rest ≡ rest_of w first
  rest-is = λ z. get_or w (word z) 0 / 2 ^ place z

  passed : (n : ℕ) → ((j : ℕ) → first ≤ j → j < n → member w j ≡ false) → (j : ℕ) → r ≤ j → j < n → member w j ≡ false
  passed n behind j h l = go (dec_lt j (word_bits * i))
    where
      go : Dec (j < word_bits * i) → member w j ≡ false
      go (yes u) = before j h u
      go (no u) = behind j (omega (arith, e)) l

  -- it has no bit
  pub on : rest ≡ 0 → (j : ℕ) → r ≤ j → j < word_bits * (i + 1) → member w j ≡ false
  on z = passed (word_bits * (i + 1)) (λ j h l. rest_none w first (sym rest-is ∙ z) j h (omega (arith, word)))

  -- it has a lowest bit
  pub found : get_or w i 0 < 2 ^ word_bits → (rest ≡ 0 → ⊥) → first + count_trailing_zeros word_bits rest ≡ first_from r (word_bits * length w) (member w)
  found fits some = from_is _ _ _ at (omega (arith, inside)) (passed at lowest.1) (λ u. (omega (arith, e), lowest.0))
    where
      at : ℕ
      at = first + count_trailing_zeros word_bits rest

      lowest : (member w at ≡ true) × ((j : ℕ) → first ≤ j → j < at → member w j ≡ false)
      lowest =
          subst (λ (x : ℕ). let t = first + count_trailing_zeros word_bits x in (member w t ≡ true) × ((j : ℕ) → first ≤ j → j < t → member w j ≡ false)) (sym rest-is)
          (rest_lowest w first (subst (λ (k : ℕ). get_or w k 0 < 2 ^ word_bits) word fits) (λ z. some (rest-is ∙ z)))

      -- which is no later than the last of all words
      inside : at < word_bits * length w
      inside = go (dec_lt at (word_bits * length w))
        where
          go : Dec (at < word_bits * length w) → at < word_bits * length w
          go (yes l) = l
          go (no l) = absurd (true≢false (sym lowest.0 ∙ member_past w at (omega arith)))

pub returns-then-rest-ne0 : goal.returns-then-rest-ne0
returns-then-rest-ne0 c =
    let l = c.loop-i in
    found c.args.list.now c.args.r l.i c.max-first.result (omega arith) c.max-first.ensures l.invariant (c.type_inv.list l.i).fits c.if-rest-ne0.true

pub loop-i-preserved : goal.loop-i-preserved
loop-i-preserved c = let l = c.loop-i in on c.args.list.now c.args.r l.i c.max-first.result (omega arith) c.max-first.ensures l.invariant c.if-rest-ne0.false

pub returns : goal.returns
returns c = from_is _ _ _ _ (omega arith) (λ j h u. c.loop-i.invariant j h (omega (arith, c.loop-i-test.false))) (λ u. absurd (omega arith))
