-- Laws of what is told of a list.
--
--   uses_held     a list uses a shot where it meets the triples that hold it
use mathlib.Core.Path.{◌≡◌, sym, ◌∙◌}
use Prim.Native.Nat.{ℕ, ◌*◌, ◌≤◌, ◌<◌}
use native.Mathlib.Omega.{arith}
use lib.ListN.{length}
use Rattle.algebra.specs.Sets.{is_on}
use Rattle.algebra.specs.Words.{word_bits, member, meets_of}
use Rattle.algebra.proofs.AnswerLaws.{reflects_agree, reflects_iff}
use Rattle.algebra.proofs.WordLaws.{meets_reflects}
use Rattle.shots.specs.Sizes.{shots_most}
use Rattle.triples.specs.Sizes.{word_count}
use Rattle.triples.specs.Ranks.{triple_count, triple_at}
use Rattle.triples.specs.Sets.{words_of, holders_of}
use Rattle.triples.specs.declared.Triples.{Triples}
use Rattle.lists.proofs.ByWords.{both_some, room, on_ranked, member_holders}
use Rattle.text.specs.Lines.{uses_of}

pub uses_held : (n k : ℕ) (t : Triples) → length (words_of t) ≡ word_count → n ≤ shots_most → meets_of (words_of t) (holders_of n k) ≡ uses_of n (words_of t) k
unfolding uses_of
uses_held n k t w h =
    reflects_agree (meets_reflects (words_of t) (holders_of n k))
    (reflects_iff (
      λ q. let l = low q.0 q.1 in (q.0, (let z : q.0 < word_bits * length (words_of t) = omega (arith, l) in z), q.2, member_holders n k q.0 l ∙ q.3),
      λ q. let o = sym (member_holders n k q.0 (let z : q.0 < word_bits * word_count = omega (arith, q.1) in z)) ∙ q.3 in (q.0, on_ranked n q.0 k o, q.2, o),
    )
    (both_some (member (words_of t)) (λ r. is_on k (triple_at n r)) (triple_count n)))
  where
    low : (r : ℕ) → r < triple_count n → r < word_bits * word_count
    low r l = omega (arith, room n h)
