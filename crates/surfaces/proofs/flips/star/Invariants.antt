use Rattle.std.specs.Prelude.{◌≡◌, ℕ, Bool, not, ◌&&◌, ltb, List}
use Rattle.algebra.specs.Sets.{is_on, bit}
use Rattle.algebra.specs.Words.{clear_bit}
use Rattle.triples.specs.Sizes.{word_count}
use Rattle.triples.specs.Ranks.{triple_count, triple_at}
use Rattle.triples.specs.Sets.{words_of, mask_on}
use Rattle.surfaces.proofs.FlipLoops.{gathered}
use Rattle.surfaces.proofs.flips.star.Given as goal

abbrev pub ranked : ℕ → ℕ → Bool
ranked n r = ltb r (triple_count n)

-- i is of the side, and the triple of rank r has every shot of the circuit but i
abbrev pub lacks : ℕ → ℕ → ℕ → ℕ → ℕ → Bool
lacks n a x r i = bit a i && (mask_on n (clear_bit x i) (triple_at n r) && not (is_on i (triple_at n r)))

abbrev pub so_far : ℕ → ℕ → ℕ → ℕ → List ℕ
so_far n a x i = gathered word_count (ranked n) (lacks n a x) i

abbrev pub invariant-loop-i : goal.invariant-loop-i
invariant-loop-i l = words_of l.t ≡ so_far l.held.n l.a l.x l.i
