use mathlib.Core.Path.{◌≡◌}
use mathlib.Core.Bool.{false}
use Prim.Native.Nat.{ℕ, ◌*◌, ◌<◌, ◌≤◌}
use Rattle.algebra.specs.Words.{word_bits, member}
use Rattle.triples.proofs.words.from.Given as goal

-- nothing of the list from r on is passed over
abbrev pub invariant-loop-i : goal.invariant-loop-i
invariant-loop-i l = (j : ℕ) → l.r ≤ j → j < word_bits * l.i → member l.list j ≡ false
