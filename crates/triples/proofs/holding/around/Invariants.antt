use mathlib.Core.Path.{◌≡◌}
use mathlib.Core.Bool.{Bool, not, ◌||◌, ◌&&◌}
use mathlib.Core.List.{List}
use Prim.Native.Nat.{ℕ}
use Rattle.algebra.specs.Loops.{every}
use Rattle.algebra.specs.Sets.{is_on, bit}
use Rattle.algebra.specs.Words.{member, sift}
use Rattle.triples.specs.Sizes.{word_count}
use Rattle.triples.specs.Ranks.{triple_at}
use Rattle.triples.specs.Sets.{words_of}
use Rattle.triples.proofs.holding.around.Given as goal

-- the triple of rank r holds shot i, or the mask does not
abbrev pub held : ℕ → ℕ → ℕ → ℕ → Bool
held n x r i = not (bit x i) || is_on i (triple_at n r)

-- those of w that hold the shots of the mask below k
abbrev pub so_far : ℕ → ℕ → List ℕ → ℕ → List ℕ
so_far n x w k = sift word_count (λ r. member w r && every k (held n x r))

abbrev pub invariant-loop-k : goal.invariant-loop-k
invariant-loop-k l = words_of l.t ≡ so_far l.n l.x (words_of l.initial.t) l.k
