use Rattle.std.specs.Prelude.{◌≡◌, ℕ, Bool, true, ◌&&◌, List}
use Rattle.algebra.specs.Sets.{is_on}
use Rattle.triples.specs.Sizes.{word_count}
use Rattle.triples.specs.Ranks.{triple_at}
use Rattle.triples.specs.Sets.{words_of}
use Rattle.surfaces.specs.Stars.{linked_at}
use Rattle.surfaces.proofs.FlipLoops.{gathered}
use Rattle.surfaces.proofs.flips.linked.Given as goal

-- the triple of rank r holds k, a shot of the link
abbrev pub holds : ℕ → ℕ → List ℕ → List ℕ → ℕ → ℕ → Bool
holds n x t w r k = linked_at n x t w k && is_on k (triple_at n r)

abbrev pub so_far : ℕ → ℕ → List ℕ → List ℕ → ℕ → List ℕ
so_far n x t w k = gathered word_count (λ r. true) (holds n x t w) k

abbrev pub invariant-loop-k : goal.invariant-loop-k
invariant-loop-k l = words_of l.t ≡ so_far l.held.n l.x (words_of l.star) (words_of l.list) l.k
