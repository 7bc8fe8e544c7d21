use Rattle.std.specs.Prelude.{◌≡◌, ℕ, Bool, not, List, [], ◌∷◌, ℤ}
use Rattle.shots.specs.Patch.{count_of}
use Rattle.triples.specs.Sizes.{word_count}
use Rattle.triples.specs.Ranks.{triple_at}
use Rattle.triples.specs.Sets.{words_of}
use Rattle.lists.specs.Tests.{is_flat}
use Rattle.triples.proofs.RankLaws.{Ranked}
use Rattle.triples.proofs.SiftLaws.{sifted}
use Rattle.lists.proofs.kernel.solid.Given as goal

-- the triple of rank r is not flat
abbrev pub bent : List ℤ → ℕ → Bool
bent l r = not (is_flat l (triple_at (count_of l) r))

abbrev pub invariant-loop-r : goal.invariant-loop-r
invariant-loop-r l = (words_of l.t ≡ sifted word_count (bent l.shots) l.r) × Ranked (count_of l.shots) l.r (l.s.i ∷ l.s.j ∷ l.s.k ∷ [])
