use mathlib.Core.Path.{◌≡◌}
use mathlib.Core.List.{[], ◌∷◌}
use Rattle.algebra.specs.Sets.{is_on}
use Rattle.triples.specs.Sizes.{word_count}
use Rattle.triples.specs.Ranks.{triple_at}
use Rattle.triples.specs.Sets.{words_of}
use Rattle.triples.proofs.RankLaws.{Ranked}
use Rattle.triples.proofs.SiftLaws.{sifted}
use Rattle.triples.proofs.holding.holders.Given as goal

abbrev pub invariant-loop-r : goal.invariant-loop-r
invariant-loop-r l = (words_of l.t ≡ sifted word_count (λ q. is_on l.k (triple_at l.n q)) l.r) × Ranked l.n l.r (l.s.i ∷ l.s.j ∷ l.s.k ∷ [])
