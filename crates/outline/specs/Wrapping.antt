-- The two chains of a patch, as they are found: from the first shot on, each time the shot that no other one ahead passes, as a string is wrapped around posts.
-- b is true for the north chain and false for the south chain.
--
--   is_north f             the north chain is asked for
--   first_of l             the leftmost shot, the lowest of equals
--   outer_of b f s         what has the sign s is on the outer side of two neighbours: on the right of the south chain, on the left of the north chain; on their line where f says that it is farther
--   passes_of l b p q k    shot k comes behind p rather than q: it is ahead of p, and on the outer side of p and q
--   next_of l b p          the shot behind p: none ahead passes it; p itself where none is ahead
--   chain_from l b m p     p, and the shots behind it up to the last one, m in all at most
--   chain_of l b           the chain from the first shot on
--   south_of l, north_of l  the two chains
--
-- What they are of an accepted patch, over the published definitions: proofs/Outline. Source: document 02, E5.
use Rattle.std.specs.Prelude.{Bool, true, false, not, cond, ◌&&◌, List, [], ◌∷◌, ℕ, zero, suc, eqb, ℤ}
use Rattle.algebra.specs.Loops.{fold}
use Rattle.algebra.specs.Sign.{Sign, minus, nought, plus}
use Rattle.shots.specs.Patch.{count_of, orient_of, before_of}
use Rattle.outline.specs.declared.Facing.{Facing}
use Rattle.outline.specs.declared.Facing.TheVariants as F

abbrev pub is_north : Facing → Bool
is_north F.South = false
is_north F.North = true

unfoldable pub first_of : List ℤ → ℕ
first_of l = fold (λ k q. cond (before_of l k q) k q) 0 (count_of l)

abbrev pub outer_of : Bool → Bool → Sign → Bool
outer_of b f minus = not b
outer_of b f nought = f
outer_of b f plus = b

unfoldable pub passes_of : List ℤ → Bool → ℕ → ℕ → ℕ → Bool
passes_of l b p q k = before_of l p k && outer_of b (before_of l q k) (orient_of l p q k)

unfoldable pub next_of : List ℤ → Bool → ℕ → ℕ
next_of l b p = fold (λ k q. cond (passes_of l b p q k) k q) p (count_of l)

unfoldable pub chain_from : List ℤ → Bool → ℕ → ℕ → List ℕ
chain_from l b zero p = []
chain_from l b (suc m) p = p ∷ cond (eqb (next_of l b p) p) [] (chain_from l b m (next_of l b p))

unfoldable pub chain_of : List ℤ → Bool → List ℕ
chain_of l b = chain_from l b (count_of l) (first_of l)

abbrev pub south_of : List ℤ → List ℕ
south_of l = chain_of l false

abbrev pub north_of : List ℤ → List ℕ
north_of l = chain_of l true
