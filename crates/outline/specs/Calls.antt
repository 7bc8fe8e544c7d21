-- What each public call of this room answers, and all that it leaves, for every input: its contract is an equation with one of these.
--
--   Outlining            the answer of `chains`, and the two buffers, whole; `outlined_in`: of what the code leaves
--   room_of c d s t       the buffer s has room for the chain c, and t for d
--   rooms_rule l s t      11: the buffer s is shorter than the south chain, or t than the north chain
--   fill_of c d s t       what the writing of both chains answers: done, or 11
--   lengths_of l          the lengths of the two chains
--   outlined_of l s t     the answer of `chains`: the lengths; or 1-4, 11
--   chains_of l s t       the two chains at the front of the buffers s and t, and their lengths; or 1-4, 11, and both buffers as they were
--   front_bytes k b       the first k bytes of b; none where it has fewer
--   buffer_for f s t, length_for f k, chain_for f l    of two buffers, of two lengths, of the two chains the one that is asked for
--   part_of f s t k       the part of the buffer asked for that has its length of k; none where that exceeds it
--
-- Source: document 02, E5.
use Rattle.std.specs.Prelude.{Bool, not, cond, ◌&&◌, List, [], ◌∷◌, ◌++◌, ℕ, leb, length, take, ℤ, Result}
use Rattle.algebra.specs.Answer.{Answer, Rule, chain}
use Rattle.algebra.specs.Writing.{buffer_with}
use Rattle.shots.specs.Tests.{shot_rules}
use Rattle.shots.specs.Refusals.{answered}
use Rattle.shots.specs.declared.refusal.Refusal.{Refusal}
use Rattle.outline.specs.Wrapping.{south_of, north_of}
use Rattle.outline.specs.declared.Facing.{Facing}
use Rattle.outline.specs.declared.Facing.TheVariants as F
use Rattle.outline.specs.declared.Lengths.{Lengths}

pub record Outlining : Type 0 where
  pub answer : Answer Lengths
  pub south : List ℕ
  pub north : List ℕ

abbrev pub outlined_in : Result Lengths Refusal → List ℕ → List ℕ → Outlining
outlined_in r s t = record { answer = answered r; south = s; north = t }

unfoldable pub room_of : List ℕ → List ℕ → List ℕ → List ℕ → Bool
room_of c d s t = leb (length c) (length s) && leb (length d) (length t)

abbrev pub fill_of : List ℕ → List ℕ → List ℕ → List ℕ → Answer (Unit {0})
fill_of c d s t = chain (record { number = 11; broken = not (room_of c d s t) } ∷ []) tt

abbrev pub rooms_rule : List ℤ → List ℕ → List ℕ → Rule
rooms_rule l s t = record { number = 11; broken = not (room_of (south_of l) (north_of l) s t) }

abbrev pub lengths_of : List ℤ → Lengths
lengths_of l = record { south = length (south_of l); north = length (north_of l) }

abbrev pub outlined_of : List ℤ → List ℕ → List ℕ → Answer Lengths
outlined_of l s t = chain (shot_rules l ++ rooms_rule l s t ∷ []) (lengths_of l)

unfoldable pub chains_of : List ℤ → List ℕ → List ℕ → Outlining
chains_of l s t = record { answer = outlined_of l s t; south = buffer_with (outlined_of l s t) (south_of l) s; north = buffer_with (outlined_of l s t) (north_of l) t }

unfoldable pub front_bytes : ℕ → List ℕ → List ℕ
front_bytes k b = cond (leb k (length b)) (take k b) []

abbrev pub buffer_for : Facing → List ℕ → List ℕ → List ℕ
buffer_for F.South s t = s
buffer_for F.North s t = t

abbrev pub length_for : Facing → Lengths → ℕ
length_for F.South k = k.south
length_for F.North k = k.north

abbrev pub chain_for : Facing → List ℤ → List ℕ
chain_for F.South l = south_of l
chain_for F.North l = north_of l

unfoldable pub part_of : Facing → List ℕ → List ℕ → Lengths → List ℕ
part_of f s t k = front_bytes (length_for f k) (buffer_for f s t)
