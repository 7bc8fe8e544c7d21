-- The outline of points in the plane as two chains (document 02, E5): lists of points' numbers, from the leftmost point to the rightmost. Sides: Borders.
--
--   Before P i j          point i is left of point j, or below it on an upright line
--   Leftmost n P i        i is the leftmost of the first n points, the lowest of equals: it is before every other one
--   Rightmost n P j       j is the rightmost, the highest of equals: every other one is before it
--   Neighbours c i j      i and j stand in c, j right behind i
--   InRow c i j k         i, j and k stand in c, one right behind the other
--   Chain n P s c         c bounds the first n points on one side, from left to right: s is plus for the south chain, minus for the north chain
--   Corner n P i          point i is an end of a side
--   in_order i j           a pair of numbers, the lower one first
--   pairs_of c             the neighbours of c as pairs, in the order of c
--
-- Theorems: proofs/ChainLaws, outline/proofs/Outline.
use Rattle.std.specs.Prelude.{◌≡◌, ◌⊎◌, cond, ℕ, ◌<◌, ltb, ◌-ℤ◌}
use mathlib.Core.List.{List, [], ◌∷◌, ◌++◌, Memᴰ}
use Rattle.algebra.specs.Sign.{Sign, sign_of, opposite, Pos}
use Rattle.matroid.specs.Points.{Points, turn}
use Rattle.matroid.specs.Borders.{Side}

abbrev pub Before : Points → ℕ → ℕ → Type 0
Before P i j = Pos ((P j).x -ℤ (P i).x) ⊎ (((P i).x ≡ (P j).x) × Pos ((P j).y -ℤ (P i).y))

abbrev pub Leftmost : ℕ → Points → ℕ → Type 0
Leftmost n P i = (i < n) × ((k : ℕ) → k < n → (k ≡ i → ⊥) → Before P i k)

abbrev pub Rightmost : ℕ → Points → ℕ → Type 0
Rightmost n P j = (j < n) × ((k : ℕ) → k < n → (k ≡ j → ⊥) → Before P k j)

abbrev pub Neighbours : List ℕ → ℕ → ℕ → Type 0
Neighbours c i j = (front : List ℕ) × (back : List ℕ) × (c ≡ front ++ i ∷ j ∷ back)

abbrev pub InRow : List ℕ → ℕ → ℕ → ℕ → Type 0
InRow c i j k = (front : List ℕ) × (back : List ℕ) × (c ≡ front ++ i ∷ j ∷ k ∷ back)

pub record Chain (n : ℕ) (P : Points) (s : Sign) (c : List ℕ) : Type 0 where
  pub low : (i : ℕ) → Memᴰ i c → i < n
  pub begins : (i : ℕ) × (back : List ℕ) × (c ≡ i ∷ back) × Leftmost n P i
  pub ends : (j : ℕ) × (front : List ℕ) × (c ≡ front ++ j ∷ []) × Rightmost n P j
  pub onward : (i j : ℕ) → Neighbours c i j → Before P i j
  -- every turn is strict: to the left in the south chain, to the right in the north chain
  pub strict : (i j k : ℕ) → InRow c i j k → sign_of (turn (P i) (P j) (P k)) ≡ s
  -- every point is on or inside: none is right of two neighbours of the south chain, none left of two of the north chain
  pub inside : (i j : ℕ) → Neighbours c i j → (k : ℕ) → k < n → sign_of (turn (P i) (P j) (P k)) ≡ opposite s → ⊥

abbrev pub Corner : ℕ → Points → ℕ → Type 0
Corner n P i = (i < n) × ((j : ℕ) × (j < n) × (j ≡ i → ⊥) × Side n P i j)

abbrev pub in_order : ℕ → ℕ → List ℕ
in_order i j = cond (ltb i j) (i ∷ j ∷ []) (j ∷ i ∷ [])

abbrev pub pairs_of : List ℕ → List (List ℕ)
pairs_of [] = []
pairs_of (i ∷ []) = []
pairs_of (i ∷ j ∷ c) = in_order i j ∷ pairs_of (j ∷ c)
