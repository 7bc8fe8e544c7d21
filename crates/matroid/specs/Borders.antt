-- The border of points in the plane, by its sides (document 02, E1). Border pairs: Triangulations, `Border`. A `Side` of a sign (algebra) is another thing.
--
--   Aligned P i j k      point k is on the line of points i and j; it holds of every point where those two are one place
--   Side n P i j         points i and j are the ends of a side of the first n points: a border pair, and each other point on their line is strictly between the two
--   SidePair n P e       e is a side as a pair of numbers, the lower one first
--   OnSide n P p q i j   points p and q are on the line of the side i < j; where they are among the n, each is an end of it or between the ends
--
-- Theorems: proofs/SideLaws (`border_on_one_side`), shots/proofs/Sides (`side_says`).
use Rattle.std.specs.Prelude.{◌≡◌, List, [], ◌∷◌, ℕ, ◌<◌, pos}
use Rattle.matroid.specs.Points.{Points, plane, turn, Between}
use Rattle.matroid.specs.Triangulations.{Border}

abbrev pub Aligned : Points → ℕ → ℕ → ℕ → Type 0
Aligned P i j k = turn (P i) (P j) (P k) ≡ pos 0

pub record Side (n : ℕ) (P : Points) (i j : ℕ) : Type 0 where
  pub border : Border n (plane P) (i ∷ j ∷ [])
  pub between : (k : ℕ) → k < n → (k ≡ i → ⊥) → (k ≡ j → ⊥) → Aligned P i j k → Between (P k) (P i) (P j)

abbrev pub SidePair : ℕ → Points → List ℕ → Type 0
SidePair n P e = (i : ℕ) × (j : ℕ) × (e ≡ i ∷ j ∷ []) × (i < j) × (j < n) × Side n P i j

pub record OnSide (n : ℕ) (P : Points) (p q i j : ℕ) : Type 0 where
  pub ordered : i < j
  pub low : j < n
  pub side : Side n P i j
  pub first : Aligned P i j p
  pub second : Aligned P i j q
