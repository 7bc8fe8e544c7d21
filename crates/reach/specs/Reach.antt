-- Rows and what is reached from one of them by flips, for any flip as a relation.
--
--   Reach F r₀ r          r is reached from r₀ by so many flips F, each a relation of two rows
--   Flipping              a numbered flip as a relation: of a row, the number of a circuit and a row
--   Along C F r r'        r' is the flip F of r along one of the circuits below C
--   Among row n r         r is one of the rows `row 0` to `row (n - 1)`
--   Stands k t n r        r is one of the first n rows, of k words each, of the table t
--   Closed C F r₀ row n s   the walk's invariant over rows `row 0`, `row 1`, ..: n rows are in use and s steps are made; F is numbered
--     some, first, below  there is a row, the first is r₀, and s is at most n × C
--     once                no two rows are the same
--     reached             each row is reached from r₀
--     tried               what the flip of step k < s gives is one of the rows
--
-- Laws: proofs/ReachLaws. Source: document 01, "The walk"; demand 3.
use Rattle.std.specs.Prelude.{◌≡◌, List, ℕ, ◌*◌, ◌/◌, ◌%◌, ◌<◌, ◌≤◌}
use Rattle.algebra.specs.Words.{row_of}

pub data Reach (F : List ℕ → List ℕ → Type 0) (r₀ : List ℕ) : List ℕ → Type 0 where
  here : Reach F r₀ r₀
  by_flip : {r r' : List ℕ} → Reach F r₀ r → F r r' → Reach F r₀ r'

abbrev pub Flipping : Type 1
Flipping = List ℕ → ℕ → List ℕ → Type 0

abbrev pub Along : ℕ → Flipping → List ℕ → List ℕ → Type 0
Along C F r r' = (z : ℕ) × (z < C) × F r z r'

abbrev pub Among : (ℕ → List ℕ) → ℕ → List ℕ → Type 0
Among row n r = (p : ℕ) × (p < n) × (row p ≡ r)

abbrev pub Stands : ℕ → List ℕ → ℕ → List ℕ → Type 0
Stands k t n r = Among (row_of k t) n r

pub record Closed (C : ℕ) (F : Flipping) (r₀ : List ℕ) (row : ℕ → List ℕ) (n s : ℕ) : Type 0 where
  pub some : 0 < n
  pub first : row 0 ≡ r₀
  pub below : s ≤ n * C
  pub once : (i j : ℕ) → i < j → j < n → row i ≡ row j → ⊥
  pub reached : (i : ℕ) → i < n → Reach (Along C F) r₀ (row i)
  pub tried : (k : ℕ) → k < s → (r : List ℕ) → F (row (k / C)) (k % C) r → Among row n r
