-- What a step that is made leaves, and what it leaves of each row.
--
--   tried_of g t w        what the flip answers that a step tries: circuit step mod C on row step div C
--   MadeStep g t w l     l is what a step leaves that is made over the table t and the record w: the step is counted, and
--     no_row             nothing is written: there is no flip (13), or its result is one of the rows in use
--     new_row            the flip's result r is none of them, and is written at the next row
--   RowByRow g t w l     the same of the table of l, row by row:
--     counts, rows       the step number is higher by 1, and as many rows are in use or one more
--     stay               every row but that one stays, the spare ones too
--     written            where a row was written, it is the flip's result, and was none of the rows before
--     rest               every word behind the rows in use stays
--
-- Theorems: proofs/StepLaws (`step_made_leaves`, `row_by_row`), proofs/TableLaws (words behind the last whole row). Source: document 01, "The walk".
use Rattle.std.specs.Prelude.{◌≡◌, ◌⊎◌, List, ℕ, ◌+◌, ◌*◌, ◌/◌, ◌%◌, ◌≤◌, length, get_or}
use Rattle.algebra.specs.Answer.{Answer, gives, refuses}
use Rattle.algebra.specs.Words.{row_of, set_row}
use Rattle.reach.specs.Walks.{Ground, WalkRecord, Reply, made, Landing, leaves, capacity_of, counted, grown}
use Rattle.reach.specs.Reach.{Stands}

abbrev pub tried_of : Ground → List ℕ → WalkRecord → Answer (List ℕ)
tried_of g t w = g.flip (row_of g.words t (w.step / g.circuits)) (w.step % g.circuits)

pub data MadeStep (g : Ground) (t : List ℕ) (w : WalkRecord) : Landing Reply → Type 0 where
  no_row : (tried_of g t w ≡ refuses 13) ⊎ ((r : List ℕ) × (tried_of g t w ≡ gives r) × Stands g.words t w.rows r) → MadeStep g t w (leaves t (counted w) (gives made))
  new_row : (r : List ℕ) → tried_of g t w ≡ gives r → (Stands g.words t w.rows r → ⊥) → (w.rows ≡ capacity_of g.words (length t) → ⊥)
      → MadeStep g t w (leaves (set_row t w.rows r) (grown w) (gives made))

pub record RowByRow (g : Ground) (t : List ℕ) (w : WalkRecord) (l : Landing Reply) : Type 0 where
  pub counts : l.walk.step ≡ w.step + 1
  pub rows : (l.walk.rows ≡ w.rows) ⊎ (l.walk.rows ≡ w.rows + 1)
  pub stay : (p : ℕ) → (p ≡ w.rows → l.walk.rows ≡ w.rows) → row_of g.words l.table p ≡ row_of g.words t p
  pub written : l.walk.rows ≡ w.rows + 1
      → (tried_of g t w ≡ gives (row_of g.words l.table w.rows)) × (Stands g.words t w.rows (row_of g.words l.table w.rows) → ⊥)
  pub rest : (i : ℕ) → g.words * l.walk.rows ≤ i → get_or l.table i 0 ≡ get_or t i 0
