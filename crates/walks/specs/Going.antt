-- What holds between the steps of a run.
--
--   Going l r t w      the patch is accepted, r is worked out of it, and the record w is possible over the table t
--   AtRow l r t w x    so it is, before the end of the walk; the row of its step is x, an accepted list
use Rattle.std.specs.Prelude.{◌≡◌, ℕ, ◌*◌, ◌/◌, ◌<◌, false, List, length, ℤ}
use Rattle.algebra.specs.Words.{row_of}
use Rattle.reach.specs.Walks.{WalkRecord, capacity_of, impossible}
use Rattle.shots.specs.Tests.{refusal_of}
use Rattle.circuits.specs.Numbering.{circuits_of}
use Rattle.triples.specs.Sizes.{word_count}
use Rattle.lists.specs.Tests.{list_refusal_of}
use Rattle.ready.specs.declared.kernel.Ready.{Ready}
use Rattle.ready.specs.Ready.{ReadyFor}

pub record Going (l : List ℤ) (r : Ready) (table : List ℕ) (walk : WalkRecord) : Type 0 where
  pub patch : refusal_of l ≡ 0
  pub ready : ReadyFor l r
  pub possible : impossible (capacity_of word_count (length table)) walk (length (circuits_of l)) ≡ false

pub record AtRow (l : List ℤ) (r : Ready) (table : List ℕ) (walk : WalkRecord) (row : List ℕ) : Type 0 where
  pub going : Going l r table walk
  pub ahead : walk.step < walk.rows * length (circuits_of l)
  pub stands : row ≡ row_of word_count table (walk.step / length (circuits_of l))
  pub accepted : list_refusal_of l row ≡ 0
