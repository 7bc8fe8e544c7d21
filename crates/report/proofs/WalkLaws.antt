-- The walk that the report tells of: from an accepted list, in a table of zeros.
--
--   placing_tested               a placing surface passes the test
--   walk_long                    its table keeps its length
--   zeros                        that table before the start
--   begun_is, begun_started      what the start leaves: the list at row 0; it is accepted
--   begun_walked, walk_walked    start and run make a walk, in the sense of demand 3
--   rows_fit                     its rows fit into the table
--   walk_not_made                it is never only made: it ends done, or is refused
--   walk_full                    and refused only where the table is full
use Rattle.std.specs.Prelude.{◌≡◌, ℕ, ◌<◌, ◌≤◌, List, length, replicate, ℤ}
use mathlib.Core.Path.{sym, ◌∙◌, ap, subst}
use mathlib.Core.Logic.{⊎_elim}
use native.Mathlib.Omega.{arith}
use native.Mathlib.Nat.{mul-le-mul_left}
use lib.ListN.{length-replicate}
use Rattle.algebra.specs.Answer.{gives, refuses}
use Rattle.algebra.specs.Words.{Words, set_row}
use Rattle.algebra.proofs.AnswerLaws.{first_clear}
use Rattle.reach.specs.Walks.{Begun, started, Reply, made, Landing, leaves, rows_most, capacity_of}
use Rattle.reach.specs.Walked.{Walked, starts, runs}
use Rattle.reach.proofs.TableLaws.{run_long, start_long}
use Rattle.reach.proofs.StepLaws.{start_writes}
use Rattle.reach.proofs.Theorem.{walk_listing, run_ends}
use Rattle.shots.proofs.Patch.{patch_few}
use Rattle.circuits.proofs.Bounds.{circuits-most}
use Rattle.triples.specs.Sizes.{word_count}
use Rattle.lists.specs.Calls.{test_of}
use Rattle.shots.proofs.Promises.{shots_kept}
use Rattle.lists.proofs.Promises.{test_accepts}
use Rattle.surfaces.specs.Calls.{placing_of}
use Rattle.surfaces.proofs.Promises.{placing_gives, placing-accepted}
use Rattle.walks.specs.Calls.{ground_of}
use Rattle.walks.specs.Lines.{walk_lines}
use Rattle.walks.proofs.Promises.{step_refuses, run_refused_leaves}
use Rattle.walks.proofs.Theorem.{patch_sound, walk_passes, refused_full}
use Rattle.report.specs.Sizes.{table_rows, table_words, steps_most}
use Rattle.report.specs.Report.{no_walk, begun_of, walk_of}

pub walk_long : (l : List ℤ) (w : List ℕ) → length (walk_of l w).table ≡ table_words
unfolding walk_of begun_of
walk_long l w = run_long (ground_of l) (begun_of l w).table (begun_of l w).walk steps_most ∙ start_long (ground_of l) (replicate table_words 0) no_walk w ∙ length-replicate {A = ℕ} table_words 0

pub placing_tested : (l : List ℤ) (w : List ℕ) → placing_of l ≡ gives w → test_of l w ≡ gives tt
placing_tested l w e =
    let a = placing-accepted l w e in
    (test_accepts l w).1 (((placing_gives l w).0 e).0, a.0, a.1)

abbrev pub zeros : List ℕ
zeros = replicate table_words 0

-- so many rows are in the table
capacity : (t : List ℕ) → length t ≡ table_words → capacity_of word_count (length t) ≡ table_rows
capacity t e = ap (capacity_of word_count) e

module _ (l : List ℤ) (w : List ℕ) (accepted : test_of l w ≡ gives tt) where
  pub begun_is : begun_of l w ≡ leaves (set_row zeros 0 w) (record { rows = 1; step = 0 }) (gives started)
  unfolding begun_of
  begun_is = start_writes (ground_of l) zeros no_walk w accepted (λ e. some (sym (capacity zeros (length-replicate {A = ℕ} table_words 0)) ∙ e))
    where
      some : table_rows ≡ 0 → ⊥
      some e = omega arith

  pub begun_started : (begun_of l w).answer ≡ gives started
  begun_started = ap (λ (x : Landing Begun). x.answer) begun_is

  pub begun_walked : Walked (ground_of l) w (begun_of l w).table (begun_of l w).walk
  unfolding begun_of
  begun_walked = starts zeros no_walk begun_started

  pub walk_walked : Walked (ground_of l) w (walk_of l w).table (walk_of l w).walk
  unfolding walk_of
  walk_walked = runs (begun_of l w).table (begun_of l w).walk steps_most begun_walked

  module _ (size : length w ≡ word_count) where
    pub rows_fit : (0 < (walk_of l w).walk.rows) × ((walk_of l w).walk.rows ≤ table_rows)
    rows_fit =
        let p = (walk_listing (patch_sound l) w size walk_walked).possible in
        (p.0, subst (λ m. (walk_of l w).walk.rows ≤ m) (capacity (walk_of l w).table (walk_long l w)) p.1)

    pub walk_not_made : (walk_of l w).answer ≡ gives made → ⊥
    unfolding walk_of
    walk_not_made e =
        let few = circuits-most l (patch_few l ((shots_kept l).0 ((test_accepts l w).0 accepted).0)).1 in
        let most = mul-le-mul_left rows_most few in
        run_ends (patch_sound l) w size begun_walked steps_most (omega arith) e

  module _ (words : Words word_count w) where
    pub walk_full : (m : ℕ) → (walk_of l w).answer ≡ refuses m → m ≡ 11
    unfolding walk_of
    walk_full m e =
        ⊎_elim (λ (f, _). first_clear m (walk_lines l (begun_of l w).table (begun_of l w).walk) f (walk_passes l w words begun_walked))
        (λ (_, (k, _, _, f, q)). refused_full l w words _ _ (subst (λ (x : Landing Reply). Walked (ground_of l) w x.table x.walk) q walk_walked) m ((step_refuses l _ _ m).1 f))
        (run_refused_leaves l (begun_of l w).table (begun_of l w).walk steps_most m e)
