-- The report of the bytes that `patchwalk` reads: all its text. The program writes it part by part.
--
--   no_walk, begun_of l w    the record before the start; what the start from the list w leaves, in a table of 4,096 rows
--   walk_of l w        where the walk from it ends
--   Ended, ended_in    where a walk ends: the record and the table
--   first_line l w     the first line, where the first row is the list w
--   line_at n t p      the line of row p of the table t
--   surfaces_text l x d    the first line, the rows, and the last line: done, or full
--   end_text l x a     so where the walk is complete (done) or the table full (11); where another number refused it, that number
--   end_of l w, walk_text l w    where the walk from w ends, and its text
--   placed_text l a    the walk from the placing surface; or the number that refuses it
--   patch_text l a     so for the patch that was read; or the number that refuses the record
--   report_of b        the report of the bytes b
--   Find              what is known after the walk: whether surfaces are shown; else the number that is printed; where the walk ended; whether it is complete
--   read_found r t     so from what `find` answers and the table: a walk that is not complete has a full table, 11
--   refused_find n     so where a number is printed alone
--   end_find x a, walk_find l w, placed_find l a, patch_find l a    so of a walk that ended in x with the answer a; of the walk from w; from what placing answers; from what the reader answers
--   find_of b          so for the bytes b
--   line_count f, line_of l f i    the lines of a report, by what is known: how many, and line i; `shown_line l x d i`: where surfaces are shown
--
-- Theorems: proofs/Promises. Source: document 01, "The square with its centre".
use Rattle.std.specs.Prelude.{ℕ, ◌+◌, ◌-◌, Bool, true, false, cond, List, ◌++◌, length, replicate, ℤ, ◌==◌, Result, Ok, Err}
use Rattle.algebra.specs.Answer.{Answer, gives, refuses}
use Rattle.algebra.specs.Loops.{tally, over}
use Rattle.algebra.specs.Words.{row_of}
use Rattle.reach.specs.Walks.{WalkRecord, Begun, Reply, made, done, Landing, run_of, start_of}
use Rattle.shots.specs.Patch.{count_of}
use Rattle.shots.specs.Calls.{sides_of}
use Rattle.circuits.specs.Numbering.{circuits_of}
use Rattle.triples.specs.Sizes.{word_count}
use Rattle.surfaces.specs.Areas.{area_sum_of}
use Rattle.surfaces.specs.Calls.{placing_of}
use Rattle.walks.specs.Calls.{ground_of, read_walk}
use Rattle.walks.specs.declared.Walk.{Walk}
use Rattle.records.specs.Reading.{coordinates_of}
use Rattle.records.specs.Calls.{read_patch_of}
use Rattle.text.specs.Lines.{patch_line, row_line, last_line, refused_line}
use Rattle.report.specs.Sizes.{table_words, steps_most}
use Rattle.shots.specs.Refusals.{number_of}
use Rattle.shots.specs.declared.refusal.Refusal.{Refusal}
use Rattle.report.specs.declared.Shown.{Shown}

-- ---- the walk

-- before the start
abbrev pub no_walk : WalkRecord
no_walk = record { rows = 0; step = 0 }

unfoldable pub begun_of : List ℤ → List ℕ → Landing Begun
begun_of l w = start_of (ground_of l) (replicate table_words 0) no_walk w

unfoldable pub walk_of : List ℤ → List ℕ → Landing Reply
walk_of l w = run_of (ground_of l) (begun_of l w).table (begun_of l w).walk steps_most

-- ---- its report

pub record Ended : Type 0 where
  pub walk : WalkRecord
  pub table : List ℕ

abbrev pub ended_in : List ℕ → Walk → Ended
ended_in t w = record { walk = read_walk w; table = t }

-- the first line of a patch whose first row is the list w
unfoldable pub first_line : List ℤ → List ℕ → List ℕ
first_line l w = patch_line (count_of l) (length (circuits_of l)) (tally (count_of l) (sides_of l)) (area_sum_of l w)

-- the line of row p of the table t
unfoldable pub line_at : ℕ → List ℕ → ℕ → List ℕ
line_at n t p = row_line n p (row_of word_count t p)

unfoldable pub surfaces_text : List ℤ → Ended → Bool → List ℕ
surfaces_text l x d = first_line l (row_of word_count x.table 0) ++ (over (line_at (count_of l) x.table) 0 x.walk.rows ++ last_line d x.walk.rows x.walk.step)

-- a walk so long is never only made, and no number but 11 refuses it (`walk_ends_so`): two of the cases do not come
abbrev pub end_text : List ℤ → Ended → Answer Reply → List ℕ
end_text l x (gives made) = surfaces_text l x false
end_text l x (gives done) = surfaces_text l x true
end_text l x (refuses n) = cond (n == 11) (surfaces_text l x false) (refused_line n)

-- where the walk from w ends
abbrev pub end_of : List ℤ → List ℕ → Ended
end_of l w = record { walk = (walk_of l w).walk; table = (walk_of l w).table }

unfoldable pub walk_text : List ℤ → List ℕ → List ℕ
walk_text l w = end_text l (end_of l w) (walk_of l w).answer

abbrev pub placed_text : List ℤ → Answer (List ℕ) → List ℕ
placed_text l (gives w) = walk_text l w
placed_text l (refuses n) = refused_line n

abbrev pub patch_text : List ℤ → Answer ℕ → List ℕ
patch_text l (gives n) = placed_text l (placing_of l)
patch_text l (refuses n) = refused_line n

unfoldable pub report_of : List ℕ → List ℕ
report_of b = patch_text (coordinates_of b) (read_patch_of b).answer

-- ---- the same line by line

pub record Find : Type 0 where
  pub shown : Bool
  pub number : ℕ
  pub ended : Ended
  pub complete : Bool

abbrev pub read_found : Result Shown Refusal → List ℕ → Find
read_found (Ok s) t = record { shown = true; number = cond s.complete 0 11; ended = ended_in t s.walk; complete = s.complete }
read_found (Err r) t = record { shown = false; number = number_of r; ended = record { walk = no_walk; table = t }; complete = false }

-- a number alone, and no walk
abbrev pub refused_find : ℕ → Find
refused_find n = record { shown = false; number = n; ended = record { walk = no_walk; table = replicate table_words 0 }; complete = false }

abbrev pub end_find : Ended → Answer Reply → Find
end_find x (gives made) = record { shown = true; number = 0; ended = x; complete = false }
end_find x (gives done) = record { shown = true; number = 0; ended = x; complete = true }
end_find x (refuses n) = record { shown = (n == 11); number = n; ended = x; complete = false }

unfoldable pub walk_find : List ℤ → List ℕ → Find
walk_find l w = end_find (end_of l w) (walk_of l w).answer

abbrev pub placed_find : List ℤ → Answer (List ℕ) → Find
placed_find l (gives w) = walk_find l w
placed_find l (refuses n) = refused_find n

abbrev pub patch_find : List ℤ → Answer ℕ → Find
patch_find l (gives n) = placed_find l (placing_of l)
patch_find l (refuses n) = refused_find n

unfoldable pub find_of : List ℕ → Find
find_of b = patch_find (coordinates_of b) (read_patch_of b).answer

abbrev pub line_count : Find → ℕ
line_count f = cond f.shown (f.ended.walk.rows + 2) 1

-- the first line, then the rows, then the last line
unfoldable pub shown_line : List ℤ → Ended → Bool → ℕ → List ℕ
shown_line l x d i =
    cond (i == 0) (first_line l (row_of word_count x.table 0))
    (cond (i == x.walk.rows + 1) (last_line d x.walk.rows x.walk.step)
    (line_at (count_of l) x.table (i - 1)))

unfoldable pub line_of : List ℤ → Find → ℕ → List ℕ
line_of l f i = cond f.shown (shown_line l f.ended f.complete i) (refused_line f.number)
