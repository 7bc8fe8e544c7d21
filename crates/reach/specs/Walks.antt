-- The walk over flips as functions that compute, for any flip and any test: what start, step and run answer, and all that they leave.
--
--   Ground                 what is walked over:
--     before               the rules that are tested before all else (those of the shots)
--     words, circuits      the words of a row, and C, the number of circuits
--     test r               the list r is accepted, or refused by a number
--     flip r z             the row r flipped along circuit z, or a refusal number; 13 where there is no flip
--   WalkRecord             the walk record: the rows in use, and the step number
--   Begun, Reply           what a call answers that is not refused: a start started, a step and a run made or done
--   Landing A              all that a call leaves: its answer, one of A or a refusal number, the record, the whole table
--   leaves t w a           the answer a, with the table t and the record w
--   only_if t w x           what x gives; where x is a refusal, that, and everything as it was
--   rows_most               65,535
--   capacity_of k n         the whole rows of k words in a table of n words, at most rows_most
--   seen_in k t n r         r is one of the first n rows
--   impossible m w c       15: no walk record for m rows and c circuits: rows 0 or above m, or the step number above rows × c
--   walk_rules g t w        what a step and a run test first; `record_rule g t w`: 15, behind the rules of the ground
--   counted w, grown w     the record after a step that wrote nothing, that wrote a row
--   store_of k find t w r   a flip's result r: known, where `find` says that it is one of the rows in use; or no room (11), or written at the next row
--   after_flip g t w x      what a step makes of the flip's answer x: 13 is no refusal, the step is counted
--   try_of g t w            done at step rows × C; else circuit step mod C is tried on row step div C
--   step_of g t w           a step
--   go_on l a m             m where the landing l answers made, and else l itself; a is l's answer
--   steps_of g b t w        steps until b are made, or one answers done or refuses
--   run_of g t w b          a run
--   begin g t w r a        what a start makes of the test's answer a
--   start_of g t w r        a start
--
-- Theorems: specs/Walked and proofs/. Source: document 01, "The walk", "Refusal numbers".
use Rattle.std.specs.Prelude.{Bool, cond, ◌||◌, List, [], ◌∷◌, ◌++◌, ℕ, zero, suc, ◌+◌, ◌*◌, ◌/◌, ◌%◌, min, ltb, eqb, length}
use Rattle.algebra.specs.Answer.{Answer, gives, refuses, Rule, chain}
use Rattle.algebra.specs.Loops.{any}
use Rattle.algebra.specs.Sets.{same_list}
use Rattle.algebra.specs.Words.{row_of, set_row}

pub record Ground : Type 0 where
  pub before : List Rule
  pub words : ℕ
  pub circuits : ℕ
  pub test : List ℕ → Answer (Unit {0})
  pub flip : List ℕ → ℕ → Answer (List ℕ)

pub record WalkRecord : Type 0 where
  pub rows : ℕ
  pub step : ℕ

pub data Begun : Type 0 where
  started : Begun

pub data Reply : Type 0 where
  made done : Reply

pub record Landing (A : Type 0) : Type 0 where
  pub answer : Answer A
  pub walk : WalkRecord
  pub table : List ℕ

abbrev pub leaves : {A : Type 0} → List ℕ → WalkRecord → Answer A → Landing A
leaves t w a = record { answer = a; walk = w; table = t }

abbrev pub only_if : {A : Type 0} → List ℕ → WalkRecord → Answer (Landing A) → Landing A
only_if t w (gives l) = l
only_if t w (refuses n) = leaves t w (refuses n)

-- ---- the table and the record

abbrev pub rows_most : ℕ
rows_most = 65535

abbrev pub capacity_of : ℕ → ℕ → ℕ
capacity_of k n = min (n / k) rows_most

unfoldable pub seen_in : ℕ → List ℕ → ℕ → List ℕ → Bool
seen_in k t n r = any n (λ p. same_list (row_of k t p) r)

unfoldable pub impossible : ℕ → WalkRecord → ℕ → Bool
impossible m w c = eqb w.rows 0 || (ltb m w.rows || ltb (w.rows * c) w.step)

abbrev pub record_rule : Ground → List ℕ → WalkRecord → Rule
record_rule g t w = record { number = 15; broken = impossible (capacity_of g.words (length t)) w g.circuits }

abbrev pub walk_rules : Ground → List ℕ → WalkRecord → List Rule
walk_rules g t w = g.before ++ record_rule g t w ∷ []

abbrev pub counted : WalkRecord → WalkRecord
counted w = record { rows = w.rows; step = w.step + 1 }

abbrev pub grown : WalkRecord → WalkRecord
grown w = record { rows = w.rows + 1; step = w.step + 1 }

-- ---- a step

unfoldable pub store_of : ℕ → (List ℕ → Bool) → List ℕ → WalkRecord → List ℕ → Landing Reply
store_of k find t w r =
    cond (find r) (leaves t (counted w) (gives made))
    (cond (eqb w.rows (capacity_of k (length t))) (leaves t w (refuses 11))
    (leaves (set_row t w.rows r) (grown w) (gives made)))

abbrev pub after_flip : Ground → List ℕ → WalkRecord → Answer (List ℕ) → Landing Reply
after_flip g t w (gives r) = store_of g.words (seen_in g.words t w.rows) t w r
after_flip g t w (refuses n) = cond (eqb n 13) (leaves t (counted w) (gives made)) (leaves t w (refuses n))

unfoldable pub try_of : Ground → List ℕ → WalkRecord → Landing Reply
try_of g t w =
    cond (eqb w.step (w.rows * g.circuits)) (leaves t w (gives done))
    (after_flip g t w (g.flip (row_of g.words t (w.step / g.circuits)) (w.step % g.circuits)))

unfoldable pub step_of : Ground → List ℕ → WalkRecord → Landing Reply
step_of g t w = only_if t w (chain (walk_rules g t w) (try_of g t w))

-- ---- a run, a start

abbrev pub go_on : Landing Reply → Answer Reply → Landing Reply → Landing Reply
go_on l (gives made) m = m
go_on l (gives done) m = l
go_on l (refuses n) m = l

unfoldable pub steps_of : Ground → ℕ → List ℕ → WalkRecord → Landing Reply
steps_of g zero t w = leaves t w (gives made)
steps_of g (suc b) t w = go_on (step_of g t w) (step_of g t w).answer (steps_of g b (step_of g t w).table (step_of g t w).walk)

unfoldable pub run_of : Ground → List ℕ → WalkRecord → ℕ → Landing Reply
run_of g t w b = only_if t w (chain (walk_rules g t w) (steps_of g b t w))

abbrev pub begin : Ground → List ℕ → WalkRecord → List ℕ → Answer (Unit {0}) → Landing Begun
begin g t w r (gives v) =
    cond (eqb (capacity_of g.words (length t)) 0) (leaves t w (refuses 11))
    (leaves (set_row t 0 r) (record { rows = 1; step = 0 }) (gives started))
begin g t w r (refuses n) = leaves t w (refuses n)

unfoldable pub start_of : Ground → List ℕ → WalkRecord → List ℕ → Landing Begun
start_of g t w r = begin g t w r (g.test r)
