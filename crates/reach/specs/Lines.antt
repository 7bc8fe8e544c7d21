-- When a start, a step and a run are refused, as statements, over any ground and the lines of its own refusals.
--
--   Lines                 what the refusals of a ground say:
--     before              of its first rules
--     test r              of the test of the row r, behind those
--     row r z             of the flip of r along circuit z, behind those, but for 13: these refuse a step
--     NoFlip r z          13: r has no flip along z; it is no refusal of a step
--     result r z          the list that the flip of r along z leads to
--   Says v ls a           the lines ls say the answer a: the number of the first that holds, and v where none does
--   FlipSays L r z a      they say the answer a of the flip of r along z: the number of the first line of the row that holds; 13; or the list that it leads to
--   Lined g L             the ground g refuses as the lines L say
--   during A ls           the lines ls, each only where A holds
--   NoRow g t             11 at a start: the table has not one whole row
--   start_lines g L r t    the table of a start
--   Impossible g t w      15: rows 0, or beyond capacity, or the step number above rows × C
--   walk_lines g L t w     what a step and a run test first
--   Ahead g w             the walk is not done: a row and a circuit are left to try
--   row_at g t w, circuit_number g w    that row, and the number of that circuit
--   Flips g L t w         there is a flip
--   New g L t w, Full g t w    its result is none of the rows in use; there is no row for it
--   step_lines g L t w     the table of a step
--   RunRefuses g L t w b n    the run is: at its first tests, or at a step after k steps that were made
--
-- The theorems: proofs/LineLaws; of a run: proofs/Runs. Source: document 01, "The walk", "Refusal numbers".
use Rattle.std.specs.Prelude.{◌≡◌, ◌⊎◌, List, [], ◌∷◌, ◌++◌, ℕ, ◌*◌, ◌/◌, ◌%◌, ◌<◌, length}
use Rattle.algebra.specs.Answer.{Answer, gives, refuses, Line, First, Clear, Decides}
use Rattle.algebra.specs.Words.{row_of}
use Rattle.reach.specs.Walks.{Ground, WalkRecord, made, capacity_of, steps_of}
use Rattle.reach.specs.Reach.{Stands}

-- ---- the lines of a ground

pub record Lines : Type 1 where
  pub before : List Line
  pub test : List ℕ → List Line
  pub row : List ℕ → ℕ → List Line
  pub NoFlip : List ℕ → ℕ → Type 0
  pub result : List ℕ → ℕ → List ℕ

pub data Says {A : Type 0} (v : A) (ls : List Line) : Answer A → Type 0 where
  first-line : (n : ℕ) → First n ls → Says v ls (refuses n)
  no_line : Clear ls → Says v ls (gives v)

pub data FlipSays (L : Lines) (r : List ℕ) (z : ℕ) : Answer (List ℕ) → Type 0 where
  row-refused : (n : ℕ) → (n ≡ 13 → ⊥) → First n (L.row r z) → FlipSays L r z (refuses n)
  no-flip : Clear (L.row r z) → L.NoFlip r z → FlipSays L r z (refuses 13)
  flipped : Clear (L.row r z) → (L.NoFlip r z → ⊥) → FlipSays L r z (gives (L.result r z))

pub record Lined (g : Ground) (L : Lines) : Type 0 where
  pub decided : Decides g.before L.before
  pub tests : (r : List ℕ) → Says tt (L.before ++ L.test r) (g.test r)
  pub flips : Clear L.before → (r : List ℕ) (z : ℕ) → z < g.circuits → FlipSays L r z (g.flip r z)

abbrev pub during : Type 0 → List Line → List Line
during A [] = []
during A (x ∷ ls) = record { number = x.number; when = A × x.when } ∷ during A ls

-- ---- a start

abbrev pub NoRow : Ground → List ℕ → Type 0
NoRow g t = capacity_of g.words (length t) ≡ 0

abbrev pub start_lines : Ground → Lines → List ℕ → List ℕ → List Line
start_lines g L r t = (L.before ++ L.test r) ++ record { number = 11; when = NoRow g t } ∷ []

-- ---- a step

abbrev pub Impossible : Ground → List ℕ → WalkRecord → Type 0
Impossible g t w = (w.rows ≡ 0) ⊎ ((capacity_of g.words (length t) < w.rows) ⊎ (w.rows * g.circuits < w.step))

abbrev pub walk_lines : Ground → Lines → List ℕ → WalkRecord → List Line
walk_lines g L t w = L.before ++ record { number = 15; when = Impossible g t w } ∷ []

abbrev pub Ahead : Ground → WalkRecord → Type 0
Ahead g w = w.step ≡ w.rows * g.circuits → ⊥

abbrev pub row_at : Ground → List ℕ → WalkRecord → List ℕ
row_at g t w = row_of g.words t (w.step / g.circuits)

abbrev pub circuit_number : Ground → WalkRecord → ℕ
circuit_number g w = w.step % g.circuits

abbrev pub Flips : Ground → Lines → List ℕ → WalkRecord → Type 0
Flips g L t w = L.NoFlip (row_at g t w) (circuit_number g w) → ⊥

abbrev pub New : Ground → Lines → List ℕ → WalkRecord → Type 0
New g L t w = Stands g.words t w.rows (L.result (row_at g t w) (circuit_number g w)) → ⊥

abbrev pub Full : Ground → List ℕ → WalkRecord → Type 0
Full g t w = w.rows ≡ capacity_of g.words (length t)

abbrev pub step_lines : Ground → Lines → List ℕ → WalkRecord → List Line
step_lines g L t w =
    walk_lines g L t w ++ during (Ahead g w)
    (L.row (row_at g t w) (circuit_number g w) ++ record { number = 11; when = Flips g L t w × New g L t w × Full g t w } ∷ [])

-- ---- a run

abbrev pub RunRefuses : Ground → Lines → List ℕ → WalkRecord → ℕ → ℕ → Type 0
RunRefuses g L t w b n =
    First n (walk_lines g L t w)
    ⊎ (Clear (walk_lines g L t w)
    × ((k : ℕ) × (k < b) × ((steps_of g k t w).answer ≡ gives made) × First n (step_lines g L (steps_of g k t w).table (steps_of g k t w).walk)))
