-- The report line by line: what is known after the walk, and the lines that this makes.
--
--   find-refused, find_read, find_placed      the find of a refused record, of a patch, and of what placing answers
--   Fits f, find_fits, found_fits   the rows of a find fit into the table; so they do for every input, and so for what the code found
--   find-accepted       where surfaces are shown, the record was accepted
--   line_first, line_last, line_row           the three kinds of lines
--   count_shown, count-refused    how many lines there are
--   part-refused, part_shown     lines that follow each other, where a number is printed and where surfaces are shown
--   lines_surfaces      all lines of shown surfaces are their text
--   lines-refused, lines_end     so for a number alone, and for each answer of a walk
use Rattle.std.specs.Prelude.{◌≡◌, ℕ, zero, suc, ◌+◌, ◌-◌, ◌<◌, ◌≤◌, Bool, true, false, cond, eqb, List, ◌++◌, ℤ, Result, Ok, Err, IfOk}
use mathlib.Core.Path.{refl, sym, ◌∙◌, ap, subst}
use native.Mathlib.Omega.{arith}
use native.Mathlib.Numerals.{add-one}
use borrow.Author.Tests.{eq-eqb, ne_eqb}
use Rattle.algebra.specs.Answer.{Answer, gives, refuses}
use Rattle.algebra.specs.Loops.{run, over}
use Rattle.algebra.specs.Words.{row_of}
use Rattle.algebra.proofs.OverLaws.{over-turn, over-split, over_same}
use Rattle.reach.specs.Walks.{Reply, made, done}
use Rattle.shots.specs.Patch.{count_of}
use Rattle.triples.specs.Sizes.{word_count}
use Rattle.surfaces.specs.Calls.{placing_of}
use Rattle.surfaces.proofs.Promises.{placing_words}
use Rattle.records.specs.Reading.{coordinates_of}
use Rattle.records.specs.Calls.{read_patch_of}
use Rattle.text.specs.Lines.{last_line, refused_line}
use Rattle.text.proofs.PartLaws.{over_one}
use Rattle.report.specs.Sizes.{table_rows}
use Rattle.report.specs.Report.{Ended, first_line, line_at, surfaces_text, end_text, end_of, walk_of, Find, read_found, refused_find, end_find, walk_find, placed_find, patch_find, find_of, line_count, shown_line, line_of}
use Rattle.shots.specs.declared.refusal.Refusal.{Refusal}
use Rattle.report.specs.declared.Shown.{Shown}
use Rattle.report.proofs.WalkLaws.{placing_tested, rows_fit}

-- ---- what is known after the walk

pub find-refused : (b : List ℕ) (n : ℕ) → (read_patch_of b).answer ≡ refuses n → find_of b ≡ refused_find n
unfolding find_of
find-refused b n e = ap (λ (a : Answer ℕ). patch_find (coordinates_of b) a) e

pub find_read : (b : List ℕ) (n : ℕ) → (read_patch_of b).answer ≡ gives n → find_of b ≡ placed_find (coordinates_of b) (placing_of (coordinates_of b))
unfolding find_of
find_read b n e = ap (λ (a : Answer ℕ). patch_find (coordinates_of b) a) e

pub find_placed : (l : List ℤ) {a : Answer (List ℕ)} → a ≡ placing_of l → placed_find l a ≡ placed_find l (placing_of l)
find_placed l e = ap (λ (x : Answer (List ℕ)). placed_find l x) e

-- the rows of a find fit into a table of this size
abbrev pub Fits : Find → Type 0
Fits f = f.ended.walk.rows ≤ table_rows

pub found_fits : (r : Result Shown Refusal) (t : List ℕ) → Fits (read_found r t) → IfOk r (λ s. s.walk.rows ≤ table_rows)
found_fits (Ok s) t h = h
found_fits (Err x) t h = tt

end_fits : (x : Ended) (a : Answer Reply) → x.walk.rows ≤ table_rows → Fits (end_find x a)
end_fits x (gives made) h = h
end_fits x (gives done) h = h
end_fits x (refuses n) h = h

none_fits : (n : ℕ) → Fits (refused_find n)
none_fits n = omega arith

placed_fits : (l : List ℤ) (a : Answer (List ℕ)) → placing_of l ≡ a → Fits (placed_find l a)
unfolding walk_find
placed_fits l (gives w) e = end_fits (end_of l w) (walk_of l w).answer (rows_fit l w (placing_tested l w e) (placing_words l w e).0).1
placed_fits l (refuses n) e = none_fits n

pub find_fits : (b : List ℕ) → Fits (find_of b)
find_fits b = go (read_patch_of b).answer refl
  where
    go : (a : Answer ℕ) → (read_patch_of b).answer ≡ a → Fits (find_of b)
    go (gives n) e = subst Fits (sym (find_read b n e)) (placed_fits (coordinates_of b) (placing_of (coordinates_of b)) refl)
    go (refuses n) e = subst Fits (sym (find-refused b n e)) (none_fits n)

pub find-accepted : (b : List ℕ) → (find_of b).shown ≡ true → (n : ℕ) × ((read_patch_of b).answer ≡ gives n)
find-accepted b s = go (read_patch_of b).answer refl
  where
    go : (a : Answer ℕ) → (read_patch_of b).answer ≡ a → (n : ℕ) × ((read_patch_of b).answer ≡ gives n)
    go (gives n) e = (n, e)
    go (refuses n) e = let c : false ≡ true = sym (ap (λ (f : Find). f.shown) (find-refused b n e)) ∙ s in let z : ◌≡◌ {A = ℕ} 0 1 = cc in absurd (omega arith)

-- ---- the lines of shown surfaces

module _ (l : List ℤ) (x : Ended) (d : Bool) (i : ℕ) where
  -- by whether it is the first line, and then by whether it is the last
  abbrev later : Bool → List ℕ
  later b = cond b (last_line d x.walk.rows x.walk.step) (line_at (count_of l) x.table (i - 1))

  abbrev line : Bool → List ℕ
  line b = cond b (first_line l (row_of word_count x.table 0)) (later (eqb i (x.walk.rows + 1)))

  pub line_first : i ≡ 0 → shown_line l x d i ≡ first_line l (row_of word_count x.table 0)
  unfolding shown_line
  line_first e = ap line (eq-eqb i 0 e)

  pub line_last : (i ≡ 0 → ⊥) → i ≡ x.walk.rows + 1 → shown_line l x d i ≡ last_line d x.walk.rows x.walk.step
  unfolding shown_line
  line_last h e = ap line (ne_eqb i 0 h) ∙ ap later (eq-eqb i (x.walk.rows + 1) e)

  pub line_row : (i ≡ 0 → ⊥) → (i ≡ x.walk.rows + 1 → ⊥) → shown_line l x d i ≡ line_at (count_of l) x.table (i - 1)
  unfolding shown_line
  line_row h k = ap line (ne_eqb i 0 h) ∙ ap later (ne_eqb i (x.walk.rows + 1) k)

-- ---- lines that follow each other

module _ {A : Type 0} (f : ℕ → List A) where
  run_shift : (a k : ℕ) → run f (suc a) k ≡ run (λ i. f (i + 1)) a k
  unfolding run
  run_shift a zero = refl
  run_shift a (suc k) = λ i. f (sym (add-one a) i) ++ run_shift (suc a) k i

  over_shift : (n : ℕ) → over f 1 (n + 1) ≡ over (λ i. f (i + 1)) 0 n
  unfolding over
  over_shift n = ap (run f 1) (let e : n + 1 - 1 ≡ n - 0 = omega arith in e) ∙ run_shift 0 (n - 0)

module _ (f : Find) where
  pub count_shown : f.shown ≡ true → line_count f ≡ f.ended.walk.rows + 2
  count_shown e = ap (λ b. cond b (f.ended.walk.rows + 2) 1) e

  pub count-refused : f.shown ≡ false → line_count f ≡ 1
  count-refused e = ap (λ b. cond b (f.ended.walk.rows + 2) 1) e

module _ (l : List ℤ) (f : Find) where
  pub part-refused : (i j : ℕ) → f.shown ≡ false → i < j → j ≤ line_count f → over (line_of l f) i j ≡ refused_line f.number
  unfolding line_of
  part-refused i j e h k =
      over_one (line_of l f) i j (omega (arith, count-refused f e)) ∙ ap (λ b. cond b (shown_line l f.ended f.complete i) (refused_line f.number)) e

  pub part_shown : (i j : ℕ) → f.shown ≡ true → over (line_of l f) i j ≡ over (shown_line l f.ended f.complete) i j
  unfolding line_of
  part_shown i j e = λ k. over (λ (m : ℕ). cond (e k) (shown_line l f.ended f.complete m) (refused_line f.number)) i j

-- ---- all of them

module _ (l : List ℤ) (x : Ended) (d : Bool) where
  abbrev n : ℕ
  n = x.walk.rows

  rows_lines : over (shown_line l x d) 1 (n + 1) ≡ over (line_at (count_of l) x.table) 0 n
  rows_lines =
      over_shift (shown_line l x d) n
      ∙ over_same (λ i. shown_line l x d (i + 1)) (line_at (count_of l) x.table) n
      (λ i h. line_row l x d (i + 1) (λ e. omega arith) (λ e. omega arith) ∙ ap (line_at (count_of l) x.table) (let e : i + 1 - 1 ≡ i = omega arith in e))

  pub lines_surfaces : over (shown_line l x d) 0 (n + 2) ≡ surfaces_text l x d
  unfolding surfaces_text
  lines_surfaces =
      over-turn (shown_line l x d) 0 (n + 2) (omega arith)
      ∙ (λ k. line_first l x d 0 refl k ++ (over-split (shown_line l x d) 1 (n + 1) (n + 2) (omega arith) (omega arith)
      ∙ (λ k. rows_lines k ++ (over_one (shown_line l x d) (n + 1) (n + 2) (omega arith) ∙ line_last l x d (n + 1) (λ e. omega arith) refl) k)) k)

module _ (l : List ℤ) where
  abbrev lines_text : Find → List ℕ
  lines_text f = over (line_of l f) 0 (line_count f)

  pub lines-refused : (f : Find) → f.shown ≡ false → lines_text f ≡ refused_line f.number
  lines-refused f e = part-refused l f 0 (line_count f) e (omega (arith, count-refused f e)) (omega arith)

  lines_shown : (f : Find) → f.shown ≡ true → lines_text f ≡ surfaces_text l f.ended f.complete
  lines_shown f e =
      ap (over (line_of l f) 0) (count_shown f e)
      ∙ part_shown l f 0 (f.ended.walk.rows + 2) e ∙ lines_surfaces l f.ended f.complete

  pub lines_end : (x : Ended) (a : Answer Reply) → end_text l x a ≡ lines_text (end_find x a)
  lines_end x (gives made) = sym (lines_shown (end_find x (gives made)) refl)
  lines_end x (gives done) = sym (lines_shown (end_find x (gives done)) refl)
  lines_end x (refuses n) = go (eqb n 11) refl
    where
      go : (b : Bool) → eqb n 11 ≡ b → end_text l x (refuses n) ≡ lines_text (end_find x (refuses n))
      go true e = ap (λ b. cond b (surfaces_text l x false) (refused_line n)) e ∙ sym (lines_shown (end_find x (refuses n)) e)
      go false e = ap (λ b. cond b (surfaces_text l x false) (refused_line n)) e ∙ sym (lines-refused (end_find x (refuses n)) e)
