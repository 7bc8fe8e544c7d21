-- What the report promises of a patch record, beyond its text (specs/Report).
--
--   part_one            two texts that `lines::part` may print for the same lines are the same
--   report_lines        the report is its lines, one behind the other
--   parts_join          and so are its parts: lines i to j, then lines j to k
--   report-refused      a refused record: its number, and nothing else
--   report_long         so it is for all that is longer than a record can be, with 5: reading more bytes than that changes nothing
--   report_read         an accepted one: what placing answers decides
--   report_walk         where that is a surface w: the walk from w
--   report_surfaces     that walk keeps the promise of demand 3
--   walk_ends_so        the walk ends done, or with the table full
--   report_done         where it is done, the rows are printed, and they are exactly the surfaces that flips reach from w, each once
--   report_full         where the table is full, the rows are printed
--   report_begins       the report of an accepted record begins with the first line, whose four fields have what the calls give, and then the line of the placing surface
use Rattle.std.specs.Prelude.{◌≡◌, ℕ, ◌*◌, ◌≤◌, Bool, true, false, ◌⊎◌, ◌↔◌, List, ◌++◌, length, replicate, ℤ}
use mathlib.Core.Path.{refl, sym, ◌∙◌, ap}
use mathlib.Core.Logic.{inl, inr, ⊎_elim}
use mathlib.Core.List.{append_assoc, append-nil}
use native.Mathlib.Omega.{arith}
use Rattle.algebra.specs.Answer.{Answer, gives, refuses}
use Rattle.algebra.specs.Loops.{tally, run, over}
use Rattle.algebra.specs.Words.{Words}
use Rattle.algebra.proofs.OverLaws.{over-split}
use Rattle.reach.specs.Walks.{Reply, made, done}
use Rattle.reach.specs.Reach.{Stands}
use Rattle.reach.proofs.Runs.{run_done}
use Rattle.shots.specs.Patch.{count_of}
use Rattle.shots.specs.Calls.{sides_of}
use Rattle.shots.proofs.Promises.{shots_kept, border_gives}
use Rattle.outline.proofs.Outline.{border_counts_chains}
use Rattle.circuits.specs.Numbering.{circuits_of}
use Rattle.circuits.proofs.Promises.{count_gives}
use Rattle.triples.specs.Sizes.{word_count}
use Rattle.lists.specs.Calls.{test_of}
use Rattle.surfaces.specs.Areas.{area_sum_of}
use Rattle.surfaces.specs.Placing.{placed_of}
use Rattle.surfaces.specs.Calls.{placing_of}
use Rattle.surfaces.proofs.AreaSums.{area_sum_says}
use Rattle.surfaces.proofs.Promises.{placing_gives, placing_words}
use Rattle.walks.specs.Calls.{ground_of, walk_as}
use Rattle.walks.specs.Surfaces.{Reachable}
use Rattle.walks.specs.Demand.{Demand-3}
use Rattle.walks.proofs.Theorem.{walk_surfaces}
use Rattle.records.specs.Fields.{Bytes}
use Rattle.records.specs.Reading.{coordinates_of}
use Rattle.records.specs.Calls.{read_patch_of}
use Rattle.records.proofs.Promises.{read_patch_count, read_patch_accepted, read_patch_long}
use Rattle.text.specs.Lines.{patch_line, row_line, last_line, refused_line}
use Rattle.report.specs.Sizes.{table_words, steps_most}
use Rattle.report.specs.Report.{no_walk, begun_of, walk_of, first_line, line_at, surfaces_text, end_text, end_of, walk_text, placed_text, patch_text, report_of}
use Rattle.report.specs.Report.{refused_find, walk_find, placed_find, patch_find, find_of, line_count, line_of}
use Rattle.report.specs.FirstLines.{FirstLines}
use Rattle.report.proofs.WalkLaws.{placing_tested, begun_started, walk_walked, rows_fit, walk_not_made, walk_full}
use Rattle.report.proofs.LineLaws.{lines-refused, lines_end}

pub part_one : (b : List ℕ) (i j : ℕ) {s s' : List ℕ} → s ≡ over (line_of (coordinates_of b) (find_of b)) i j → s' ≡ over (line_of (coordinates_of b) (find_of b)) i j → s ≡ s'
part_one b i j p q = p ∙ sym q

pub parts_join : (b : List ℕ) (i j k : ℕ) → i ≤ j → j ≤ k
    → over (line_of (coordinates_of b) (find_of b)) i j ++ over (line_of (coordinates_of b) (find_of b)) j k ≡ over (line_of (coordinates_of b) (find_of b)) i k
parts_join b i j k h m = sym (over-split (line_of (coordinates_of b) (find_of b)) i j k h m)

placed_lines : (l : List ℤ) (a : Answer (List ℕ)) → placed_text l a ≡ over (line_of l (placed_find l a)) 0 (line_count (placed_find l a))
unfolding walk_text walk_find
placed_lines l (gives w) = lines_end l (end_of l w) (walk_of l w).answer
placed_lines l (refuses n) = sym (lines-refused l (refused_find n) refl)

patch_lines : (l : List ℤ) (a : Answer ℕ) → patch_text l a ≡ over (line_of l (patch_find l a)) 0 (line_count (patch_find l a))
patch_lines l (gives n) = placed_lines l (placing_of l)
patch_lines l (refuses n) = sym (lines-refused l (refused_find n) refl)

pub report_lines : (b : List ℕ) → report_of b ≡ over (line_of (coordinates_of b) (find_of b)) 0 (line_count (find_of b))
unfolding report_of find_of
report_lines b = patch_lines (coordinates_of b) (read_patch_of b).answer

pub report-refused : (b : List ℕ) (n : ℕ) → (read_patch_of b).answer ≡ refuses n → report_of b ≡ refused_line n
unfolding report_of
report-refused b n e = ap (λ (a : Answer ℕ). patch_text (coordinates_of b) a) e

pub report_long : (b : List ℕ) → Bytes b → 65538 ≤ length b → report_of b ≡ refused_line 5
report_long b v h = report-refused b 5 (read_patch_long b v h)

pub report_read : (b : List ℕ) (n : ℕ) → (read_patch_of b).answer ≡ gives n → report_of b ≡ placed_text (coordinates_of b) (placing_of (coordinates_of b))
unfolding report_of
report_read b n e = ap (λ (a : Answer ℕ). patch_text (coordinates_of b) a) e

pub report_walk : (b : List ℕ) (n : ℕ) (w : List ℕ) → (read_patch_of b).answer ≡ gives n → placing_of (coordinates_of b) ≡ gives w → report_of b ≡ walk_text (coordinates_of b) w
report_walk b n w e p = report_read b n e ∙ ap (λ (a : Answer (List ℕ)). placed_text (coordinates_of b) a) p

module _ (l : List ℤ) (w : List ℕ) (placed : placing_of l ≡ gives w) where
  accepted : test_of l w ≡ gives tt
  accepted = placing_tested l w placed

  words : Words word_count w
  words = placing_words l w placed

  pub report_surfaces : Demand-3 l w (begun_of l w).table (walk_as (begun_of l w).walk) (walk_of l w).table (walk_as (walk_of l w).walk)
  unfolding begun_of
  report_surfaces = walk_surfaces l w words (replicate table_words 0) no_walk (begun_started l w accepted) (walk_of l w).table (walk_as (walk_of l w).walk) (walk_walked l w accepted)

  -- it is never only made, and refused only for want of a row
  pub walk_ends_so : ((walk_of l w).answer ≡ gives done) ⊎ ((walk_of l w).answer ≡ refuses 11)
  walk_ends_so = go (walk_of l w).answer refl
    where
      go : (a : Answer Reply) → (walk_of l w).answer ≡ a → ((walk_of l w).answer ≡ gives done) ⊎ ((walk_of l w).answer ≡ refuses 11)
      go (gives made) e = absurd (walk_not_made l w accepted words.0 e)
      go (gives done) e = inl e
      go (refuses n) e = inr (e ∙ ap refuses (walk_full l w accepted words n e))

  pub report_done : (walk_of l w).answer ≡ gives done
      → (walk_text l w ≡ surfaces_text l (end_of l w) true) × ((walk_of l w).walk.step ≡ (walk_of l w).walk.rows * length (circuits_of l))
      × ((v : List ℕ) → Stands word_count (walk_of l w).table (walk_of l w).walk.rows v ↔ Reachable l w v)
  unfolding walk_text walk_of
  report_done e =
      let s = (run_done (ground_of l) (begun_of l w).table (begun_of l w).walk steps_most e).5 in
      (ap (λ (a : Answer Reply). end_text l (end_of l w) a) e, s, report_surfaces.whole s)

  pub report_full : (walk_of l w).answer ≡ refuses 11 → walk_text l w ≡ surfaces_text l (end_of l w) false
  unfolding walk_text
  report_full e = ap (λ (a : Answer Reply). end_text l (end_of l w) a) e

  -- so its surfaces are shown
  walk_shows : (d : Bool) × (walk_text l w ≡ surfaces_text l (end_of l w) d)
  walk_shows = ⊎_elim (λ e. (true, (report_done e).0)) (λ e. (false, report_full e)) walk_ends_so

  first-row : over (line_at (count_of l) (walk_of l w).table) 0 (walk_of l w).walk.rows ≡ row_line (count_of l) 0 w ++ over (line_at (count_of l) (walk_of l w).table) 1 (walk_of l w).walk.rows
  unfolding line_at over run
  first-row =
      over-split (line_at (count_of l) (walk_of l w).table) 0 1 (walk_of l w).walk.rows (omega arith) (rows_fit l w accepted words.0).0
      ∙ (λ k. append-nil (row_line (count_of l) 0 (report_surfaces.first k)) k ++ over (line_at (count_of l) (walk_of l w).table) 1 (walk_of l w).walk.rows)

  surfaces-begin : (d : Bool) → surfaces_text l (end_of l w) d
      ≡ first_line l w ++ (row_line (count_of l) 0 w ++ (over (line_at (count_of l) (walk_of l w).table) 1 (walk_of l w).walk.rows ++ last_line d (walk_of l w).walk.rows (walk_of l w).walk.step))
  unfolding surfaces_text
  surfaces-begin d =
      let last : List ℕ = last_line d (walk_of l w).walk.rows (walk_of l w).walk.step in
      (λ k. first_line l (report_surfaces.first k) ++ (first-row k ++ last))
      ∙ ap (λ (s : List ℕ). first_line l w ++ s) (append_assoc (row_line (count_of l) 0 w) (over (line_at (count_of l) (walk_of l w).table) 1 (walk_of l w).walk.rows) last)

pub report_begins : (b : List ℕ) (n : ℕ) → (read_patch_of b).answer ≡ gives n → FirstLines b n
unfolding first_line
report_begins b n e =
    let l : List ℤ = coordinates_of b in
    let patch = (shots_kept l).1 (read_patch_accepted b n e) in
    let placed = (placing_gives l (placed_of l)).1 (patch, refl) in
    let (d, shown) = walk_shows l (placed_of l) placed in
    record {
      row = placed_of l;
      circuits = length (circuits_of l);
      sides = tally (count_of l) (sides_of l);
      area = area_sum_of l (placed_of l);
      rest = over (line_at (count_of l) (walk_of l (placed_of l)).table) 1 (walk_of l (placed_of l)).walk.rows ++ last_line d (walk_of l (placed_of l)).walk.rows (walk_of l (placed_of l)).walk.step;
      text = report_walk b n (placed_of l) e placed ∙ shown ∙ surfaces-begin l (placed_of l) placed d
          ∙ (λ k. patch_line (read_patch_count b n e k) (length (circuits_of l)) (tally (count_of l) (sides_of l)) (area_sum_of l (placed_of l)) ++ (row_line (read_patch_count b n e k) 0 (placed_of l)
          ++ (over (line_at (count_of l) (walk_of l (placed_of l)).table) 1 (walk_of l (placed_of l)).walk.rows ++ last_line d (walk_of l (placed_of l)).walk.rows (walk_of l (placed_of l)).walk.step)));
      row_is = placed;
      circuits_is = (count_gives l _).1 (patch, refl);
      sides_is = (border_gives l _).1 (patch, refl);
      sides-along = ((border_counts_chains l _).0 ((border_gives l _).1 (patch, refl))).1;
      area_is = (area_sum_says l patch (placed_of l) _).1 refl;
    }
