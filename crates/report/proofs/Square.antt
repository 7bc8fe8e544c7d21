-- Document 01's example, the square with its centre: its record, read and written, and what `patchwalk` prints for it, by computation on the definitions that the contracts cite.
-- The walk computes in a table of three rows and is the same in one of 4,096 (reach `run_spare`), and with more steps asked for (`run_longer`).
--
--   square, bytes, ended    the patch, its record, and where its walk ends: three rows, nine steps
--   square_bytes    the record of the patch
--   square_read     five shots, and they are the patch
--   square_placed   its placing surface
--   square_walk     the walk from it in a table of three rows: ten steps asked for, nine made, three rows, done
--   square_lines    the five lines of document 01, from the rows and the record that this walk ends with
--   square_report   the report of the record's bytes is those five lines
use Rattle.std.specs.Prelude.{◌≡◌, ℕ, ◌<◌, true, false, List, [], ◌∷◌, ◌++◌, length, ℤ, pos}
use mathlib.Core.Path.{refl, sym, ◌∙◌, ap, subst}
use native.Mathlib.Omega.{arith}
use lib.ListN.{length-replicate}
use Rattle.algebra.specs.Answer.{gives, chain, refusal}
use Rattle.algebra.specs.Loops.{any, any_of, first, fold, picks, tally, tabulate, run, over}
use Rattle.algebra.specs.Sign.{sign_of, opposite}
use Rattle.algebra.specs.Sets.{is_on, all_on, same_list, union, dropped, bit, nest, place_of, mask_of}
use Rattle.algebra.specs.Words.{set_bit, member, put_in, sift, row_of, set_row}
use Rattle.algebra.specs.Writing.{ascii, digits_of, decimal_of}
use Rattle.algebra.proofs.AnswerLaws.{given-refused}
use Rattle.algebra.proofs.OverLaws.{over_same}
use Rattle.algebra.proofs.WordLaws.{row_same, set_row-length}
use Rattle.reach.specs.Walks.{WalkRecord, started, Reply, done, Landing, leaves, capacity_of, seen_in, impossible, store_of, try_of, step_of, steps_of, run_of}
use Rattle.reach.proofs.StepLaws.{possible_holds, done_made}
use Rattle.reach.proofs.SpareLaws.{SameRows, Matches, run_spare, run_longer}
use Rattle.shots.specs.Coordinates.{x_of, y_of, area_of}
use Rattle.shots.specs.Patch.{count_of, orient_of, between_of, some_left, some_right, border_of, outside_at, some_outside, side_pair_of}
use Rattle.shots.specs.Tests.{bad_count, far_at, some_far, same_at, same_before, some_same, bent_at, bent_of, bent_before, some_bent}
use Rattle.shots.specs.Calls.{sides_of}
use Rattle.circuits.specs.Sides.{side, split}
use Rattle.circuits.specs.Numbering.{one_if, three, threes_with, threes_from, threes, four, fours_upon, fours_with, fours_from, fours, circuits_of}
use Rattle.triples.specs.Sizes.{word_count}
use Rattle.triples.specs.Ranks.{triple_count, triple_at, rank_of}
use Rattle.triples.specs.Sets.{size_of}
use Rattle.lists.specs.Tests.{is_flat, past_last, some_flat, is_empty, sides_in, crosses, crossing, shared, open_at, open_edge, list_refusal_of}
use Rattle.lists.specs.Tests.{listed}
use Rattle.surfaces.specs.Flips.{support_of, pieces_of, completes, some_link, mixed_links, supports, joins, exchanged, flipped_of}
use Rattle.surfaces.specs.Placing.{first_off, begin_of, third_in, lone_third, visible, with_edge, with_edges, place_shot, place_next, placed_of}
use Rattle.surfaces.specs.Calls.{placing_of, flip_of}
use Rattle.surfaces.specs.Areas.{triple_area_of, area_sum_of}
use Rattle.walks.specs.Calls.{ground_of}
use Rattle.walks.proofs.StepsLaws.{flip_keeps}
use Rattle.records.specs.Fields.{bytes_of, field_of, code_of, signed_of}
use Rattle.records.specs.Formats.{coordinate_bytes, patch_bytes}
use Rattle.records.specs.Reading.{misfits, coordinate_at, coordinates_of}
use Rattle.records.specs.Calls.{read_patch_of}
use Rattle.text.specs.Lines.{uses_of, used_of, shots_text, triple_text, rank_text, triples_text, patch_line, row_line, end_word, last_line}
use Rattle.report.specs.Sizes.{table_rows, table_words, steps_most}
use Rattle.report.specs.Report.{begun_of, walk_of, Ended, first_line, line_at, surfaces_text, end_text, end_of, walk_text, report_of}
use Rattle.report.proofs.WalkLaws.{placing_tested, zeros, begun_is}
use Rattle.report.proofs.Promises.{report_walk}

abbrev pub square : List ℤ
square = pos 0 ∷ pos 0 ∷ pos 2 ∷ pos 0 ∷ pos 2 ∷ pos 2 ∷ pos 0 ∷ pos 2 ∷ pos 1 ∷ pos 1 ∷ []

abbrev pub bytes : List ℕ
bytes = 0 ∷ 42 ∷ 1 ∷ 5 ∷ 0 ∷ 0 ∷ 0 ∷ 0 ∷ 0 ∷ 0 ∷ 0 ∷ 0 ∷ 0 ∷ 0 ∷ 0 ∷ 2 ∷ 0 ∷ 0 ∷ 0 ∷ 0 ∷ 0 ∷ 0 ∷ 0 ∷ 2 ∷ 0 ∷ 0 ∷ 0 ∷ 2 ∷ 0 ∷ 0 ∷ 0 ∷ 0 ∷ 0 ∷ 0 ∷ 0 ∷ 2 ∷ 0 ∷ 0 ∷ 0 ∷ 1 ∷ 0 ∷ 0 ∷ 0 ∷ 1 ∷ []

-- three rows: 012 023, then 014 034 124 234, then 013 123
abbrev pub ended : Ended
ended = record { walk = record { rows = 3; step = 9 }; table = 9 ∷ 0 ∷ 676 ∷ 0 ∷ 66 ∷ 0 ∷ [] }

pub square_bytes : patch_bytes square ≡ bytes
unfolding run over bytes_of code_of coordinate_bytes patch_bytes
square_bytes = refl

pub square_read : ((read_patch_of bytes).answer ≡ gives 5) × (coordinates_of bytes ≡ square)
unfolding chain any tabulate sign_of x_of y_of area_of orient_of far_at some_far same_at same_before some_same bent_at bent_of bent_before some_bent field_of signed_of misfits coordinate_at coordinates_of read_patch_of
square_read = (refl, refl)

pub square_lines : surfaces_text square ended true ≡ ascii "patch 5 circuits 3 border 4 area2 8\n0 2 4 012 023\n1 4 5 014 034 124 234\n2 2 4 013 123\ndone 3 9\n"
unfolding any tally tabulate run over sign_of x_of y_of area_of orient_of between_of some_left some_right border_of outside_at some_outside side_pair_of sides_of is_on bit nest member row_of one_if three threes_with threes_from threes four fours_upon fours_with fours_from fours circuits_of triple_count triple_at size_of area_sum_of triple_area_of digits_of decimal_of uses_of used_of shots_text triple_text rank_text triples_text patch_line row_line end_word last_line first_line line_at surfaces_text
square_lines = refl

-- ---- from the bytes to the lines

-- the placing surface: 012 023
abbrev halves : List ℕ
halves = 9 ∷ 0 ∷ []

pub square_placed : placing_of square ≡ gives halves
unfolding chain any any_of first fold picks tabulate run over sign_of opposite x_of y_of area_of orient_of bad_count far_at some_far same_at same_before some_same bent_at bent_of bent_before some_bent is_on same_list union bit nest place_of set_bit member put_in triple_count triple_at rank_of listed first_off begin_of third_in lone_third visible with_edge with_edges place_shot place_next placed_of placing_of
square_placed = refl

-- a table of three rows behind the start
abbrev begun : List ℕ
begun = 9 ∷ 0 ∷ 0 ∷ 0 ∷ 0 ∷ 0 ∷ []

abbrev at_first : WalkRecord
at_first = record { rows = 1; step = 0 }

pub square_walk : run_of (ground_of square) begun at_first 10 ≡ leaves ended.table ended.walk (gives done)
unfolding chain refusal any any_of fold picks tabulate run over sign_of opposite x_of y_of area_of orient_of between_of bad_count far_at some_far same_at same_before some_same bent_at bent_of bent_before some_bent side split mask_of one_if three threes_with threes_from threes four fours_upon fours_with fours_from fours circuits_of is_on all_on same_list union dropped bit nest place_of set_bit member put_in sift some_left some_right border_of triple_count triple_at rank_of is_flat past_last some_flat is_empty sides_in crosses crossing shared open_at open_edge list_refusal_of listed support_of pieces_of completes some_link mixed_links supports joins exchanged flipped_of flip_of row_of set_row seen_in impossible store_of try_of step_of steps_of run_of
square_walk = refl

first-row : row_of word_count begun 0 ≡ halves
unfolding row_of tabulate
first-row = refl

-- the same with as many steps as the program asks for
walk_longer : run_of (ground_of square) begun at_first steps_most ≡ leaves ended.table ended.walk (gives done)
walk_longer = run_longer (ground_of square) begun at_first 10 steps_most (omega arith) (λ e. done_made (sym (ap (λ (x : Landing Reply). x.answer) square_walk) ∙ e)) ∙ square_walk

-- and in the program's table
walk_there : Matches word_count (leaves ended.table ended.walk (gives done)) (walk_of square halves)
unfolding walk_of
walk_there =
    rw begin
    (subst (λ (x : Landing Reply). Matches word_count x (run_of (ground_of square) (set_row zeros 0 halves) at_first steps_most)) walk_longer
    (run_spare (ground_of square) (flip_keeps square) begun (set_row zeros 0 halves) at_first steps_most possible (omega (arith, room)) same
    (λ e. given-refused (sym (ap (λ (x : Landing Reply). x.answer) walk_longer) ∙ e)) (rw walk_longer (omega (arith, room)))))
  where
    begin : begun_of square halves ≡ leaves (set_row zeros 0 halves) at_first (gives started)
    begin = begun_is square halves (placing_tested square halves square_placed)

    long : length (set_row zeros 0 halves) ≡ table_words
    long = set_row-length zeros 0 halves ∙ length-replicate {A = ℕ} table_words 0

    room : capacity_of word_count (length (set_row zeros 0 halves)) ≡ table_rows
    room = ap (capacity_of word_count) long

    possible : impossible (capacity_of word_count (length begun)) at_first (length (circuits_of square)) ≡ false
    possible = possible_holds 3 at_first (length (circuits_of square)) (omega arith) (omega arith) (omega arith)

    same : SameRows word_count 1 begun (set_row zeros 0 halves)
    same p h = subst (λ (q : ℕ). row_of word_count begun q ≡ row_of word_count (set_row zeros 0 halves) q) (let e : 0 ≡ p = omega arith in e) (first-row ∙ sym (row_same word_count zeros 0 halves refl (omega (arith, length-replicate {A = ℕ} table_words 0))))

-- what is printed depends on the rows in use alone
surfaces_same : (l : List ℤ) (x y : Ended) → 0 < x.walk.rows → x.walk ≡ y.walk → SameRows word_count x.walk.rows x.table y.table → surfaces_text l x true ≡ surfaces_text l y true
unfolding surfaces_text line_at
surfaces_same l x y h e same = λ k. first_line l (same 0 h k) ++ (rows k ++ last_line true (e k).rows (e k).step)
  where
    rows : over (λ p. row_line (count_of l) p (row_of word_count x.table p)) 0 x.walk.rows ≡ over (λ p. row_line (count_of l) p (row_of word_count y.table p)) 0 y.walk.rows
    rows = over_same _ _ x.walk.rows (λ p m. ap (row_line (count_of l) p) (same p m)) ∙ ap (λ (v : WalkRecord). over (λ p. row_line (count_of l) p (row_of word_count y.table p)) 0 v.rows) e

pub square_report : report_of bytes ≡ ascii "patch 5 circuits 3 border 4 area2 8\n0 2 4 012 023\n1 4 5 014 034 124 234\n2 2 4 013 123\ndone 3 9\n"
unfolding walk_text
square_report =
    report_walk bytes 5 halves square_read.0 (ap placing_of square_read.1 ∙ square_placed)
    ∙ ap (λ (l : List ℤ). walk_text l halves) square_read.1
    ∙ ap (end_text square (end_of square halves)) (sym walk_there.answer)
    ∙ sym (surfaces_same square ended (end_of square halves) (omega arith) walk_there.walk walk_there.rows)
    ∙ square_lines
