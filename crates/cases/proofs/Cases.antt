-- Every proved case of documents 01 and 02 holds (`cases_right`, `controller_right`), by computation on the definitions that the contracts cite.
use mathlib.Core.Path.{◌≡◌, refl}
use mathlib.Core.List.{map}
use lib.Count.{count_trailing_zeros}
use lib.Ieee.{span, climb, size, odd, units, round, mul, div, of_int}
use Rattle.algebra.specs.Answer.{chain, refusal}
use Rattle.algebra.specs.Loops.{any, any_of, first, fold, picks, tally, tabulate, run, over}
use Rattle.algebra.specs.Sign.{sign_of, opposite, value}
use Rattle.algebra.specs.Sets.{is_on, all_on, same_list, union, dropped, mask_of, bit, nest, place_of}
use Rattle.algebra.specs.Writing.{wrote}
use Rattle.algebra.specs.Words.{set_bit, member, put_in, sift, row_of, set_row}
use Rattle.shots.specs.Coordinates.{x_of, y_of, area_of}
use Rattle.shots.specs.Patch.{orient_of, between_of, some_left, some_right, border_of, outside_at, some_outside, side_pair_of, before_of}
use Rattle.shots.specs.Tests.{bad_count, far_at, some_far, same_at, same_before, some_same, bent_at, bent_of, bent_before, some_bent}
use Rattle.shots.specs.Calls.{orientation_of, sign_at, cocircuit_of, sides_of, border_call_of}
use Rattle.outline.specs.Wrapping.{first_of, passes_of, next_of, chain_from, chain_of}
use Rattle.outline.specs.Calls.{room_of, chains_of}
use Rattle.circuits.specs.Sides.{side, split}
use Rattle.circuits.specs.Numbering.{one_if, three, threes_with, threes_from, threes, four, fours_upon, fours_with, fours_from, fours, circuits_of}
use Rattle.circuits.specs.Calls.{count_call_of, circuit_call_of}
use Rattle.triples.specs.Ranks.{triple_count, triple_at, rank_of}
use Rattle.lists.specs.Tests.{is_flat, past_last, some_flat, is_empty, sides_in, crosses, crossing, shared, open_at, open_edge, list_refusal_of}
use Rattle.lists.specs.Calls.{test_of}
use Rattle.lists.specs.Tests.{listed}
use Rattle.surfaces.specs.Flips.{support_of, pieces_of, completes, some_link, mixed_links, supports, joins, exchanged, flipped_of}
use Rattle.surfaces.specs.Placing.{first_off, begin_of, third_in, lone_third, visible, with_edge, with_edges, place_shot, place_next, placed_of}
use Rattle.surfaces.specs.Areas.{triple_area_of, area_sum_of}
use Rattle.surfaces.specs.Calls.{placing_of, flip_of}
use Rattle.reach.specs.Walks.{seen_in, impossible, store_of, try_of, step_of, steps_of, run_of, start_of}
use Rattle.intake.specs.Nearest.{whole_of}
use Rattle.intake.specs.Scaling.{float, foot_of, scaled_of}
use Rattle.intake.specs.Tests.{far_off}
use Rattle.intake.specs.Calls.{take_of}
use Rattle.cases.specs.Table.{Case, reply_to, table}
use Rattle.cases.specs.Controller.{Given, controller}

pub cases_right : map (λ (c : Case). reply_to c.patch c.asked) table ≡ map (λ (c : Case). c.stated) table
unfolding chain any tally tabulate run over sign_of opposite value x_of y_of area_of orient_of between_of bad_count far_at some_far same_at same_before some_same bent_at bent_of bent_before some_bent orientation_of sign_at cocircuit_of sides_of border_call_of side split mask_of one_if three threes_with threes_from threes four fours_upon fours_with fours_from fours circuits_of count_call_of circuit_call_of refusal any_of first fold picks is_on all_on same_list union dropped bit nest place_of set_bit member put_in sift some_left some_right border_of outside_at some_outside side_pair_of triple_count triple_at rank_of is_flat past_last some_flat is_empty sides_in crosses crossing shared open_at open_edge list_refusal_of test_of triple_area_of area_sum_of listed support_of pieces_of completes some_link mixed_links supports joins exchanged flipped_of first_off begin_of third_in lone_third visible with_edge with_edges place_shot place_next placed_of placing_of flip_of row_of set_row seen_in impossible store_of try_of step_of steps_of run_of start_of wrote before_of first_of passes_of next_of chain_from chain_of room_of chains_of
cases_right = refl

pub controller_right : map (λ (g : Given). take_of g.edition g.shots g.count) controller ≡ map (λ (g : Given). g.stated) controller
unfolding chain any any_of wrote sign_of x_of y_of area_of orient_of bad_count far_at some_far same_at same_before some_same bent_at bent_of bent_before some_bent whole_of float foot_of scaled_of far_off take_of count_trailing_zeros span climb size odd units round mul div of_int
controller_right = refl
