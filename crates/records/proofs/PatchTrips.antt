-- A patch record and its coordinates, there and back.
--
--   patch_bytes_again     the record of the coordinates of a record in form is that record
--   patch_head            how the record of a patch begins
--   patch_read_again      the coordinates of a patch's record are the patch's
--   patch_unbroken        and the reader's rules are unbroken
use mathlib.Core.Path.{◌≡◌, refl, sym, ◌∙◌, ap, subst}
use mathlib.Core.Bool.{◌||◌}
use mathlib.Core.List.{List}
use Prim.Native.Nat.{ℕ, ◌+◌, ◌*◌, ◌<◌, ◌≤◌}
use native.Mathlib.Omega.{arith}
use lib.Dec.{ltb}
use lib.ListN.{length, get_or, take, drop, length-drop}
use lib.Seq.{ext_get_or, take_all}
use lib.IntN.{ℤ, pos, nat_abs}
use Rattle.algebra.specs.Loops.{over}
use Rattle.algebra.proofs.AnswerLaws.{Unbroken, refusal_unbroken}
use Rattle.algebra.proofs.LoopLaws.{get_d_tabulate}
use Rattle.algebra.proofs.OverLaws.{over_at, over_taken}
use Rattle.shots.specs.Sizes.{shots_least, shots_most, farthest}
use Rattle.shots.specs.Patch.{count_of}
use Rattle.shots.specs.Tests.{place_rules, shot_rules, refusal_of, Near}
use Rattle.shots.proofs.Patch.{patch_near, patch_few, patch_even}
use Rattle.shots.proofs.Decided.{count_test}
use Rattle.shots.proofs.Chains.{shots_numbered}
use Rattle.records.specs.Sizes.{version}
use Rattle.records.specs.Fields.{Bytes, bytes_of, field_of, code_of, signed_of}
use Rattle.records.specs.Formats.{coordinate_bytes, patch_bytes}
use Rattle.records.specs.Reading.{patch_frame, coordinate_at, coordinates_of, patch_rules}
use Rattle.records.proofs.FieldLaws.{field_bytes, bytes_field, field_low, signed_code, code-signed, code_low}
use Rattle.records.proofs.FormatLaws.{coordinates_sized, patch-length, Head, headed, head_written, head_again, field_behind}
use Rattle.records.proofs.FormatLaws.{same_test, test_same, framed, patch_framed, coordinates-length}

-- ---- a record that is read

module _ (b : List ℕ) (v : Bytes b) (u : Unbroken (patch_frame b)) where
  field : field_of 2 b 0 ≡ 2 + 8 * get_or b 3 0
  field = test_same (field_of 2 b 0) (2 + 8 * get_or b 3 0) u.1.1.1.0

  long : 4 + 8 * get_or b 3 0 ≡ length b
  long = (patch_framed b u).2

  read_head : Head (2 + 8 * get_or b 3 0) (get_or b 3 0) (drop 4 b) b
  read_head = record { field = field; mark = test_same (get_or b 2 0) version u.1.0; shots = refl; rest = refl; long = let l = long in omega (arith, length-drop 4 b) }

  piece : (i : ℕ) → i < 2 * get_or b 3 0 → coordinate_bytes (coordinates_of b) i ≡ take 4 (drop (4 + 4 * i) b)
  unfolding coordinate_bytes coordinates_of coordinate_at
  piece i h =
      ap (λ (z : ℤ). bytes_of 4 (code_of z)) (get_d_tabulate (coordinate_at b) (2 * get_or b 3 0) i (pos 0) h)
      ∙ ap (bytes_of 4) (code-signed (field_of 4 b (4 + 4 * i)) (field_low 4 b (4 + 4 * i) v)) ∙ bytes_field 4 b (4 + 4 * i) v (let l = long in omega arith)

  pieces : over (coordinate_bytes (coordinates_of b)) 0 (length (coordinates_of b)) ≡ drop 4 b
  pieces =
      ap (over (coordinate_bytes (coordinates_of b)) 0) (coordinates-length b) ∙ over_taken (coordinate_bytes (coordinates_of b)) b 4 4 (2 * get_or b 3 0) piece
      ∙ take_all (4 * (2 * get_or b 3 0)) (drop 4 b) (let l = long in omega (arith, length-drop 4 b))

  pub patch_bytes_again : patch_bytes (coordinates_of b) ≡ b
  unfolding patch_bytes
  patch_bytes_again = (λ i. headed (2 + 8 * count i) (count i) (pieces i)) ∙ head_again (2 + 8 * get_or b 3 0) (get_or b 3 0) (drop 4 b) b v read_head
    where
      count : count_of (coordinates_of b) ≡ get_or b 3 0
      count = let e = coordinates-length b in omega arith

-- ---- a patch that is written

module _ (l : List ℤ) (h : refusal_of l ≡ 0) where
  low : (i : ℕ) → nat_abs (get_or l i (pos 0)) ≤ farthest
  unfolding Near
  low i = patch_near l h i

  pub patch_head : Head (2 + 8 * count_of l) (count_of l) (over (coordinate_bytes l) 0 (length l)) (patch_bytes l)
  unfolding patch_bytes
  patch_head = head_written (2 + 8 * count_of l) (count_of l) (over (coordinate_bytes l) 0 (length l)) (let f = patch_few l h in omega arith)

  field_again : (i : ℕ) → i < length l → field_of 4 (patch_bytes l) (4 + 4 * i) ≡ code_of (get_or l i (pos 0))
  unfolding coordinate_bytes
  field_again i k =
      field_behind 4 4 (patch_bytes l) (4 * i)
      ∙ (λ j. field_of 4 ((patch_head.rest ∙ over_at (coordinate_bytes l) i (length l) k) j) (sym (coordinates_sized l i) j))
      ∙ field_bytes 4 (code_of (get_or l i (pos 0))) (over (coordinate_bytes l) 0 i) (over (coordinate_bytes l) (i + 1) (length l)) (code_low (get_or l i (pos 0)) (low i))

  pub patch_read_again : coordinates_of (patch_bytes l) ≡ l
  unfolding coordinates_of coordinate_at
  patch_read_again =
      ext_get_or (pos 0) (coordinates_of (patch_bytes l)) l long
      (λ i k. let m : i < 2 * get_or (patch_bytes l) 3 0 = omega (arith, coordinates-length (patch_bytes l)) in
      get_d_tabulate (coordinate_at (patch_bytes l)) (2 * get_or (patch_bytes l) 3 0) i (pos 0) m ∙ ap signed_of (field_again i (omega (arith, long))) ∙ signed_code (get_or l i (pos 0)) (low i))
    where
      long : length (coordinates_of (patch_bytes l)) ≡ length l
      long = let n = patch_head.shots in omega (arith, coordinates-length (patch_bytes l), patch_even l h)

  pub patch_unbroken : Unbroken (patch_rules (patch_bytes l))
  unfolding refusal_of
  patch_unbroken = (
    (framed 4 (patch_bytes l)).1 (omega (arith, patch-length l (patch_even l h)), omega (arith, patch-length l (patch_even l h), patch_head.field)),
    (
      same_test (get_or (patch_bytes l) 2 0) version patch_head.mark,
      (
        ap (λ (n : ℕ). ltb n shots_least || ltb shots_most n) patch_head.shots ∙ sym (count_test l (count_of l) (patch_even l h)) ∙ kept.0,
        (
          same_test (field_of 2 (patch_bytes l) 0) (2 + 8 * get_or (patch_bytes l) 3 0) (omega (arith, patch_head.field, patch_head.shots)),
          subst (λ (m : List ℤ). Unbroken (place_rules m)) (sym patch_read_again) kept.1,
        ),
      ),
    ),
  )
    where
      kept : Unbroken (shot_rules l)
      kept = refusal_unbroken (shot_rules l) (shots_numbered l) h
