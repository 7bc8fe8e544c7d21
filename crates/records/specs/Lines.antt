-- The lines of document 01's table of refusals that this room's calls can give, as statements, in document 01's two orders.
--
--   Framed k b          at least k bytes, and the length field is the number of bytes after it
--   patch_frame_lines b, read_patch_lines b           5 6 1 5, and 2 3 4 of the coordinates read
--   OutOfForm n b       a triple with a number that is not a shot, or not increasing, or that does not come after the one before it
--   surface_frame_lines n b, read_surface_lines l b   1-4, 5 6 7 5 7, and 7 10 8 9 of the list read
--   write_patch_lines l t, write_surface_lines l w t
--
-- The theorems: proofs/Promises. Source: document 01, "Records", "Refusal numbers".
use Rattle.std.specs.Prelude.{◌≡◌, ◌⊎◌, List, [], ◌∷◌, ◌++◌, ℕ, ◌+◌, ◌*◌, ◌≤◌, ◌<◌, get_or, length, ℤ}
use Rattle.algebra.specs.Answer.{Line}
use Rattle.algebra.specs.Sets.{Within, Lex}
use Rattle.algebra.specs.Writing.{NoRoom}
use Rattle.shots.specs.Sizes.{shots_least, shots_most}
use Rattle.shots.specs.Patch.{count_of}
use Rattle.shots.specs.Lines.{shot_lines, place_lines}
use Rattle.lists.specs.Lines.{list_lines}
use Rattle.records.specs.Sizes.{version}
use Rattle.records.specs.Fields.{field_of}
use Rattle.records.specs.Formats.{patch_bytes, surface_bytes}
use Rattle.records.specs.Reading.{coordinates_of, triple_in, listed_of}

abbrev pub Framed : ℕ → List ℕ → Type 0
Framed k b = (k ≤ length b) × (field_of 2 b 0 + 2 ≡ length b)

abbrev pub OtherVersion : List ℕ → Type 0
OtherVersion b = get_or b 2 0 ≡ version → ⊥

-- ---- patches

abbrev pub patch_frame_lines : List ℕ → List Line
patch_frame_lines b =
    record { number = 5; when = Framed 4 b → ⊥ }
    ∷ record { number = 6; when = OtherVersion b }
    ∷ record { number = 1; when = (get_or b 3 0 < shots_least) ⊎ (shots_most < get_or b 3 0) }
    ∷ record { number = 5; when = field_of 2 b 0 ≡ 2 + 8 * get_or b 3 0 → ⊥ }
    ∷ []

abbrev pub read_patch_lines : List ℕ → List Line
read_patch_lines b = patch_frame_lines b ++ place_lines (coordinates_of b)

-- ---- surfaces

abbrev pub surface_frame_lines : ℕ → List ℕ → List Line
surface_frame_lines n b =
    record { number = 5; when = Framed 5 b → ⊥ }
    ∷ record { number = 6; when = OtherVersion b }
    ∷ record { number = 7; when = get_or b 3 0 ≡ n → ⊥ }
    ∷ record { number = 5; when = field_of 2 b 0 ≡ 3 + 3 * get_or b 4 0 → ⊥ }
    ∷ []

-- triple j, of the t of the record, is no increasing triple of shots, or does not come after triple j - 1
abbrev pub OutOfForm : ℕ → List ℕ → Type 0
OutOfForm n b = (j : ℕ) × (j < get_or b 4 0) × ((Within 0 (triple_in b j) n → ⊥) ⊎ ((i : ℕ) × (i + 1 ≡ j) × (Lex (triple_in b i) (triple_in b j) → ⊥)))

abbrev pub read_surface_lines : List ℤ → List ℕ → List Line
read_surface_lines l b =
    shot_lines l ++ (surface_frame_lines (count_of l) b ++ record { number = 7; when = OutOfForm (count_of l) b } ∷ list_lines l (listed_of (count_of l) b))

-- ---- writers

abbrev pub write_patch_lines : List ℤ → List ℕ → List Line
write_patch_lines l t = shot_lines l ++ record { number = 11; when = NoRoom (patch_bytes l) t } ∷ []

abbrev pub write_surface_lines : List ℤ → List ℕ → List ℕ → List Line
write_surface_lines l w t = shot_lines l ++ (list_lines l w ++ record { number = 11; when = NoRoom (surface_bytes (count_of l) w) t } ∷ [])
