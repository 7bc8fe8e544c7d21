-- What each public call of this room answers, and all that it leaves, for every input.
--
--   read_patch_of b        the shots of a patch record, 0 in the places past them; or 5 6 1 5 2 3 4, and 0 everywhere
--   framed_of n b         what the frame and the triples of a surface record say by themselves, for n shots: its list, or 5 6 7 5 7
--   read_surface_of l b    the words of a surface record's list; or 1-4, 5 6 7 5 7 10 8 9
--   Writing              a writer's answer, the number of bytes written, and the whole buffer; `left_in`: of what the code leaves
--   room_rule s t         11: the buffer t is shorter than the bytes s
--   write_of rs s t       the bytes s written to the front of the buffer t; or a rule of rs, or 11 where t is shorter
--   write_patch_of l t     the record of a patch; or 1-4, 11
--   write_surface_of l w t     the record of a list; or 1-4, 7 10 8 9, 11
--
-- Source: document 01, "Records".
use Rattle.std.specs.Prelude.{List, [], ◌∷◌, ◌++◌, ℕ, ltb, get_or, length, ℤ, Result}
use Rattle.algebra.specs.Answer.{Answer, Rule, chain}
use Rattle.algebra.specs.Writing.{buffer_with}
use Rattle.shots.specs.Patch.{count_of}
use Rattle.shots.specs.Tests.{shot_rules}
use Rattle.shots.specs.Refusals.{answered}
use Rattle.shots.specs.Calls.{PatchRead, patch_given}
use Rattle.shots.specs.declared.refusal.Refusal.{Refusal}
use Rattle.lists.specs.Tests.{list_rules}
use Rattle.records.specs.Formats.{patch_bytes, surface_bytes}
use Rattle.records.specs.Reading.{coordinates_of, patch_rules, surface_frame, triple_rule, listed_of, surface_rules}

-- ---- readers

unfoldable pub read_patch_of : List ℕ → PatchRead
read_patch_of b = patch_given (patch_rules b) (get_or b 3 0) (coordinates_of b)

unfoldable pub framed_of : ℕ → List ℕ → Answer (List ℕ)
framed_of n b = chain (surface_frame n b ++ triple_rule n b ∷ []) (listed_of n b)

unfoldable pub read_surface_of : List ℤ → List ℕ → Answer (List ℕ)
read_surface_of l b = chain (surface_rules l b) (listed_of (count_of l) b)

-- ---- writers

pub record Writing : Type 0 where
  pub answer : Answer ℕ
  pub buffer : List ℕ

abbrev pub left_in : List ℕ → Result ℕ Refusal → Writing
left_in t r = record { answer = answered r; buffer = t }

-- 11: the buffer is shorter than the record
abbrev pub room_rule : List ℕ → List ℕ → Rule
room_rule s t = record { number = 11; broken = ltb (length t) (length s) }

unfoldable pub write_of : List Rule → List ℕ → List ℕ → Writing
write_of rs s t = record { answer = chain (rs ++ room_rule s t ∷ []) (length s); buffer = buffer_with (chain (rs ++ room_rule s t ∷ []) (length s)) s t }

unfoldable pub write_patch_of : List ℤ → List ℕ → Writing
write_patch_of l t = write_of (shot_rules l) (patch_bytes l) t

unfoldable pub write_surface_of : List ℤ → List ℕ → List ℕ → Writing
write_surface_of l w t = write_of (shot_rules l ++ list_rules l w) (surface_bytes (count_of l) w) t
