-- What the public calls of this room promise: each gives a refusal number exactly when that number's line of document 01's table is the first that holds,
-- its value exactly when no line holds, and no other answer is permitted.
--
--   read_patch_refuses, read_patch_gives
--   read_patch_coordinates, read_patch_front, read_patch_refused    the array beside the answer
--   read_patch_count, read_patch_accepted         what is read is an accepted patch, of as many shots as the answer says
--   read_patch_long     more bytes than a length field can frame are refused with 5
--   write_patch_refuses, write_patch_gives, write_surface_refuses, write_surface_gives
--   write_patch_refused, write_surface_refused    a writer that refuses leaves the buffer as it was
--   write_patch_buffer, write_surface_buffer      one that does not writes the record's own bytes, and no other
--   read_surface_refuses, read_surface_gives
--   read_surface_accepted                         what is read is an accepted list
--   read_patch_one, write_patch_one, write_surface_one, read_surface_one    two permitted answers are the same
--
-- That the tests decide the lines: proofs/Agreement. Source: document 01, "Records", "Refusal numbers".
use Rattle.std.proofs.Common.{Result}
use mathlib.Core.Path.{◌≡◌, refl, sym, ◌∙◌, ap, subst}
use mathlib.Core.Logic.{inl, ◌↔◌}
use mathlib.Core.List.{List, [], ◌∷◌, ◌++◌}
use Prim.Native.Nat.{ℕ, ◌+◌, ◌*◌, ◌^◌, ◌≤◌, ◌<◌}
use native.Mathlib.Omega.{arith}
use lib.ListN.{get_or, length, replicate, take, drop}
use lib.IntN.{ℤ, pos}
use Rattle.algebra.specs.Answer.{Answer, gives, refuses, Rule, Line, First, Clear, Decides}
use Rattle.algebra.specs.Writing.{wrote, buffer_with, NoRoom}
use Rattle.algebra.proofs.AnswerLaws.{chain_refuses_upon, chain_gives_upon, decides-append, clear-append, reflects_ltb}
use Rattle.algebra.proofs.AnswerLaws.{Unbroken, unbroken-refusal, append_unbroken}
use Rattle.shots.specs.Sizes.{coordinates_most}
use Rattle.shots.specs.Patch.{count_of}
use Rattle.shots.specs.Tests.{shot_rules, place_rules, refusal_of}
use Rattle.shots.specs.Lines.{shot_lines}
use Rattle.shots.specs.Refusals.{answer_of}
use Rattle.shots.specs.Calls.{read_patch}
use Rattle.shots.specs.declared.Handed.{Handed}
use Rattle.shots.specs.declared.refusal.Refusal.{Refusal}
use Rattle.shots.proofs.RefusalLaws.{answer_one, answered_one}
use Rattle.shots.proofs.Promises.{shots_decided, shots_kept}
use Rattle.shots.proofs.HandedLaws.{handed_refuses, handed_gives, handed_coordinates, handed-refused, handed_kept, handed-front, patch_one}
use Rattle.triples.specs.Sets.{words_of}
use Rattle.triples.specs.declared.Triples.{Triples}
use Rattle.lists.specs.Tests.{list_rules}
use Rattle.lists.specs.Lines.{list_lines}
use Rattle.lists.specs.Calls.{test_of}
use Rattle.lists.proofs.Agreement.{list_decided, accepted_iff_triangulation}
use Rattle.lists.proofs.Promises.{test_accepts}
use Rattle.records.specs.Fields.{Bytes, field_of}
use Rattle.records.specs.Formats.{patch_bytes, surface_bytes}
use Rattle.records.specs.Reading.{coordinates_of, patch_frame, patch_rules, surface_frame, triple_rule, listed_of}
use Rattle.records.specs.Lines.{read_patch_lines, surface_frame_lines, OutOfForm, read_surface_lines, write_patch_lines, write_surface_lines}
use Rattle.records.specs.Calls.{read_patch_of, read_surface_of}
use Rattle.records.specs.Calls.{Writing, left_in, room_rule, write_of, write_patch_of, write_surface_of}
use Rattle.records.proofs.FieldLaws.{field_low}
use Rattle.records.proofs.FormatLaws.{patch_framed, coordinates-length, coordinates_kept}
use Rattle.records.proofs.CallChains.{written}
use Rattle.records.proofs.Agreement.{patch_decided, surface_decided}

-- ---- read_patch

module _ (b : List ℕ) where
  pub read_patch_refuses : (n : ℕ) → ((read_patch_of b).answer ≡ refuses n) ↔ First n (read_patch_lines b)
  unfolding read_patch_of
  read_patch_refuses = handed_refuses (patch_rules b) (get_or b 3 0) (coordinates_of b) (read_patch_lines b) (patch_decided b)

  pub read_patch_gives : (v : ℕ) → ((read_patch_of b).answer ≡ gives v) ↔ (Clear (read_patch_lines b) × (get_or b 3 0 ≡ v))
  unfolding read_patch_of
  read_patch_gives = handed_gives (patch_rules b) (get_or b 3 0) (coordinates_of b) (read_patch_lines b) (patch_decided b)

  pub read_patch_coordinates : Clear (read_patch_lines b) → (read_patch_of b).coordinates ≡ wrote (replicate coordinates_most (pos 0)) 0 (coordinates_of b)
  unfolding read_patch_of
  read_patch_coordinates = handed_coordinates (patch_rules b) (get_or b 3 0) (coordinates_of b) (read_patch_lines b) (patch_decided b)

  pub read_patch_refused : (n : ℕ) → First n (read_patch_lines b) → (read_patch_of b).coordinates ≡ replicate coordinates_most (pos 0)
  unfolding read_patch_of
  read_patch_refused = handed-refused (patch_rules b) (get_or b 3 0) (coordinates_of b) (read_patch_lines b) (patch_decided b)

  module _ (n : ℕ) (e : (read_patch_of b).answer ≡ gives n) where
    unbroken : Unbroken (patch_rules b)
    unfolding read_patch_of
    unbroken = (handed_kept (patch_rules b) (get_or b 3 0) (coordinates_of b) n e).0

    same : get_or b 3 0 ≡ n
    same = ((read_patch_gives n).0 e).1

    pub read_patch_front : take (2 * n) (read_patch_of b).coordinates ≡ coordinates_of b
    unfolding read_patch_of
    read_patch_front =
        handed-front (patch_rules b) (get_or b 3 0) (coordinates_of b) (coordinates-length b) (patch_framed b (append_unbroken (patch_frame b) (place_rules (coordinates_of b)) unbroken).0).1 n e

    pub read_patch_count : count_of (coordinates_of b) ≡ n
    read_patch_count = omega (arith, coordinates-length b, same)

    pub read_patch_accepted : refusal_of (coordinates_of b) ≡ 0
    unfolding refusal_of
    read_patch_accepted = unbroken-refusal (shot_rules (coordinates_of b)) (coordinates_kept b unbroken)

pub read_patch_long : (b : List ℕ) → Bytes b → 65538 ≤ length b → (read_patch_of b).answer ≡ refuses 5
read_patch_long b v h = (read_patch_refuses b 5).1 (inl (λ (k, e). over e (field_low 2 b 0 v), refl))
  where
    over : field_of 2 b 0 + 2 ≡ length b → field_of 2 b 0 < 256 ^ 2 → ⊥
    over e l = omega arith

-- ---- writers: the rules of the shots, then those of rs, which decide the lines ls for accepted shots, then the room for the bytes s in the buffer t

module _ (l : List ℤ) (rs : List Rule) (ls : List Line) (d : Clear (shot_lines l) → Decides rs ls) (s t : List ℕ) where
  abbrev room_line : List Line
  room_line = record { number = 11; when = NoRoom s t } ∷ []

  write_decided : Clear (shot_lines l) → Decides (rs ++ room_rule s t ∷ []) (ls ++ room_line)
  write_decided h = decides-append rs (room_rule s t ∷ []) ls room_line (d h) (refl, reflects_ltb (length t) (length s), tt)

  write_refuses : (n : ℕ) → ((write_of (shot_rules l ++ rs) s t).answer ≡ refuses n) ↔ First n (shot_lines l ++ (ls ++ room_line))
  unfolding write_of
  write_refuses n = chain_refuses_upon (shot_rules l) (rs ++ room_rule s t ∷ []) (shot_lines l) (ls ++ room_line) (length s) n (shots_decided l) write_decided

  write_gives : (v : ℕ) → ((write_of (shot_rules l ++ rs) s t).answer ≡ gives v) ↔ (Clear (shot_lines l ++ (ls ++ room_line)) × (length s ≡ v))
  unfolding write_of
  write_gives v = chain_gives_upon (shot_rules l) (rs ++ room_rule s t ∷ []) (shot_lines l) (ls ++ room_line) (length s) v (shots_decided l) write_decided

  write-refused : (n : ℕ) → First n (shot_lines l ++ (ls ++ room_line)) → (write_of (shot_rules l ++ rs) s t).buffer ≡ t
  unfolding write_of
  write-refused n h = ap (λ (x : Answer ℕ). buffer_with x s t) ((write_refuses n).1 h)

module _ (l : List ℤ) (t : List ℕ) where
  pub write_patch_refuses : (n : ℕ) → ((write_patch_of l t).answer ≡ refuses n) ↔ First n (write_patch_lines l t)
  unfolding write_patch_of
  write_patch_refuses = write_refuses l [] [] (λ _. tt) (patch_bytes l) t

  pub write_patch_gives : (v : ℕ) → ((write_patch_of l t).answer ≡ gives v) ↔ (Clear (write_patch_lines l t) × (length (patch_bytes l) ≡ v))
  unfolding write_patch_of
  write_patch_gives = write_gives l [] [] (λ _. tt) (patch_bytes l) t

  pub write_patch_refused : (n : ℕ) → First n (write_patch_lines l t) → (write_patch_of l t).buffer ≡ t
  unfolding write_patch_of
  write_patch_refused = write-refused l [] [] (λ _. tt) (patch_bytes l) t

  pub write_patch_buffer : (k : ℕ) → (write_patch_of l t).answer ≡ gives k → (write_patch_of l t).buffer ≡ patch_bytes l ++ drop (length (patch_bytes l)) t
  unfolding write_patch_of
  write_patch_buffer k e = (written (shot_rules l) (patch_bytes l) t k e).1

module _ (l : List ℤ) (w t : List ℕ) where
  listed : Clear (shot_lines l) → Decides (list_rules l w) (list_lines l w)
  listed h = list_decided l w ((shots_kept l).0 h)

  pub write_surface_refuses : (n : ℕ) → ((write_surface_of l w t).answer ≡ refuses n) ↔ First n (write_surface_lines l w t)
  unfolding write_surface_of
  write_surface_refuses = write_refuses l (list_rules l w) (list_lines l w) listed (surface_bytes (count_of l) w) t

  pub write_surface_gives : (v : ℕ) → ((write_surface_of l w t).answer ≡ gives v) ↔ (Clear (write_surface_lines l w t) × (length (surface_bytes (count_of l) w) ≡ v))
  unfolding write_surface_of
  write_surface_gives = write_gives l (list_rules l w) (list_lines l w) listed (surface_bytes (count_of l) w) t

  pub write_surface_refused : (n : ℕ) → First n (write_surface_lines l w t) → (write_surface_of l w t).buffer ≡ t
  unfolding write_surface_of
  write_surface_refused = write-refused l (list_rules l w) (list_lines l w) listed (surface_bytes (count_of l) w) t

  pub write_surface_buffer : (k : ℕ) → (write_surface_of l w t).answer ≡ gives k
      → (write_surface_of l w t).buffer ≡ surface_bytes (count_of l) w ++ drop (length (surface_bytes (count_of l) w)) t
  unfolding write_surface_of
  write_surface_buffer k e = (written (shot_rules l ++ list_rules l w) (surface_bytes (count_of l) w) t k e).1

-- ---- read_surface

module _ (l : List ℤ) (b : List ℕ) where
  abbrev held : List ℕ
  held = listed_of (count_of l) b

  -- the lines of the record, without those of the list it holds
  abbrev form_lines : List Line
  form_lines = surface_frame_lines (count_of l) b ++ record { number = 7; when = OutOfForm (count_of l) b } ∷ []

  record_decided : Clear (shot_lines l) → Decides (surface_frame (count_of l) b ++ triple_rule (count_of l) b ∷ list_rules l held) (form_lines ++ list_lines l held)
  record_decided h = surface_decided l b ((shots_kept l).0 h)

  pub read_surface_refuses : (n : ℕ) → (read_surface_of l b ≡ refuses n) ↔ First n (read_surface_lines l b)
  unfolding read_surface_of
  read_surface_refuses n = chain_refuses_upon (shot_rules l) _ (shot_lines l) (form_lines ++ list_lines l held) held n (shots_decided l) record_decided

  pub read_surface_gives : (w : List ℕ) → (read_surface_of l b ≡ gives w) ↔ (Clear (read_surface_lines l b) × (listed_of (count_of l) b ≡ w))
  unfolding read_surface_of
  read_surface_gives w = chain_gives_upon (shot_rules l) _ (shot_lines l) (form_lines ++ list_lines l held) held w (shots_decided l) record_decided

  pub read_surface_accepted : (w : List ℕ) → read_surface_of l b ≡ gives w → test_of l w ≡ gives tt
  read_surface_accepted w e =
      let (c, q) = (read_surface_gives w).0 e in
      let (h, k) = (clear-append (shot_lines l) (form_lines ++ list_lines l held)).0 c in
      let (p, g) = (accepted_iff_triangulation l held).0 ((clear-append form_lines (list_lines l held)).0 k).1 in
      subst (λ (u : List ℕ). test_of l u ≡ gives tt) q ((test_accepts l held).1 (h, p, g))

-- ---- one answer

left_one : {x : Writing} (u u' : List ℕ) (r r' : Result ℕ Refusal) → left_in u r ≡ x → left_in u' r' ≡ x → (u ≡ u') × (r ≡ r')
left_one {x} u u' r r' p q = (ap (λ (y : Writing). y.buffer) (p ∙ sym q), answered_one (ap (λ (y : Writing). y.answer) p) (ap (λ (y : Writing). y.answer) q))

pub read_patch_one : (b : List ℕ) (r r' : Result Handed Refusal) → read_patch r ≡ read_patch_of b → read_patch r' ≡ read_patch_of b → r ≡ r'
read_patch_one b r r' = patch_one

pub write_patch_one : (l : List ℤ) (t u u' : List ℕ) (r r' : Result ℕ Refusal) → left_in u r ≡ write_patch_of l t → left_in u' r' ≡ write_patch_of l t → (u ≡ u') × (r ≡ r')
write_patch_one l t = left_one

pub write_surface_one : (l : List ℤ) (w t u u' : List ℕ) (r r' : Result ℕ Refusal) → left_in u r ≡ write_surface_of l w t → left_in u' r' ≡ write_surface_of l w t → (u ≡ u') × (r ≡ r')
write_surface_one l w t = left_one

pub read_surface_one : (l : List ℤ) (b : List ℕ) (r r' : Result Triples Refusal) → answer_of words_of r ≡ read_surface_of l b → answer_of words_of r' ≡ read_surface_of l b → r ≡ r'
read_surface_one l b r r' = answer_one words_of (λ w. record { words = w }) (λ t. refl)
