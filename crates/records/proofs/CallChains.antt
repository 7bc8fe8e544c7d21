-- The chains of refusals of this room's calls: what the code has found out so far, and what that says of the call.
--
--   frame_refused, frame_passed    the frame of a surface record is refused; or not, and the triples decide
--   surface_counted                as many bytes as the triples want that the frame counts
--   patch_stops, patch_unplaced, patch_read     a patch record: its frame is refused; its shots are; it is read
--   patch_counted, coordinates_taken            as many bytes as the shots want that the frame counts; their coordinates stand in front of the array
--   surface_stops, surface_unread, surface_untested, surface_read    a surface record: the run is refused; it is; its list is; it is read
--   write_stops, write_short, write_done        a writer: a rule refuses; the buffer is too short; it is written
--   patch_unwritten, patch_short, patch_written, surface_unwritten, surface_short, surface_written    the same of the two writers, whose size is the record's
--   tested_few                                  an accepted list is one of few shots
--   writes, written                             so it is where no rule is broken and there is room, and what it then leaves
use mathlib.Core.Path.{◌≡◌, refl, sym, ◌∙◌, ap}
use mathlib.Core.List.{List, [], ◌∷◌, ◌++◌}
use Prim.Native.Nat.{ℕ, ◌+◌, ◌*◌, ◌≤◌, ◌<◌}
use native.Mathlib.Omega.{arith}
use borrow.Author.Tests.{lt-ltb, le-ltb, ltb-false}
use lib.ListN.{get_or, length, take, drop, replicate}
use lib.Seq.{take_at}
use lib.IntN.{ℤ, pos}
use Rattle.algebra.specs.Answer.{Answer, gives, refuses, Rule, chain}
use Rattle.algebra.specs.Writing.{wrote, buffer_with}
use Rattle.algebra.proofs.AnswerLaws.{chain_broken, chain_kept, chain_stops, chain_goes}
use Rattle.algebra.proofs.AnswerLaws.{Unbroken, unbroken_gives, unbroken-append, unbroken_after, gives_unbroken, append_unbroken}
use Rattle.algebra.proofs.WritingLaws.{wrote-front, wrote_taken}
use Rattle.shots.specs.Sizes.{shots_most, coordinates_most}
use Rattle.shots.specs.Patch.{count_of}
use Rattle.shots.specs.Tests.{bad_count, place_rules, shot_rules}
use Rattle.shots.specs.Calls.{accept_of}
use Rattle.shots.proofs.Patch.{patch_few, patch_even}
use Rattle.shots.proofs.Chains.{run_accepted, run_refused, run_passed}
use Rattle.shots.proofs.Decided.{count_test}
use Rattle.shots.proofs.HandedLaws.{handed, handed_done}
use Rattle.triples.specs.Sets.{size_of}
use Rattle.lists.specs.Tests.{list_rules}
use Rattle.lists.specs.Calls.{test_of}
use Rattle.lists.proofs.Promises.{tested_right}
use Rattle.records.specs.Formats.{patch_bytes, surface_bytes}
use Rattle.records.specs.Reading.{patch_frame, coordinates_of, patch_rules, surface_frame, triple_rule, listed_of}
use Rattle.records.specs.Calls.{read_patch_of, framed_of, read_surface_of, room_rule, write_of, write_patch_of, write_surface_of}
use Rattle.records.proofs.FormatLaws.{patch-length, surface-length, patch_framed, surface_framed, coordinates-length}

-- ---- the frame of a surface record

module _ (n : ℕ) (b : List ℕ) (v : ℕ) where
  pub frame_refused : {k : ℕ} → refuses k ≡ chain (surface_frame n b) v → refuses k ≡ framed_of n b
  unfolding framed_of
  frame_refused e = chain_stops (surface_frame n b) (triple_rule n b ∷ []) v (listed_of n b) (sym e)

  pub frame_passed : {t : ℕ} → gives t ≡ chain (surface_frame n b) v → chain (triple_rule n b ∷ []) (listed_of n b) ≡ framed_of n b
  unfolding framed_of
  frame_passed e = chain_goes (surface_frame n b) (triple_rule n b ∷ []) v (listed_of n b) (sym e)

pub surface_counted : (n : ℕ) (b : List ℕ) {t : ℕ} → gives t ≡ chain (surface_frame n b) (get_or b 4 0) → (t ≡ get_or b 4 0) × (5 + 3 * t ≤ length b)
surface_counted n b {t} e =
    let (u, q) = gives_unbroken (surface_frame n b) (get_or b 4 0) t (sym e) in
    (sym q, omega (arith, q, surface_framed n b u))

-- ---- a patch record

module _ (b : List ℕ) where
  pub patch_stops : (v : ℕ) {k : ℕ} → refuses k ≡ chain (patch_frame b) v → record { answer = refuses k; coordinates = replicate coordinates_most (pos 0) } ≡ read_patch_of b
  unfolding read_patch_of
  patch_stops v e = handed (patch_rules b) (get_or b 3 0) (coordinates_of b) (chain_stops (patch_frame b) (place_rules (coordinates_of b)) v (get_or b 3 0) (sym e))

  -- the frame counts n shots
  module _ {n : ℕ} (e : gives n ≡ chain (patch_frame b) (get_or b 3 0)) where
    kept : Unbroken (patch_frame b) × (get_or b 3 0 ≡ n)
    kept = gives_unbroken (patch_frame b) (get_or b 3 0) n (sym e)

    pub patch_counted : (n ≡ get_or b 3 0) × (n ≤ shots_most) × (4 + 8 * n ≤ length b) × (length (coordinates_of b) ≡ 2 * n)
    patch_counted =
        let (_, few, long) = patch_framed b kept.0 in
        let q = kept.1 in
        (sym q, omega arith, omega arith, omega (arith, coordinates-length b))

    -- so the number of shots is not refused
    placed : chain {A = Unit {0}} (place_rules (coordinates_of b)) tt ≡ accept_of (coordinates_of b)
    unfolding accept_of
    placed =
        chain_kept (record { number = 1; broken = bad_count (coordinates_of b) }) (place_rules (coordinates_of b)) tt
        (count_test (coordinates_of b) (get_or b 3 0) (coordinates-length b) ∙ kept.0.1.1.0)

    module _ {t : List ℤ} (p : t ≡ wrote (replicate coordinates_most (pos 0)) 0 (coordinates_of b)) where
      pub coordinates_taken : take (2 * n) t ≡ coordinates_of b
      coordinates_taken =
          let (_, few, _, long) = patch_counted in
          (λ i. take (sym long i) (p i)) ∙ wrote_taken (replicate coordinates_most (pos 0)) (coordinates_of b) (omega arith)

      decided : chain {A = Unit {0}} (place_rules (coordinates_of b)) tt ≡ accept_of (take (2 * n) t)
      decided = placed ∙ ap accept_of (sym coordinates_taken)

      pub patch_unplaced : {k : ℕ} → refuses k ≡ accept_of (take (2 * n) t) → record { answer = refuses k; coordinates = replicate coordinates_most (pos 0) } ≡ read_patch_of b
      unfolding read_patch_of
      patch_unplaced q =
          handed (patch_rules b) (get_or b 3 0) (coordinates_of b)
          (chain_stops (place_rules (coordinates_of b)) [] tt (get_or b 3 0) (decided ∙ sym q) ∙ unbroken_after (patch_frame b) (place_rules (coordinates_of b)) (get_or b 3 0) kept.0)

      pub patch_read : gives tt ≡ accept_of (take (2 * n) t) → record { answer = gives n; coordinates = t } ≡ read_patch_of b
      unfolding read_patch_of
      patch_read q =
          ap (λ (k : ℕ). record { answer = gives k; coordinates = t }) (sym kept.1)
          ∙ handed_done (patch_rules b) (get_or b 3 0) (coordinates_of b)
          (unbroken-append (patch_frame b) (place_rules (coordinates_of b)) kept.0 (gives_unbroken (place_rules (coordinates_of b)) tt tt (decided ∙ sym q)).0) p

-- ---- a surface record, of an accepted run

module _ (l : List ℤ) (b : List ℕ) where
  abbrev n : ℕ
  n = count_of l

  abbrev read : List Rule
  read = surface_frame n b ++ triple_rule n b ∷ []

  -- the list's rules, behind those of the record
  abbrev rules : List Rule
  rules = list_rules l (listed_of n b)

  pub surface_stops : {k : ℕ} → refuses k ≡ accept_of l → refuses k ≡ read_surface_of l b
  unfolding read_surface_of
  surface_stops = run_refused l (read ++ rules) (listed_of n b)

  module _ (e : gives tt ≡ accept_of l) where
    reached : chain (read ++ rules) (listed_of n b) ≡ read_surface_of l b
    unfolding read_surface_of
    reached = run_passed l (read ++ rules) (listed_of n b) e

    pub surface_unread : {k : ℕ} → refuses k ≡ framed_of n b → refuses k ≡ read_surface_of l b
    unfolding framed_of
    surface_unread p = chain_stops read rules (listed_of n b) (listed_of n b) (sym p) ∙ reached

    module _ {w : List ℕ} (p : gives w ≡ framed_of n b) where
      same : listed_of n b ≡ w
      unfolding framed_of
      same = (gives_unbroken read (listed_of n b) w (sym p)).1

      passed : chain rules (listed_of n b) ≡ read_surface_of l b
      unfolding framed_of
      passed = chain_goes read rules (listed_of n b) (listed_of n b) (sym p) ∙ reached

      tested : test_of l w ≡ chain rules tt
      unfolding test_of
      tested = sym (run_passed l (list_rules l w) tt e) ∙ ap (λ (x : List ℕ). chain (list_rules l x) tt) (sym same)

      pub surface_untested : {k : ℕ} → refuses k ≡ test_of l w → refuses k ≡ read_surface_of l b
      surface_untested q = chain_stops rules [] tt (listed_of n b) (sym tested ∙ sym q) ∙ passed

      pub surface_read : gives tt ≡ test_of l w → gives w ≡ read_surface_of l b
      unfolding chain
      surface_read q = ap gives (sym same) ∙ chain_goes rules [] tt (listed_of n b) (sym tested ∙ sym q) ∙ passed

-- ---- writers

module _ (rs : List Rule) (s t : List ℕ) where
  -- an answer, and the buffer that goes with it
  left : {a : Answer ℕ} → a ≡ chain (rs ++ room_rule s t ∷ []) (length s) → record { answer = a; buffer = buffer_with a s t } ≡ write_of rs s t
  unfolding write_of
  left p = λ k. record { answer = p k; buffer = buffer_with (p k) s t }

  write_stops : {k : ℕ} → ◌≡◌ {A = Answer (Unit {0})} (refuses k) (chain rs tt) → record { answer = refuses k; buffer = t } ≡ write_of rs s t
  write_stops e = left (chain_stops rs (room_rule s t ∷ []) tt (length s) (sym e))

  module _ (e : ◌≡◌ {A = Answer (Unit {0})} (gives tt) (chain rs tt)) where
    write_short : length t < length s → record { answer = refuses 11; buffer = t } ≡ write_of rs s t
    write_short h = left (chain_broken (room_rule s t) [] (length s) (lt-ltb (length t) (length s) h) ∙ chain_goes rs (room_rule s t ∷ []) tt (length s) (sym e))

    write_done : length s ≤ length t → {k : ℕ} {u : List ℕ} → k ≡ length s → u ≡ wrote t 0 s → record { answer = gives k; buffer = u } ≡ write_of rs s t
    unfolding chain
    write_done h p q =
        (λ k. record { answer = gives (p k); buffer = q k })
        ∙ left (chain_kept (room_rule s t) [] (length s) (le-ltb (length t) (length s) h) ∙ chain_goes rs (room_rule s t ∷ []) tt (length s) (sym e))

  pub writes : Unbroken rs → length s ≤ length t → write_of rs s t ≡ record { answer = gives (length s); buffer = s ++ drop (length s) t }
  writes u h = sym (write_done (sym (unbroken_gives rs tt u)) h refl (sym (wrote-front t s h)))

  pub written : (k : ℕ) → (write_of rs s t).answer ≡ gives k → Unbroken rs × ((write_of rs s t).buffer ≡ s ++ drop (length s) t) × (take k (write_of rs s t).buffer ≡ s)
  unfolding write_of
  written k e = (parts.0, whole, (λ i. take (sym r.1 i) (whole i)) ∙ take_at s (drop (length s) t) (length s) refl)
    where
      r : Unbroken (rs ++ room_rule s t ∷ []) × (length s ≡ k)
      r = gives_unbroken (rs ++ room_rule s t ∷ []) (length s) k e

      parts : Unbroken rs × Unbroken (room_rule s t ∷ [])
      parts = append_unbroken rs (room_rule s t ∷ []) r.0

      whole : (write_of rs s t).buffer ≡ s ++ drop (length s) t
      whole = ap (λ (x : Answer ℕ). buffer_with x s t) e ∙ wrote-front t s (ltb-false (length t) (length s) parts.1.0)

-- ---- the two writers

module _ (l : List ℤ) (t : List ℕ) where
  pub patch_unwritten : {k : ℕ} → refuses k ≡ accept_of l → record { answer = refuses k; buffer = t } ≡ write_patch_of l t
  unfolding write_patch_of accept_of
  patch_unwritten = write_stops (shot_rules l) (patch_bytes l) t

  module _ (e : gives tt ≡ accept_of l) {k : ℕ} (p : k ≡ 4 + 8 * count_of l) where
    sized : k ≡ length (patch_bytes l)
    sized = p ∙ sym (patch-length l (patch_even l (run_accepted l e)))

    pub patch_short : length t < k → record { answer = refuses 11; buffer = t } ≡ write_patch_of l t
    unfolding write_patch_of accept_of
    patch_short h = write_short (shot_rules l) (patch_bytes l) t e (omega (arith, sized))

    pub patch_written : k ≤ length t → {u : List ℕ} → u ≡ wrote t 0 (patch_bytes l) → record { answer = gives k; buffer = u } ≡ write_patch_of l t
    unfolding write_patch_of accept_of
    patch_written h = write_done (shot_rules l) (patch_bytes l) t e (omega (arith, sized)) sized

module _ (l : List ℤ) (w t : List ℕ) where
  pub surface_unwritten : {k : ℕ} → refuses k ≡ test_of l w → record { answer = refuses k; buffer = t } ≡ write_surface_of l w t
  unfolding write_surface_of test_of
  surface_unwritten = write_stops (shot_rules l ++ list_rules l w) (surface_bytes (count_of l) w) t

  module _ (e : gives tt ≡ test_of l w) {k : ℕ} (p : k ≡ 5 + 3 * size_of (count_of l) w) where
    surface-sized : k ≡ length (surface_bytes (count_of l) w)
    surface-sized = p ∙ sym (surface-length (count_of l) w)

    pub surface_short : length t < k → record { answer = refuses 11; buffer = t } ≡ write_surface_of l w t
    unfolding write_surface_of test_of
    surface_short h = write_short (shot_rules l ++ list_rules l w) (surface_bytes (count_of l) w) t e (omega (arith, surface-sized))

    pub surface_written : k ≤ length t → {u : List ℕ} → u ≡ wrote t 0 (surface_bytes (count_of l) w) → record { answer = gives k; buffer = u } ≡ write_surface_of l w t
    unfolding write_surface_of test_of
    surface_written h = write_done (shot_rules l ++ list_rules l w) (surface_bytes (count_of l) w) t e (omega (arith, surface-sized)) surface-sized

pub tested_few : (l : List ℤ) (w : List ℕ) → gives tt ≡ test_of l w → count_of l ≤ shots_most
tested_few l w e = (patch_few l (tested_right l w (sym e))).1
