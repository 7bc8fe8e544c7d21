-- Records there and back: what is written is read as it was, and what is read is written as it was, byte for byte.
--
--   read_then_write_patch, write_then_read_patch
--   read_then_write_surface, write_then_read_surface
--   patch_exactly, surface_exactly               a reader accepts exactly the records of accepted patches and lists, and gives back these
--   patch_bytes_differ, surface_bytes_differ     different patches, different lists of one patch have different records
use mathlib.Core.Path.{◌≡◌, refl, sym, ◌∙◌, ap, subst}
use mathlib.Core.Logic.{◌↔◌}
use mathlib.Core.Bool.{Bool, true, false}
use mathlib.Core.List.{List, [], ◌∷◌, ◌++◌}
use Prim.Native.Nat.{ℕ, ◌≤◌}
use native.Mathlib.Omega.{arith}
use lib.ListN.{length, get_or, take, drop}
use lib.IntN.{ℤ}
use Rattle.algebra.specs.Answer.{gives}
use Rattle.algebra.specs.Words.{Words, member}
use Rattle.algebra.proofs.AnswerLaws.{Unbroken, unbroken_gives, gives_unbroken, unbroken-refusal, unbroken-append, append_unbroken}
use Rattle.algebra.proofs.LoopLaws.{or_parts}
use Rattle.shots.specs.Sizes.{shots_most}
use Rattle.shots.specs.Patch.{count_of}
use Rattle.shots.specs.Tests.{shot_rules, place_rules, refusal_of}
use Rattle.shots.proofs.Patch.{patch_few}
use Rattle.triples.specs.Sizes.{word_count}
use Rattle.triples.specs.Ranks.{triple_count}
use Rattle.lists.specs.Tests.{past_last, some_flat, list_rules}
use Rattle.lists.specs.Calls.{test_of}
use Rattle.lists.proofs.ByWords.{members_low}
use Rattle.records.specs.Fields.{Bytes}
use Rattle.records.specs.Formats.{patch_bytes, surface_bytes}
use Rattle.records.specs.Reading.{coordinates_of, patch_frame, patch_rules, surface_frame, triple_rule, listed_of, surface_rules}
use Rattle.records.specs.Calls.{read_patch_of, read_surface_of, write_of, write_patch_of, write_surface_of}
use Rattle.records.proofs.FormatLaws.{coordinates_kept}
use Rattle.records.proofs.CallChains.{writes, written}
use Rattle.records.proofs.PatchTrips.{patch_bytes_again, patch_head, patch_read_again, patch_unbroken}
use Rattle.records.proofs.SurfaceTrips.{surface_bytes_again, surface_read_again, surface_unbroken}

-- ---- patches

-- the record of an accepted patch is read
patch_reads : (l : List ℤ) → refusal_of l ≡ 0 → ((read_patch_of (patch_bytes l)).answer ≡ gives (count_of l)) × (coordinates_of (patch_bytes l) ≡ l)
unfolding read_patch_of
patch_reads l h = (unbroken_gives (patch_rules (patch_bytes l)) (get_or (patch_bytes l) 3 0) (patch_unbroken l h) ∙ ap gives (patch_head l h).shots, patch_read_again l h)

-- a record that is read is that of the patch it gives
patch_is : (b : List ℕ) → Bytes b → (n : ℕ) → (read_patch_of b).answer ≡ gives n → Unbroken (shot_rules (coordinates_of b)) × (patch_bytes (coordinates_of b) ≡ b)
unfolding read_patch_of
patch_is b v n e =
    let u = (gives_unbroken (patch_rules b) (get_or b 3 0) n e).0 in
    (coordinates_kept b u, patch_bytes_again b v (append_unbroken (patch_frame b) (place_rules (coordinates_of b)) u).0)

pub patch_exactly : (b : List ℕ) → Bytes b → (l : List ℤ) → (((read_patch_of b).answer ≡ gives (count_of l)) × (coordinates_of b ≡ l)) ↔ ((refusal_of l ≡ 0) × (b ≡ patch_bytes l))
unfolding refusal_of
patch_exactly b v l = (
  λ (e, q). let (u, s) = patch_is b v (count_of l) e in (subst (λ (m : List ℤ). refusal_of m ≡ 0) q (unbroken-refusal (shot_rules (coordinates_of b)) u), sym s ∙ ap patch_bytes q),
  λ (h, s). subst (λ (c : List ℕ). ((read_patch_of c).answer ≡ gives (count_of l)) × (coordinates_of c ≡ l)) (sym s) (patch_reads l h),
)

pub read_then_write_patch : (b : List ℕ) → Bytes b → (n : ℕ) → (read_patch_of b).answer ≡ gives n → (t : List ℕ) → length b ≤ length t
    → write_patch_of (coordinates_of b) t ≡ record { answer = gives (length b); buffer = b ++ drop (length b) t }
unfolding write_patch_of
read_then_write_patch b v n e t h =
    let (u, s) = patch_is b v n e in
    ap (λ (c : List ℕ). write_of (shot_rules (coordinates_of b)) c t) s ∙ writes (shot_rules (coordinates_of b)) b t u h

pub write_then_read_patch : (l : List ℤ) (t : List ℕ) (k : ℕ) → (write_patch_of l t).answer ≡ gives k
    → ((read_patch_of (take k (write_patch_of l t).buffer)).answer ≡ gives (count_of l)) × (coordinates_of (take k (write_patch_of l t).buffer) ≡ l)
unfolding write_patch_of refusal_of
write_then_read_patch l t k e =
    let (u, _, s) = written (shot_rules l) (patch_bytes l) t k e in
    subst (λ (b : List ℕ). ((read_patch_of b).answer ≡ gives (count_of l)) × (coordinates_of b ≡ l)) (sym s) (patch_reads l (unbroken-refusal (shot_rules l) u))

pub patch_bytes_differ : (l m : List ℤ) → refusal_of l ≡ 0 → refusal_of m ≡ 0 → patch_bytes l ≡ patch_bytes m → l ≡ m
patch_bytes_differ l m h k e = sym (patch_read_again l h) ∙ ap coordinates_of e ∙ patch_read_again m k

-- ---- surfaces

few_shots : (l : List ℤ) → Unbroken (shot_rules l) → count_of l ≤ shots_most
unfolding refusal_of
few_shots l u = (patch_few l (unbroken-refusal (shot_rules l) u)).1

-- a record that is read is that of the list it gives
surface_is : (l : List ℤ) (b : List ℕ) → Bytes b → (w : List ℕ) → read_surface_of l b ≡ gives w → Unbroken (shot_rules l ++ list_rules l w) × (surface_bytes (count_of l) w ≡ b)
unfolding read_surface_of
surface_is l b v w e =
    let (u, q) = gives_unbroken (surface_rules l b) (listed_of (count_of l) b) w e in
    let (shots, rest) = append_unbroken (shot_rules l) (surface_frame (count_of l) b ++ triple_rule (count_of l) b ∷ list_rules l (listed_of (count_of l) b)) u in
    let (frame, (form, list)) = append_unbroken (surface_frame (count_of l) b) (triple_rule (count_of l) b ∷ list_rules l (listed_of (count_of l) b)) rest in
    subst (λ (x : List ℕ). Unbroken (shot_rules l ++ list_rules l x) × (surface_bytes (count_of l) x ≡ b)) q
    (unbroken-append (shot_rules l) (list_rules l (listed_of (count_of l) b)) shots list, surface_bytes_again (count_of l) b (few_shots l shots) v frame form)

pub read_then_write_surface : (l : List ℤ) (b : List ℕ) → Bytes b → (w : List ℕ) → read_surface_of l b ≡ gives w → (t : List ℕ) → length b ≤ length t
    → write_surface_of l w t ≡ record { answer = gives (length b); buffer = b ++ drop (length b) t }
unfolding write_surface_of
read_then_write_surface l b v w e t h =
    let (u, s) = surface_is l b v w e in
    ap (λ (c : List ℕ). write_of (shot_rules l ++ list_rules l w) c t) s ∙ writes (shot_rules l ++ list_rules l w) b t u h

-- a list that is accepted, with its patch
module _ (l : List ℤ) (w : List ℕ) (v : Words word_count w) (u : Unbroken (shot_rules l ++ list_rules l w)) where
  parts : Unbroken (shot_rules l) × Unbroken (list_rules l w)
  parts = append_unbroken (shot_rules l) (list_rules l w) u

  few : count_of l ≤ shots_most
  few = few_shots l parts.0

  past : (r : ℕ) → triple_count (count_of l) ≤ r → member w r ≡ false
  past r h = go (member w r) refl
    where
      go : (b : Bool) → member w r ≡ b → b ≡ false
      go true e = absurd (omega (arith, members_low l w few v (or_parts (past_last l w) (some_flat l w) parts.1.0).0 r e))
      go false e = refl

  list_read_again : listed_of (count_of l) (surface_bytes (count_of l) w) ≡ w
  list_read_again = surface_read_again (count_of l) w few v past

  read_again : read_surface_of l (surface_bytes (count_of l) w) ≡ gives w
  unfolding read_surface_of
  read_again = unbroken_gives (surface_rules l bytes) (listed_of (count_of l) bytes) unbroken ∙ ap gives list_read_again
    where
      bytes : List ℕ
      bytes = surface_bytes (count_of l) w

      unbroken : Unbroken (surface_rules l bytes)
      unbroken =
          unbroken-append (shot_rules l) (surface_frame (count_of l) bytes ++ triple_rule (count_of l) bytes ∷ list_rules l (listed_of (count_of l) bytes)) parts.0
          (unbroken-append (surface_frame (count_of l) bytes ++ triple_rule (count_of l) bytes ∷ []) (list_rules l (listed_of (count_of l) bytes)) (surface_unbroken (count_of l) w few)
          (subst (λ (x : List ℕ). Unbroken (list_rules l x)) (sym list_read_again) parts.1))

pub write_then_read_surface : (l : List ℤ) (w t : List ℕ) (k : ℕ) → Words word_count w → (write_surface_of l w t).answer ≡ gives k → read_surface_of l (take k (write_surface_of l w t).buffer) ≡ gives w
unfolding write_surface_of
write_then_read_surface l w t k v e =
    let (u, _, s) = written (shot_rules l ++ list_rules l w) (surface_bytes (count_of l) w) t k e in
    ap (read_surface_of l) s ∙ read_again l w v u

pub surface_bytes_differ : (l : List ℤ) (w v : List ℕ) → Words word_count w → Words word_count v → test_of l w ≡ gives tt → test_of l v ≡ gives tt
    → surface_bytes (count_of l) w ≡ surface_bytes (count_of l) v → w ≡ v
unfolding test_of
surface_bytes_differ l w v p q f g e =
    sym (list_read_again l w p (gives_unbroken (shot_rules l ++ list_rules l w) tt tt f).0) ∙ ap (listed_of (count_of l)) e
    ∙ list_read_again l v q (gives_unbroken (shot_rules l ++ list_rules l v) tt tt g).0

pub surface_exactly : (l : List ℤ) (b : List ℕ) → Bytes b → (w : List ℕ) → Words word_count w → (read_surface_of l b ≡ gives w) ↔ ((test_of l w ≡ gives tt) × (b ≡ surface_bytes (count_of l) w))
unfolding test_of
surface_exactly l b p w v = (
  λ e. let (u, s) = surface_is l b p w e in (unbroken_gives (shot_rules l ++ list_rules l w) tt u, sym s),
  λ (f, s). ap (read_surface_of l) s ∙ read_again l w v (gives_unbroken (shot_rules l ++ list_rules l w) tt tt f).0,
)
