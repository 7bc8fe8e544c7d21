-- The tests of the readers decide the lines of document 01's table.
--
--   framed_decided     5: `misfits` decides that the bytes are too few, or the length field is not the number of bytes after it
--   patch_decided      the rules of a patch record decide its lines
--   form_decided       7: the order of ranks is that of the triples, and a triple that comes after one out of form has that one as its witness
--   surface_decided    the rules of a surface record and of its list decide their lines, for an accepted patch
--
-- Source: document 01, "Records", "Refusal numbers".
use mathlib.Core.Path.{◌≡◌, refl, sym, ◌∙◌, ap}
use mathlib.Core.Logic.{◌⊎◌, inl, inr, ◌↔◌}
use mathlib.Core.Bool.{Bool, true≢false}
use mathlib.Core.List.{List, ◌∷◌, ◌++◌}
use Prim.Native.Nat.{ℕ, zero, suc, ◌+◌, ◌*◌, ◌<◌}
use native.Mathlib.Omega.{arith}
use native.Mathlib.Numerals.{add-one}
use lib.ListN.{get_or}
use lib.IntN.{ℤ}
use Rattle.algebra.specs.Answer.{Reflects, holds, fails, Decides}
use Rattle.algebra.specs.Loops.{any}
use Rattle.algebra.specs.Sets.{Within, Lex}
use Rattle.algebra.proofs.AnswerLaws.{reflects_by, reflects_iff, reflects-not, reflects-or, reflects_ltb, reflects_eqb}
use Rattle.algebra.proofs.LoopLaws.{reflects-any}
use Rattle.shots.specs.Sizes.{shots_least, shots_most}
use Rattle.shots.specs.Patch.{count_of}
use Rattle.shots.specs.Tests.{refusal_of}
use Rattle.shots.proofs.Promises.{shots_decided}
use Rattle.triples.specs.Ranks.{rank_of}
use Rattle.triples.proofs.RankLaws.{rank_order}
use Rattle.lists.specs.Tests.{list_rules}
use Rattle.lists.specs.Lines.{list_lines}
use Rattle.lists.proofs.Agreement.{list_decided}
use Rattle.records.specs.Sizes.{version}
use Rattle.records.specs.Fields.{field_of}
use Rattle.records.specs.Reading.{misfits, coordinates_of, patch_rules, surface_frame, triple_in, least_at, bad_at, triple_rule, listed_of}
use Rattle.records.specs.Lines.{Framed, read_patch_lines, surface_frame_lines, OutOfForm}
use Rattle.records.proofs.FormatLaws.{framed, within_decided, bad_decided}

-- ---- the frame

module _ (k : ℕ) (b : List ℕ) where
  pub framed_decided : Reflects (Framed k b → ⊥) (misfits k b)
  framed_decided = reflects_by (misfits k b) (λ e f. true≢false (sym e ∙ (framed k b).1 f)) (λ e h. h ((framed k b).0 e))

pub patch_decided : (b : List ℕ) → Decides (patch_rules b) (read_patch_lines b)
patch_decided b = (
  refl,
  framed_decided 4 b,
  (
    refl,
    reflects-not (reflects_eqb (get_or b 2 0) version),
    (
      refl,
      reflects-or (reflects_ltb (get_or b 3 0) shots_least) (reflects_ltb shots_most (get_or b 3 0)),
      (refl, reflects-not (reflects_eqb (field_of 2 b 0) (2 + 8 * get_or b 3 0)), (shots_decided (coordinates_of b)).2),
    ),
  ),
)

-- ---- the triples

module _ (n : ℕ) (b : List ℕ) where
  abbrev Bad : ℕ → Type 0
  Bad j = (Within 0 (triple_in b j) n → ⊥) ⊎ (rank_of n (triple_in b j) < least_at n b j)

  -- of two triples in form, the one comes after the other exactly when its rank does
  ordered : (i j : ℕ) → Within 0 (triple_in b i) n → Within 0 (triple_in b j) n → (rank_of n (triple_in b i) < rank_of n (triple_in b j)) ↔ Lex (triple_in b i) (triple_in b j)
  unfolding triple_in
  ordered i j v w = rank_order n (triple_in b i) (triple_in b j) v refl w refl

  least_after : (i j : ℕ) → i + 1 ≡ j → least_at n b j ≡ rank_of n (triple_in b i) + 1
  unfolding least_at
  least_after i j e = ap (least_at n b) (sym e ∙ add-one i)

  abbrev t : ℕ
  t = get_or b 4 0

  bad_out : (j : ℕ) → j < t → Bad j → OutOfForm n b
  unfolding least_at
  bad_out j h (inl x) = (j, h, inl x)
  bad_out zero h (inr x) = absurd (omega arith)
  bad_out (suc i) h (inr x) = go (within_decided n b i) (within_decided n b (suc i))
    where
      go : {p q : Bool} → Reflects (Within 0 (triple_in b i) n) p → Reflects (Within 0 (triple_in b (suc i)) n) q → OutOfForm n b
      go (fails v) w = (i, omega arith, inl v)
      go (holds v) (fails w) = (suc i, h, inl w)
      go (holds v) (holds w) = (suc i, h, inr (i, add-one i, λ k. let r = (ordered i (suc i) v w).1 k in omega arith))

  out_bad : OutOfForm n b → (j : ℕ) × (j < t) × Bad j
  out_bad (j, h, inl x) = (j, h, inl x)
  out_bad (j, h, inr (i, e, x)) = go (within_decided n b i) (within_decided n b j)
    where
      go : {p q : Bool} → Reflects (Within 0 (triple_in b i) n) p → Reflects (Within 0 (triple_in b j) n) q → (j : ℕ) × (j < t) × Bad j
      go (fails v) w = (i, omega arith, inl v)
      go (holds v) (fails w) = (j, h, inl w)
      go (holds v) (holds w) = (j, h, inr (let k : rank_of n (triple_in b i) < rank_of n (triple_in b j) → ⊥ = λ r. x ((ordered i j v w).0 r) in omega (arith, least_after i j e)))

  pub form_decided : Reflects (OutOfForm n b) (any (get_or b 4 0) (bad_at n b))
  form_decided = reflects_iff (λ (j, h, x). bad_out j h x, out_bad) (reflects-any Bad (bad_at n b) t (λ j _. bad_decided n b j))

pub surface_decided : (l : List ℤ) (b : List ℕ) → refusal_of l ≡ 0 → Decides (surface_frame (count_of l) b ++ triple_rule (count_of l) b ∷ list_rules l (listed_of (count_of l) b))
    (surface_frame_lines (count_of l) b ++ record { number = 7; when = OutOfForm (count_of l) b } ∷ list_lines l (listed_of (count_of l) b))
surface_decided l b ok = (
  refl,
  framed_decided 5 b,
  (
    refl,
    reflects-not (reflects_eqb (get_or b 2 0) version),
    (
      refl,
      reflects-not (reflects_eqb (get_or b 3 0) (count_of l)),
      (refl, reflects-not (reflects_eqb (field_of 2 b 0) (3 + 3 * get_or b 4 0)), (refl, form_decided (count_of l) b, list_decided l (listed_of (count_of l) b) ok)),
    ),
  ),
)
