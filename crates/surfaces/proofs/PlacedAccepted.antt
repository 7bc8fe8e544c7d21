-- The placing surface of an accepted patch is a triangulation of it.
--
--   placed-begin       the list that begins is the one triple of the first three shots
--   Processed l m      the shots that are placed when m is next: those below m, and the first three
--   placed_so_far      what holds of the outline (matroid, Outlines.Placed) holds after every shot
--
-- Main theorem: `placed-accepted`.
use Rattle.std.specs.Prelude.{◌≡◌, ℕ, zero, suc, ◌<◌, ◌≤◌, Bool, cond, not, ◌⊎◌, List, ℤ}
use mathlib.Core.Path.{sym, ◌∙◌, ap, subst}
use mathlib.Core.Logic.{inl, inr, ⊎_elim}
use mathlib.Core.Bool.{true≢false}
use native.Mathlib.Omega.{arith}
use native.Mathlib.Nat.{not-suc-le-zero}
use Rattle.algebra.specs.Answer.{Reflects, holds, fails}
use Rattle.algebra.specs.Loops.{fold}
use Rattle.algebra.specs.Sign.{Sign, is_nought, NZ}
use Rattle.algebra.specs.Words.{Words}
use Rattle.algebra.proofs.AnswerLaws.{reflects-or, reflects_eqb}
use Rattle.algebra.proofs.LoopLaws.{last, first_passes}
use Rattle.algebra.proofs.SignLaws.{sign_of-zero}
use Rattle.algebra.proofs.TrioLaws.{Among, trio, trio_same, trio_holds, SameThree, same_swap, same_cycle, any_order}
use Rattle.matroid.specs.Points.{Points}
use Rattle.matroid.proofs.Sides.{turn_at}
use Rattle.matroid.proofs.Outlines.{Placed, placed_same}
use Rattle.matroid.proofs.PlacingStep.{placed_on}
use Rattle.matroid.proofs.PlacingEnds.{OfThree, placed_first, placed_triangulation}
use Rattle.shots.specs.Coordinates.{point_of, area_of}
use Rattle.shots.specs.Patch.{count_of, orient_of}
use Rattle.shots.specs.Tests.{refusal_of}
use Rattle.triples.specs.Sizes.{word_count}
use Rattle.lists.specs.Lines.{Accepted}
use Rattle.lists.proofs.Agreement.{listed_triple}
use Rattle.surfaces.specs.Placing.{first_off, begin_of, third_in, place_shot, place_next, placed_of}
use Rattle.surfaces.proofs.ByEdges.{first_off_low}
use Rattle.surfaces.proofs.PlacedWords.{so_far_words}
use Rattle.surfaces.proofs.PlacedLists.{begin-listed, placed_past}
use Rattle.surfaces.proofs.PlacedShots.{third-listed, shot-grown}

abbrev Processed : List ℤ → ℕ → ℕ → Type 0
Processed l m x = (x < m) ⊎ Among 0 1 (first_off l) x

module _ (l : List ℤ) (ok : refusal_of l ≡ 0) where
  abbrev n : ℕ
  n = count_of l

  abbrev P : Points
  P = point_of l

  abbrev k : ℕ
  k = first_off l

  -- ---- the beginning

  begin_third : OfThree 0 1 k (third_in n (begin_of l))
  begin_third x y z = (
    λ e. out ((begin-listed l ok (trio n x y z)).0 ((third-listed n (begin_of l) x y z).0 e)),
    λ h. (third-listed n (begin_of l) x y z).1 ((begin-listed l ok (trio n x y z)).1 (sym (trio_same n x y z 0 1 k h))),
  )
    where
      out : trio n 0 1 k ≡ trio n x y z → SameThree 0 1 k x y z
      out e =
          let (a, b) = first_off_low l ok in
          let (p, q, s) = trio_holds n 0 1 k x y z (omega arith) (omega arith) b e in
          any_order (SameThree 0 1 k) (same_swap 0 1 k) (same_cycle 0 1 k) 0 1 k (λ e. omega arith) (λ e. omega arith) (λ e. omega arith) x y z p q s (λ i. (λ o. o, λ o. o))

  begin_off : NZ (turn_at P 0 1 k)
  unfolding first_off orient_of area_of
  begin_off e = true≢false (sym (first_passes (λ i. not (is_nought (orient_of l 0 1 i))) n (first_off_low l ok).1) ∙ ap (λ (s : Sign). not (is_nought s)) (sign_of-zero (turn_at P 0 1 k) e))

  placed-begin : Placed n P (Among 0 1 k) (third_in n (begin_of l))
  placed-begin = let (a, b) = first_off_low l ok in placed_first n P 0 1 k (omega arith) (omega arith) b begin_off begin_third

  -- ---- one shot

  module _ (w : List ℕ) (v : Words word_count w) (m : ℕ) (mn : m < n) where
    placed_next : Placed n P (Processed l m) (third_in n w) → Placed n P (Processed l (suc m)) (third_in n (place_next l m w))
    unfolding place_next
    placed_next g = go (reflects-or (reflects_eqb m 0) (reflects-or (reflects_eqb m 1) (reflects_eqb m k)))
      where
        wider : (x : ℕ) → Processed l m x → Processed l (suc m) x
        wider x (inl h) = inl (omega arith)
        wider x (inr h) = inr h

        with_m : (x : ℕ) → Processed l m x ⊎ (x ≡ m) → Processed l (suc m) x
        with_m x (inl h) = wider x h
        with_m x (inr e) = inl (omega arith)

        m_or_before : (x : ℕ) → Processed l (suc m) x → Processed l m x ⊎ (x ≡ m)
        m_or_before x (inl h) = ⊎_elim (λ j. inl (inl j)) inr (last x m h)
        m_or_before x (inr h) = inl (inr h)

        -- m is one of the first three
        before : Among 0 1 k m → (x : ℕ) → Processed l (suc m) x → Processed l m x
        before o x h = ⊎_elim (λ j. j) (λ e. inr (subst (Among 0 1 k) (sym e) o)) (m_or_before x h)

        fresh : (Among 0 1 k m → ⊥) → Processed l m m → ⊥
        fresh o (inl h) = omega arith
        fresh o (inr h) = o h

        go : {b : Bool} → Reflects (Among 0 1 k m) b → Placed n P (Processed l (suc m)) (third_in n (cond b w (place_shot l w m)))
        go (holds o) = placed_same (λ x. (wider x, before o x)) g
        go (fails o) = placed_same (λ x. (with_m x, m_or_before x)) (placed_on g m mn (fresh o) (shot-grown l ok w v m mn g))

  -- ---- every shot

  placed_so_far : (m : ℕ) → m ≤ n → Placed n P (Processed l m) (third_in n (fold (place_next l) (begin_of l) m))
  unfolding fold
  placed_so_far zero h = placed_same (λ x. (inr, ⊎_elim (λ j. absurd (not-suc-le-zero j)) (λ o. o))) placed-begin
  placed_so_far (suc m) h = placed_next (fold (place_next l) (begin_of l) m) (so_far_words l m) m (omega arith) (placed_so_far m (omega arith))

  pub placed-accepted : Accepted l (placed_of l)
  unfolding placed_of
  placed-accepted = (
    placed_past l ok,
    placed_triangulation (placed_same (λ x. (⊎_elim (λ h. h) (placed-begin.low x), inl)) (placed_so_far n (omega arith))) (listed_triple n (placed_of l), third-listed n (placed_of l)),
  )
