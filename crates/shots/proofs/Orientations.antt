-- What `orientation` gives of three shots is their determinant, and its sign, which cocircuits, circuits, the placing surface and the test read, is their chirotope (document 01, "Shots and orientation";
-- document 02, E6).
--
--   area_is_volume, orient_is_chirotope          the determinant of the three points, and its sign
--   area_cycle, area_swap, area_swap_first       alternating; `orient_cycle`, `orient_swap_first`: so is the sign
--   area_repeated, orient_repeated               0 for a repeated shot
--   right_is_left                                what lies right of a pair lies left of the pair turned
--   between_says                                 of three shots on a line, which of them lies between the others
--   orientation_agrees                           what `orientation` gives is the determinant
--   orientation_sign                             of three shots of an accepted patch: what the rooms above read and the chirotope are the sign of the number that `orientation` gives
--   cocircuit_reads                              so is the sign that `cocircuit` gives for a pair at each shot
--   orientation_swap, orientation_swap_first, orientation_swap_ends    two shots exchanged: the opposite number, or the same refusal
--   orientation_repeated                         0 for shots not all different
--   orientation_balance                          of four shots the areas balance
--
-- Border pairs: proofs/Borders; sides: proofs/Sides.
use mathlib.Core.Path.{◌≡◌, refl, sym, ◌∙◌, ap}
use mathlib.Core.Logic.{◌⊎◌, inl, inr, ◌↔◌}
use mathlib.Core.Bool.{Bool, true, ◌||◌}
use mathlib.Core.List.{List, [], ◌∷◌, ◌++◌}
use Prim.Native.Nat.{ℕ, ◌<◌}
use native.Mathlib.Omega.{arith}
use borrow.Author.Tests.{lt-ltb}
use lib.Dec.{leb}
use lib.IntN.{ℤ, pos, neg_ℤ, ◌+ℤ◌}
use lib.ListN.{get_or}
use Rattle.algebra.specs.Loops.{any}
use Rattle.algebra.specs.Sign.{Sign, minus, nought, plus, sign_of, opposite, value, is_minus, is_plus}
use Rattle.algebra.specs.Answer.{Reflects, gives, on_value, chain, Clear}
use Rattle.algebra.proofs.AnswerLaws.{on_value_chain, reflects_iff, reflects_yes, reflects_true, reflects_minus}
use Rattle.algebra.proofs.LoopLaws.{or_swap, or_swap_first, get_d_tabulate}
use Rattle.algebra.proofs.SignLaws.{sign_of-zero, zero-sign_of, sign_of-opposite}
use Rattle.matroid.specs.Configurations.{volume, chirotope}
use Rattle.matroid.specs.Points.{Between, dot}
use Rattle.matroid.proofs.Turns.{turn_is_volume, turn_cycle, turn_swap, turn_swap_first, turn-first, turn_last, turn_ends, turn_balance}
use Rattle.matroid.proofs.Lines.{between_iff}
use Rattle.shots.specs.Sizes.{shots_most}
use Rattle.shots.specs.Coordinates.{point_of, patch_of, area_of}
use Rattle.shots.specs.Patch.{count_of, orient_of, between_of, some_left, some_right}
use Rattle.shots.specs.Tests.{shot_rules, refusal_of}
use Rattle.shots.specs.Lines.{shot_lines, orientation_lines}
use Rattle.shots.specs.Calls.{orientation_of, sign_at, cocircuit_of}
use Rattle.shots.proofs.Patch.{patch_few, patch_differ}
use Rattle.shots.proofs.Promises.{orientation_gives, orientation_clear, cocircuit_clear, cocircuit_signs, shots_kept}

minus_plus : (s : Sign) → is_minus s ≡ is_plus (opposite s)
unfolding opposite
minus_plus minus = refl
minus_plus nought = refl
minus_plus plus = refl

module _ (l : List ℤ) where
  module _ (a b c : ℕ) where
    -- ---- the number

    pub area_is_volume : area_of l a b c ≡ volume (patch_of l) (a ∷ b ∷ c ∷ [])
    unfolding area_of
    area_is_volume = turn_is_volume (point_of l) a b c

    pub area_cycle : area_of l a b c ≡ area_of l b c a
    unfolding area_of
    area_cycle = turn_cycle (point_of l a) (point_of l b) (point_of l c)

    pub area_swap : area_of l a c b ≡ neg_ℤ (area_of l a b c)
    unfolding area_of
    area_swap = turn_swap (point_of l a) (point_of l b) (point_of l c)

    pub area_swap_first : area_of l b a c ≡ neg_ℤ (area_of l a b c)
    unfolding area_of
    area_swap_first = turn_swap_first (point_of l a) (point_of l b) (point_of l c)

    pub area_repeated : (a ≡ b) ⊎ ((b ≡ c) ⊎ (a ≡ c)) → area_of l a b c ≡ pos 0
    unfolding area_of
    area_repeated (inl e) = rw e (turn-first (point_of l b) (point_of l c))
    area_repeated (inr (inl e)) = rw e (turn_last (point_of l a) (point_of l c))
    area_repeated (inr (inr e)) = rw e (turn_ends (point_of l c) (point_of l b))

    -- ---- its sign

    pub orient_is_chirotope : orient_of l a b c ≡ chirotope (patch_of l) (a ∷ b ∷ c ∷ [])
    unfolding orient_of
    orient_is_chirotope = ap sign_of area_is_volume

    pub orient_cycle : orient_of l a b c ≡ orient_of l b c a
    unfolding orient_of
    orient_cycle = ap sign_of area_cycle

    pub orient_swap_first : orient_of l b a c ≡ opposite (orient_of l a b c)
    unfolding orient_of
    orient_swap_first = ap sign_of area_swap_first ∙ sign_of-opposite (area_of l a b c)

    pub orient_repeated : (a ≡ b) ⊎ ((b ≡ c) ⊎ (a ≡ c)) → orient_of l a b c ≡ nought
    unfolding orient_of
    orient_repeated e = sign_of-zero (area_of l a b c) (area_repeated e)

  pub right_is_left : (i j : ℕ) → some_right l i j ≡ some_left l j i
  unfolding some_right some_left
  right_is_left i j = λ t. any (count_of l) (λ k. turned k t)
    where
      turned : (k : ℕ) → is_minus (orient_of l i j k) ≡ is_plus (orient_of l j i k)
      turned k = minus_plus (orient_of l i j k) ∙ ap is_plus (sym (orient_swap_first i j k))

  between_decided : (m a b : ℕ) → area_of l m a b ≡ pos 0 → (point_of l m ≡ point_of l b → ⊥) → Reflects (Between (point_of l m) (point_of l a) (point_of l b)) (between_of l m a b)
  unfolding area_of between_of
  between_decided m a b e ne = reflects_iff (between_iff (point_of l m) (point_of l a) (point_of l b) e ne) (reflects_minus (dot (point_of l m) (point_of l a) (point_of l b)))

  pub between_says : refusal_of l ≡ 0 → (m a b : ℕ) → m < count_of l → b < count_of l → (m ≡ b → ⊥) → orient_of l m a b ≡ nought → (between_of l m a b ≡ true) ↔ Between (point_of l m) (point_of l a) (point_of l b)
  unfolding orient_of area_of
  between_says h m a b ml bl mb e = (λ t. reflects_yes decided t, λ s. reflects_true decided s)
    where
      decided : Reflects (Between (point_of l m) (point_of l a) (point_of l b)) (between_of l m a b)
      decided = between_decided m a b (zero-sign_of (area_of l m a b) e) (patch_differ l h m b ml bl mb)

  -- ---- the call

  -- what the call gives is the area
  given : (a b c : ℕ) {v : ℤ} → orientation_of l a b c ≡ gives v → area_of l a b c ≡ v
  given a b c {v} e = ((orientation_gives l a b c v).0 e).1

  pub orientation_agrees : (a b c : ℕ) (v : ℤ) → (orientation_of l a b c ≡ gives v) ↔ (Clear (orientation_lines l a b c) × (volume (patch_of l) (a ∷ b ∷ c ∷ []) ≡ v))
  orientation_agrees a b c v =
      let o = area_is_volume a b c in
      let g = orientation_gives l a b c v in
      (λ e. let (k, q) = g.0 e in (k, sym o ∙ q), λ (k, q). g.1 (k, o ∙ q))

  -- of an accepted patch
  module _ (patch : Clear (shot_lines l)) where
    pub orientation_sign : (a b c : ℕ) → a < count_of l → b < count_of l → c < count_of l
        → (v : ℤ) × (orientation_of l a b c ≡ gives v) × (orient_of l a b c ≡ sign_of v) × (chirotope (patch_of l) (a ∷ b ∷ c ∷ []) ≡ sign_of v)
    unfolding orient_of
    orientation_sign a b c an bn cn =
        (area_of l a b c, (orientation_gives l a b c _).1 ((orientation_clear l a b c).1 (patch, (an, bn, cn)), refl), refl, sym (ap sign_of (area_is_volume a b c)))

    pub cocircuit_reads : (i j k : ℕ) → i < j → j < count_of l → k < count_of l → (v : ℤ) × (orientation_of l i j k ≡ gives v) × (get_or (cocircuit_of l i j).signs k (pos 0) ≡ value (sign_of v))
    unfolding sign_at
    cocircuit_reads i j k ij jn kn =
        let (v, o, s, _) = orientation_sign i j k (omega arith) jn kn in
        let few = (patch_few l ((shots_kept l).0 patch)).1 in (
          v,
          o,
          ap (λ (s : List ℤ). get_or s k (pos 0)) (cocircuit_signs l i j ((cocircuit_clear l i j).1 (patch, (ij, jn)))) ∙ get_d_tabulate (sign_at l i j) shots_most k (pos 0) (omega (arith, few, kn))
              ∙ rw (lt-ltb k (count_of l) kn) (ap value s),
        )

  -- two shots exchanged: the tests of the numbers say the same, and the area is the opposite
  opposite_answer : {p q : Bool} {x : ℤ} (y : ℤ) → p ≡ q → x ≡ neg_ℤ y
      → chain (shot_rules l ++ record { number = 7; broken = p } ∷ []) x ≡ on_value neg_ℤ (chain (shot_rules l ++ record { number = 7; broken = q } ∷ []) y)
  opposite_answer {p} {q} {x} y e o = (λ t. chain (shot_rules l ++ record { number = 7; broken = e t } ∷ []) (o t)) ∙ sym (on_value_chain neg_ℤ (shot_rules l ++ record { number = 7; broken = q } ∷ []) y)

  -- a number that is not a shot
  out : ℕ → Bool
  out i = leb (count_of l) i

  pub orientation_swap : (a b c : ℕ) → orientation_of l a c b ≡ on_value neg_ℤ (orientation_of l a b c)
  unfolding orientation_of out
  orientation_swap a b c = opposite_answer (area_of l a b c) (ap (◌||◌ (out a)) (or_swap (out c) (out b))) (area_swap a b c)

  pub orientation_swap_first : (a b c : ℕ) → orientation_of l b a c ≡ on_value neg_ℤ (orientation_of l a b c)
  unfolding orientation_of out
  orientation_swap_first a b c = opposite_answer (area_of l a b c) (or_swap_first (out b) (out a) (out c)) (area_swap_first a b c)

  pub orientation_swap_ends : (a b c : ℕ) → orientation_of l c b a ≡ on_value neg_ℤ (orientation_of l a b c)
  unfolding orientation_of out
  orientation_swap_ends a b c =
      opposite_answer (area_of l a b c) (or_swap_first (out c) (out b) (out a) ∙ ap (◌||◌ (out b)) (or_swap (out c) (out a)) ∙ or_swap_first (out b) (out a) (out c)) (area_cycle c b a ∙ area_swap_first a b c)

  pub orientation_repeated : (a b c : ℕ) → (a ≡ b) ⊎ ((b ≡ c) ⊎ (a ≡ c)) → (v : ℤ) → orientation_of l a b c ≡ gives v → v ≡ pos 0
  orientation_repeated a b c h v e = sym (given a b c e) ∙ area_repeated a b c h

  pub orientation_balance : (a b c d : ℕ) {abc acd abd bcd : ℤ} → orientation_of l a b c ≡ gives abc → orientation_of l a c d ≡ gives acd → orientation_of l a b d ≡ gives abd → orientation_of l b c d ≡ gives bcd
      → abc +ℤ acd ≡ abd +ℤ bcd
  unfolding area_of
  orientation_balance a b c d e f g h =
      (λ t. sym (given a b c e) t +ℤ sym (given a c d f) t) ∙ turn_balance (point_of l) a b c d ∙ (λ t. given a b d g t +ℤ given b c d h t)
