-- The shots in turn: the number of one shot, and what the rules say of those that are left.
--
--   finite_tested      the library's test is that of the definition
--   placed_infinite, placed_far_east, placed_far_north, placed_both     what the tests of a shot's two scaled numbers say of its answer
--   Writes, Kept       a loop that looks at the shots l, and writes their coordinates, has come to i; `writes_none`, `kept_none`: it begins; `turn_writes`, `turn_goes`: it goes on; `turn_stops`: a shot is refused; `turns_end`: it has written all
--   turns_numbered     the rules have numbers that are not 0
--   Fine z             the scaled numbers of a shot that is not refused; `shot_fine`: so they are where its two rules are kept
--   turns_near         then every coordinate is within its range
--   millimetres-length, millimetres_at     how many coordinates there are, and those of shot i
--   turns_at           the rules of shot i are kept where all are
use mathlib.Core.Path.{◌≡◌, refl, sym, ap, ◌∙◌}
use mathlib.Core.Bool.{Bool, true, false, not, ◌&&◌, ◌||◌}
use mathlib.Core.List.{List, [], ◌∷◌}
use Prim.Native.Nat.{ℕ, zero, suc, ◌+◌, ◌*◌, ◌≤◌, ◌<◌}
use native.Mathlib.Omega.{arith}
use native.Mathlib.Nat.{not-suc-le-zero}
use native.Mathlib.Numerals.{add-one}
use borrow.Author.Tests.{ltb-false, not-false}
use lib.ListN.{length, get_or, drop, set, replicate, drop_of_length-le}
use lib.Seq.{drop-cons}
use lib.IntN.{ℤ, pos, nat_abs}
use lib.Ieee.{Float, nan, inf, fin}
use lib.Ieee.Scale.{finite}
use Rattle.std.specs.Float.{float_is_finite}
use Rattle.algebra.specs.Answer.{Answer, gives, refuses, Rule, chain, Numbered}
use Rattle.algebra.specs.Writing.{wrote}
use Rattle.algebra.proofs.AnswerLaws.{Unbroken, chain_broken, chain_kept, chain_stops, chain_goes, gives_unbroken}
use Rattle.algebra.proofs.LoopLaws.{or_parts, and_parts}
use Rattle.shots.specs.Sizes.{coordinates_most, farthest}
use Rattle.intake.specs.Nearest.{whole_of}
use Rattle.intake.specs.Scaling.{scaled_of, millimetres_of, at_origin}
use Rattle.intake.specs.Tests.{far_off, finite_rule, range_rule, turn_rules, whole_in_range, placed_of, coordinates_of}
use Rattle.intake.specs.declared.Shot.{Shot}
use Rattle.intake.specs.declared.Foot.{Foot}
use Rattle.intake.specs.declared.Scaled.{Scaled}
use Rattle.intake.proofs.Finiteness.{last_tells}

-- ---- one shot

-- the library's test is that of the definition
pub finite_tested : (x : Float) → float_is_finite x ≡ finite x
unfolding float_is_finite
finite_tested nan = refl
finite_tested (inf s) = refl
finite_tested (fin s m e) = refl

-- a shot's answer by those of its east and its north, scaled
module _ (foot : Foot) (s : Shot) {z : Scaled} (is : z ≡ scaled_of foot s) where
  abbrev both : Scaled → ℤ × ℤ
  both w = (whole_of w.east, whole_of w.north)

  abbrev far : Float → Rule
  far x = record { number = 2; broken = far_off x }

  finite_both : (finite_rule foot s).broken ≡ not (finite z.east && finite z.north)
  finite_both = last_tells foot s ∙ ap (λ (w : Scaled). not (finite w.east && finite w.north)) (sym is)

  pub placed_infinite : (finite z.east && finite z.north) ≡ false → refuses 16 ≡ placed_of foot s
  unfolding placed_of
  placed_infinite h = chain_broken (finite_rule foot s) (range_rule foot s ∷ []) (both (scaled_of foot s)) (finite_both ∙ ap not h)

  module _ (e : finite z.east ≡ true) (n : finite z.north ≡ true) where
    one_by_one : chain (far z.east ∷ far z.north ∷ []) (both z) ≡ placed_of foot s
    unfolding placed_of chain
    one_by_one =
        either (far_off z.east) ∙ ap (λ (w : Scaled). chain (record { number = 2; broken = far_off w.east || far_off w.north } ∷ []) (both w)) is
        ∙ chain_kept (finite_rule foot s) (range_rule foot s ∷ []) (both (scaled_of foot s)) (finite_both ∙ λ i. not (e i && n i))
      where
        either : (f : Bool) → chain (record { number = 2; broken = f } ∷ far z.north ∷ []) (both z) ≡ chain (record { number = 2; broken = f || far_off z.north } ∷ []) (both z)
        either true = refl
        either false = refl

    pub placed_far_east : {k : ℕ} → refuses k ≡ whole_in_range z.east → refuses k ≡ placed_of foot s
    unfolding whole_in_range
    placed_far_east p = chain_stops (far z.east ∷ []) (far z.north ∷ []) (whole_of z.east) (both z) (sym p) ∙ one_by_one

    module _ {x : ℤ} (p : gives x ≡ whole_in_range z.east) where
      pub placed_far_north : {k : ℕ} → refuses k ≡ whole_in_range z.north → refuses k ≡ placed_of foot s
      unfolding whole_in_range
      placed_far_north q = chain_stops (far z.north ∷ []) [] (whole_of z.north) (both z) (sym q) ∙ chain_goes (far z.east ∷ []) (far z.north ∷ []) (whole_of z.east) (both z) (sym p) ∙ one_by_one

      pub placed_both : {y : ℤ} → gives y ≡ whole_in_range z.north → gives (x, y) ≡ placed_of foot s
      unfolding whole_in_range chain
      placed_both {y} q =
          let u = (gives_unbroken (far z.east ∷ []) (whole_of z.east) x (sym p)).1 in
          let v = (gives_unbroken (far z.north ∷ []) (whole_of z.north) y (sym q)).1 in
          (λ i. gives (sym u i, sym v i)) ∙ chain_goes (far z.north ∷ []) [] (whole_of z.north) (both z) (sym q) ∙ chain_goes (far z.east ∷ []) (far z.north ∷ []) (whole_of z.east) (both z) (sym p) ∙ one_by_one

-- the scaled numbers of a shot that is not refused: finite, and not far off
abbrev pub Fine : Scaled → Type 0
Fine z = ((finite z.east ≡ true) × (far_off z.east ≡ false)) × ((finite z.north ≡ true) × (far_off z.north ≡ false))

pub shot_fine : (foot : Foot) (s : Shot) → (finite_rule foot s).broken ≡ false → (range_rule foot s).broken ≡ false → Fine (scaled_of foot s)
shot_fine foot s p q =
    let (e, n) = and_parts (finite (scaled_of foot s).east) (finite (scaled_of foot s).north) (not-false _ (sym (last_tells foot s) ∙ p)) in
    let (f, g) = or_parts (far_off (scaled_of foot s).east) (far_off (scaled_of foot s).north) q in
    ((e, f), (n, g))

-- ---- in turn

-- a run from the one at i on
left-cons : (l : List Shot) (i : ℕ) (d : Shot) → i < length l → drop i l ≡ get_or l i d ∷ drop (i + 1) l
left-cons l i d h = drop-cons l i d h ∙ ap (λ k. get_or l i d ∷ drop k l) (sym (add-one i))

-- a loop that writes the coordinates of the shots l has come to i: those from i on are still to be written, and to be looked at
module _ (foot : Foot) (l : List Shot) (i : ℕ) where
  abbrev pub Writes : List ℤ → Type 0
  Writes out = wrote out (2 * i) (millimetres_of foot (drop i l)) ≡ wrote (replicate coordinates_most (pos 0)) 0 (millimetres_of foot l)

  abbrev looked : List Shot → Answer (List ℤ)
  looked s = chain (turn_rules foot s) (wrote (replicate coordinates_most (pos 0)) 0 (millimetres_of foot l))

  abbrev pub Kept : Type 0
  Kept = looked (drop i l) ≡ coordinates_of foot l

  pub turns_end : {out : List ℤ} → length l ≤ i → Writes out → Kept → gives out ≡ coordinates_of foot l
  unfolding wrote chain
  turns_end {out} h w k =
      let e = sym (drop_of_length-le l h) in
      ap gives (ap (λ (s : List Shot). wrote out (2 * i) (millimetres_of foot s)) e ∙ w) ∙ ap looked e ∙ k

  module _ (d : Shot) (h : i < length l) where
    abbrev this : Shot
    this = get_or l i d

    abbrev two : List Rule
    two = finite_rule foot this ∷ range_rule foot this ∷ []

    abbrev places : ℤ × ℤ
    places = (whole_of (scaled_of foot this).east, whole_of (scaled_of foot this).north)

    abbrev all : List ℤ
    all = wrote (replicate coordinates_most (pos 0)) 0 (millimetres_of foot l)

    here : looked (this ∷ drop (i + 1) l) ≡ looked (drop i l)
    here = ap looked (sym (left-cons l i d h))

    pub turn_stops : {k : ℕ} → Kept → refuses k ≡ placed_of foot this → refuses k ≡ coordinates_of foot l
    unfolding placed_of
    turn_stops k p = chain_stops two (turn_rules foot (drop (i + 1) l)) places all (sym p) ∙ here ∙ k

    module _ {x y : ℤ} (p : gives (x, y) ≡ placed_of foot this) where
      pub turn_goes : Kept → looked (drop (i + 1) l) ≡ coordinates_of foot l
      unfolding placed_of
      turn_goes k = chain_goes two (turn_rules foot (drop (i + 1) l)) places all (sym p) ∙ here ∙ k

      -- its east and north are written
      pub turn_writes : (out : List ℤ) → Writes out → wrote (set (set out (2 * i) x) (2 * i + 1) y) (2 * (i + 1)) (millimetres_of foot (drop (i + 1) l)) ≡ all
      unfolding placed_of wrote
      turn_writes out w =
          let q = (gives_unbroken two places (x, y) (sym p)).1 in
          (λ j. wrote (set (set out (2 * i) (sym q j).0) (2 * i + 1) (sym q j).1) (next j) (millimetres_of foot (drop (i + 1) l)))
          ∙ ap (λ (s : List Shot). wrote out (2 * i) (millimetres_of foot s)) (sym (left-cons l i d h)) ∙ w
        where
          next : 2 * (i + 1) ≡ 2 * i + 1 + 1
          next = omega arith

pub writes_none : (foot : Foot) (l : List Shot) → Writes foot l 0 (replicate coordinates_most (pos 0))
writes_none foot l = refl

pub kept_none : (foot : Foot) (l : List Shot) → Kept foot l 0
unfolding coordinates_of
kept_none foot l = refl

module _ (foot : Foot) where
  pub turns_numbered : (l : List Shot) → Numbered (turn_rules foot l)
  turns_numbered [] = tt
  turns_numbered (s ∷ l) = (omega arith, (omega arith, turns_numbered l))

  pub turns_near : (l : List Shot) → Unbroken (turn_rules foot l) → (i : ℕ) → nat_abs (get_or (millimetres_of foot l) i (pos 0)) ≤ farthest
  unfolding far_off
  turns_near [] u i = omega arith
  turns_near (s ∷ l) u zero = ltb-false farthest (nat_abs (whole_of (scaled_of foot s).east)) (or_parts (far_off (scaled_of foot s).east) (far_off (scaled_of foot s).north) u.1.0).0
  turns_near (s ∷ l) u (suc zero) = ltb-false farthest (nat_abs (whole_of (scaled_of foot s).north)) (or_parts (far_off (scaled_of foot s).east) (far_off (scaled_of foot s).north) u.1.0).1
  turns_near (s ∷ l) u (suc (suc i)) = turns_near l u.1.1 i

  pub millimetres-length : (l : List Shot) → length (millimetres_of foot l) ≡ 2 * length l
  millimetres-length [] = refl
  millimetres-length (s ∷ l) = let h = millimetres-length l in omega arith

  pub turns_at : (l : List Shot) → Unbroken (turn_rules foot l) → (i : ℕ) → i < length l → ((finite_rule foot (get_or l i at_origin)).broken ≡ false) × ((range_rule foot (get_or l i at_origin)).broken ≡ false)
  turns_at [] u i h = absurd (not-suc-le-zero h)
  turns_at (s ∷ l) u zero h = (u.0, u.1.0)
  turns_at (s ∷ l) u (suc i) h = turns_at l u.1.1 i (omega arith)

  pub millimetres_at : (l : List Shot) (i : ℕ) → i < length l
      → (get_or (millimetres_of foot l) (2 * i) (pos 0) ≡ whole_of (scaled_of foot (get_or l i at_origin)).east) × (get_or (millimetres_of foot l) (2 * i + 1) (pos 0) ≡ whole_of (scaled_of foot (get_or l i at_origin)).north)
  millimetres_at [] i h = absurd (not-suc-le-zero h)
  millimetres_at (s ∷ l) zero h = (refl, refl)
  millimetres_at (s ∷ l) (suc i) h =
      let (p, q) = millimetres_at l i (omega arith) in
      let e : 2 * suc i ≡ suc (suc (2 * i)) = omega arith in
      let o : 2 * suc i + 1 ≡ suc (suc (2 * i + 1)) = omega arith in
      (ap (λ (k : ℕ). get_or (millimetres_of foot (s ∷ l)) k (pos 0)) e ∙ p, ap (λ (k : ℕ). get_or (millimetres_of foot (s ∷ l)) k (pos 0)) o ∙ q)
