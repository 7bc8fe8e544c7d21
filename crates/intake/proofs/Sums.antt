-- Why the code's comparisons and its one sum find the whole number: a size is beyond the range exactly where it is above 1000000.5, and a sum from 2 ^ 52 to 2 ^ 53 rounds to a whole number.
--
--   far_below, far_above    the two comparisons of `is_far`
--   Whole x                 the sum with 3 * 2 ^ 51 is a whole number, and without 3 * 2 ^ 51 it is the nearest to x; `sum_whole`: so it is where x is finite and not far off
--   sum_cast, left_fits, left_narrow, left_whole    what the casts of `whole` want, and what they leave
use mathlib.Core.Path.{◌≡◌, refl, sym, ap, ◌∙◌, subst}
use mathlib.Core.Bool.{Bool, true, false, cond, false≢true, ◌&&◌}
use mathlib.Core.List.{[], ◌∷◌}
use Prim.Native.Nat.{ℕ, suc, ◌+◌, ◌-◌, ◌*◌, ◌/◌, ◌%◌, ◌^◌, ◌≤◌, ◌<◌, compare}
use native.Mathlib.Nat.{le_trans, le_of_eq, lt_of_lt_of_le, lt_of_le_of_lt, lt_of_not-le, not-le_of_lt, mul-one, mul_comm, mul_assoc, mul_right_comm, mul-le-mul_right, mul-lt-mul_of_pos_right, mul-pos, le-div_iff_mul-le, div-lt_iff_lt-mul, eq_of_mul-eq-mul_right}
use native.Mathlib.Omega.{arith}
use native.Mathlib.Decide.{dec_lt}
use borrow.Author.Tests.{lt-ltb, le-ltb, ltb-false}
use lib.Dec.{T, ltb, le→leb, lit<}
use lib.Pow.{pow-add, pow_pos, pow_mono, pow-lt}
use lib.IntN.{ℤ, pos, negsuc, neg_ℤ, nat_abs, ◌+ℤ◌, ◌-ℤ◌, ◌*ℤ◌}
use lib.Ieee.{Float, nan, inf, fin, Format, binary64, prec, emax, low, up, down, size, round, of_int, sum, add, lt, to_signed, in_signed, in_float}
use lib.Ieee.Digits.{size-lt, size-le}
use lib.Ieee.Fits.{nearest-le, round-fits, down_pos}
use lib.Ieee.Exact.{HasValue}
use lib.Ieee.Nearest.{closest, closest_same}
use lib.Ieee.Order.{drop}
use lib.Ieee.Positive.{num, den, den_pos}
use lib.Ieee.Scale.{finite, grid, overflow, round_val}
use lib.Ieee.Back.{round_whole, whole_unique, positive_back}
use lib.Ieee.Casts.{to_signed_in}
use mir.Syntax.{Width, w32, w64}
use mir.Val.{SFits, hbits, to_z, of_z}
use Rattle.algebra.proofs.Ring.{var, ◌⊕◌, neg, ring}
use Rattle.algebra.proofs.SizeLaws.{read_back, sfits_size}
use Rattle.shots.specs.Sizes.{farthest}
use Rattle.intake.specs.Nearest.{is_negative, value_of, NearestTo, whole_of}
use Rattle.intake.specs.Tests.{far_off}
use Rattle.intake.proofs.Nearness.{Close, closest_close, closest_nearest, nearest_one, nearest_moved, whole_size}

-- ---- beyond the range

module _ (N D : ℕ) (P : 0 < D) where
  abbrev k : ℕ
  k = closest N D

  near : Close N D k
  near = closest_close N D P

  -- above the half on the edge of the range, and beyond it
  beyond : 2000001 * D < N * 2 → farthest < k
  beyond h = lt_of_not-le (λ (l : k ≤ farthest). clash (mul-le-mul_right D l))
    where
      clash : k * D ≤ farthest * D → ⊥
      clash m = omega (arith, near.0)

  edge : N * 2 ≤ 2000001 * D → k ≤ farthest
  edge h = go (dec_lt (suc farthest) k) (dec_lt farthest k)
    where
      far : suc (suc farthest) * D ≤ k * D → ⊥
      far m = omega (arith, near.0)

      odd : k ≡ suc farthest → ⊥
      odd e = let m = ap (λ (z : ℕ). z * D) e in omega (arith, near.0, near.1 (omega (arith, near.0)))

      go : Dec (suc farthest < k) → Dec (farthest < k) → k ≤ farthest
      go (yes l) d = absurd (far (mul-le-mul_right D l))
      go (no l) (yes m) = absurd (odd (omega arith))
      go (no l) (no m) = omega arith

  far_size : ltb (2000001 * 1 * D) (N * 2) ≡ ltb farthest k
  far_size = go (dec_lt (2000001 * 1 * D) (N * 2))
    where
      go : Dec (2000001 * 1 * D < N * 2) → ltb (2000001 * 1 * D) (N * 2) ≡ ltb farthest k
      go (yes h) = lt-ltb (2000001 * 1 * D) (N * 2) h ∙ sym (lt-ltb farthest k (beyond (omega arith)))
      go (no h) = le-ltb (2000001 * 1 * D) (N * 2) (omega (arith, h)) ∙ sym (le-ltb farthest k (edge (omega (arith, h))))

far_is : (x : Float) → ltb (2000001 * 1 * den x) (num x * 2) ≡ far_off x
unfolding far_off
far_is x = far_size (num x) (den x) (den_pos x) ∙ ap (ltb farthest) (sym (whole_size x))

pub far_below : (x : Float) → finite x ≡ true → lt x (fin true 2000001 (negsuc 0)) ≡ true → true ≡ far_off x
unfolding lt
far_below nan f h = absurd (false≢true f)
far_below (inf s) f h = absurd (false≢true f)
far_below (fin false m e) f h = absurd (false≢true h)
far_below (fin true m e) f h = sym h ∙ far_is (fin true m e)

pub far_above : (x : Float) → finite x ≡ true → lt x (fin true 2000001 (negsuc 0)) ≡ false → lt (fin false 2000001 (negsuc 0)) x ≡ far_off x
unfolding lt
far_above nan f h = absurd (false≢true f)
far_above (inf s) f h = absurd (false≢true f)
far_above (fin false m e) f h = far_is (fin false m e)
far_above (fin true m e) f h = sym h ∙ far_is (fin true m e)

-- ---- a fraction from 2 ^ (prec - 1) to 2 ^ prec

-- a number from 2 ^ j up to 2 ^ (j + 1) has j + 1 digits
digits : (n j : ℕ) → 2 ^ j ≤ n → n < 2 ^ suc j → size n ≡ suc j
digits n j lo hi =
    let a : size n ≤ suc j = size-le n (suc j) hi in
    let b : j < size n = lt_of_not-le (λ (g : size n ≤ j). not-le_of_lt (lt_of_lt_of_le (size-lt n) (pow_mono g)) lo) in
    omega arith

-- so all that is below the whole units is dropped
drops : (p L N c : ℕ) → 0 < p → 0 < c → 2 ^ (p - 1) * c ≤ N → N < 2 ^ p * c → drop p (N * 2 ^ L) c ≡ L
drops p L N c P C lo hi = less (size (N * 2 ^ L / c)) (digits (N * 2 ^ L / c) (p - 1 + L) ((le-div_iff_mul-le C).1 lo') (subst (λ (x : ℕ). N * 2 ^ L / c < 2 ^ x) next ((div-lt_iff_lt-mul C).1 hi')))
  where
    lo' : 2 ^ (p - 1 + L) * c ≤ N * 2 ^ L
    lo' = le_trans (le_of_eq (ap (λ (x : ℕ). x * c) (pow-add 2 (p - 1) L) ∙ mul_right_comm (2 ^ (p - 1)) (2 ^ L) c)) (mul-le-mul_right (2 ^ L) lo)

    hi' : N * 2 ^ L < 2 ^ (p + L) * c
    hi' = lt_of_lt_of_le (mul-lt-mul_of_pos_right hi (pow_pos L)) (le_of_eq (mul_right_comm (2 ^ p) c (2 ^ L) ∙ ap (λ (x : ℕ). x * c) (sym (pow-add 2 p L))))

    next : p + L ≡ suc (p - 1 + L)
    next = omega arith

    less : (s : ℕ) → s ≡ suc (p - 1 + L) → s - p ≡ L
    less s e = omega arith

most : (N c B : ℕ) → 0 < c → N < B * c → closest N c ≤ B
most N c B C h = le_trans (nearest-le (N / c) (compare (N % c * 2) c)) ((div-lt_iff_lt-mul C).1 h)

-- in units of the smallest value that the format has
in_units : (f : Format) (N c : ℕ) → 0 < prec f → 0 < c → 2 ^ (prec f - 1) * c ≤ N → N < 2 ^ prec f * c → grid f N c ≡ closest N c * 2 ^ low f
in_units f N c P C lo hi =
    let L = low f in
    ap (λ (k : ℕ). closest (N * 2 ^ L) (c * 2 ^ k) * 2 ^ k) (drops (prec f) L N c P C lo hi)
    ∙ ap (λ (x : ℕ). x * 2 ^ L) (closest_same (N * 2 ^ L) (c * 2 ^ L) N c (mul-pos C (pow_pos L)) C (mul_right_comm N (2 ^ L) c ∙ mul_assoc N c (2 ^ L)))

in_ones : (x : Float) (q l : ℕ) → 0 < l → HasValue x false (q * l) l → HasValue x false q 1
in_ones nan q l p h = h
in_ones (inf s) q l p h = h
in_ones (fin s m e) q l p h = (h.0, mul-one (m * up e) ∙ eq_of_mul-eq-mul_right l p (m * up e) (q * down e) (h.1 ∙ mul_right_comm q l (down e)))

lands_on : (N c : ℕ) → 0 < c → 2 ^ 52 * c ≤ N → N < 2 ^ 53 * c → round binary64 false N c ≡ of_int binary64 (pos (closest N c))
unfolding of_int
lands_on N c C lo hi =
    whole_unique binary64 (round binary64 false N c) (round binary64 false (closest N c) 1) false (closest N c) (round-fits binary64 false N c) (round-fits binary64 false (closest N c) 1)
    (in_ones (round binary64 false N c) (closest N c) (2 ^ low binary64) (pow_pos (low binary64)) (subst (λ (x : ℕ). HasValue (round binary64 false N c) false x (2 ^ low binary64)) g (round_val binary64 N c (subst (λ (x : ℕ). x < overflow binary64) (sym g) s))))
    (round_whole binary64 false (closest N c) (most N c (2 ^ 53) C hi))
  where
    g : grid binary64 N c ≡ closest N c * 2 ^ low binary64
    g = in_units binary64 N c (lit< tt) C lo hi

    room : low binary64 + 53 < low binary64 + suc (emax binary64)
    room = lit< tt

    s : closest N c * 2 ^ low binary64 < overflow binary64
    s =
        lt_of_le_of_lt (mul-le-mul_right (2 ^ low binary64) (most N c (2 ^ 53) C hi))
        (lt_of_le_of_lt (le_of_eq (mul_comm (2 ^ 53) (2 ^ low binary64) ∙ sym (pow-add 2 (low binary64) 53))) (pow-lt room))

-- ---- the sum with 3 * 2 ^ 51

abbrev base : ℕ
base = 6755399441055744

-- what is nearest to a number, from what is nearest to its sum with the base
found : (A : ℤ) (M D : ℕ) (w : ℤ) → 0 < D → pos M ≡ A +ℤ pos base *ℤ pos D → NearestTo A D w → pos (closest M (D * 1)) -ℤ pos base ≡ w
found A M D w P e n =
    ap (λ (c : ℕ). pos (closest M c) -ℤ pos base) (mul-one D)
    ∙ nearest_one A D (pos (closest M D) -ℤ pos base) w P (nearest_moved A D 3377699720527872 (pos (closest M D)) (subst (λ (z : ℤ). NearestTo z D (pos (closest M D))) e (closest_nearest false M D P))) n

pub record Whole (x : Float) : Type 0 where
  pub whole : ℕ
  pub sums : add binary64 x (fin false 3 (pos 51)) ≡ of_int binary64 (pos whole)
  pub takes : pos whole -ℤ pos base ≡ whole_of x
  pub low : whole ≤ 2 ^ 53

-- from the exact sum, M / D
of-sum : (x : Float) (M D : ℕ) → 0 < D → 2 ^ 52 * (D * 1) ≤ M → M < 2 ^ 53 * (D * 1) → add binary64 x (fin false 3 (pos 51)) ≡ round binary64 false M (D * 1)
    → den x ≡ D → pos M ≡ value_of x +ℤ pos base *ℤ pos D → Whole x
unfolding whole_of value_of
of-sum x M D P lo hi e d a =
    record {
      whole = closest M (D * 1);
      sums = e ∙ lands_on M (D * 1) (omega (arith, P)) lo hi;
      takes = found (value_of x) M D (whole_of x) P a (subst (λ (c : ℕ). NearestTo (value_of x) c (whole_of x)) d (closest_nearest (is_negative x) (num x) (den x) (den_pos x)));
      low = most M (D * 1) (2 ^ 53) (omega (arith, P)) hi;
    }

-- the size N / D is not beyond the range: the sum is above the base, or below it
module _ (m : ℕ) (e : ℤ) (l : m * up e * 2 ≤ 2000001 * down e) where
  abbrev N : ℕ
  N = m * up e

  abbrev D : ℕ
  D = down e

  taken : pos (3 * 2 ^ 51 * D - N * 1) ≡ neg_ℤ (pos N) +ℤ pos base *ℤ pos D
  taken =
      ring (pos (3 * 2 ^ 51 * D - N * 1) ∷ pos N ∷ []) (var 0) (neg (var 1) ⊕ (var 0 ⊕ var 1)) tt
      ∙ ap (λ (z : ℕ). neg_ℤ (pos N) +ℤ pos z) (let g : 3 * 2 ^ 51 * D - N * 1 + N ≡ base * D = omega (arith, l) in g)

  on-side : (s : Bool) → Whole (fin s m e)
  unfolding add sum value_of
  on-side false = of-sum (fin false m e) (N * 1 + 3 * 2 ^ 51 * D) D (down_pos e) (omega (arith, l)) (omega (arith, l, down_pos e)) refl refl (ap pos (omega arith))
  on-side true =
      of-sum (fin true m e) (3 * 2 ^ 51 * D - N * 1) D (down_pos e) (omega (arith, l, down_pos e)) (omega (arith, l, down_pos e))
      (ap (λ (b : Bool). cond b (round binary64 false (3 * 2 ^ 51 * D - N * 1) (D * 1)) (round binary64 (true && ltb (3 * 2 ^ 51 * D) (N * 1)) (N * 1 - 3 * 2 ^ 51 * D) (D * 1)))
      (lt-ltb (N * 1) (3 * 2 ^ 51 * D) (omega (arith, l, down_pos e)))) refl taken

pub sum_whole : (x : Float) → finite x ≡ true → far_off x ≡ false → Whole x
sum_whole nan f h = absurd (false≢true f)
sum_whole (inf s) f h = absurd (false≢true f)
sum_whole (fin s m e) f h = on-side m e (omega (arith, ltb-false (2000001 * 1 * down e) (m * up e * 2) (far_is (fin s m e) ∙ h))) s

-- ---- the casts of `whole`

module _ (x : Float) (w : Whole x) where
  -- the sum, what 64 bits hold of it, and that without the base
  abbrev summed : Float
  summed = add binary64 x (fin false 3 (pos 51))

  abbrev held : ℤ
  held = to_z w64 (of_z w64 (to_signed 63 summed))

  abbrev left : ℤ
  left = held -ℤ to_z w64 base

  back : T (in_signed binary64 63 summed) × (to_signed 63 summed ≡ pos w.whole)
  back =
      subst (λ (y : Float). T (in_signed binary64 63 y) × (to_signed 63 y ≡ pos w.whole)) (sym w.sums)
      (positive_back binary64 63 w.whole (unfold in_float in le→leb w.whole (2 ^ 53) w.low) (let b = w.low in omega arith))

  less : left ≡ whole_of x
  less = ap (λ (z : ℤ). z -ℤ to_z w64 base) (read_back w64 _ (to_signed_in 63 summed) back.1) ∙ w.takes

  pub sum_cast : T (in_signed binary64 63 summed)
  sum_cast = back.0

  -- what is not far off fits both widths
  module _ (h : far_off x ≡ false) where
    fits : (b : Width) → farthest < 2 ^ hbits b → SFits b (whole_of x)
    unfolding far_off
    fits b l = sfits_size b (whole_of x) (let k = ltb-false farthest (nat_abs (whole_of x)) h in omega arith)

    pub left_fits : SFits w64 left
    left_fits = subst (SFits w64) (sym less) (fits w64 (lit< tt))

    kept : to_z w64 (of_z w64 left) ≡ whole_of x
    kept = read_back w64 left left_fits.sfits less

    pub left_narrow : SFits w32 (to_z w64 (of_z w64 left))
    left_narrow = subst (SFits w32) (sym kept) (fits w32 (lit< tt))

    pub left_whole : to_z w32 (of_z w32 (to_z w64 (of_z w64 left))) ≡ whole_of x
    left_whole = read_back w32 (to_z w64 (of_z w64 left)) left_narrow.sfits kept
