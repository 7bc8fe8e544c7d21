-- Each operation is rounded once, for every pair of factors: a finite answer is the exact product or quotient of its two floats, rounded once.
--
--   once_one       there is one value that an exact value is rounded to so
--   times_once     the product
--   over_once      the quotient by a finite float
--   once_same, once_valued    an exact value by other numbers is rounded to the same value
--   metres_once    so the one operation on metres is rounded once, by the whole number 1000
--   feet_once      so are the two on feet, by every two whole numbers that a float has exactly, the second not 0
use mathlib.Core.Path.{◌≡◌, refl, sym, ◌∙◌, ap, subst}
use mathlib.Core.Logic.{◌⊎◌, inl, inr}
use mathlib.Core.Bool.{Bool, true, false, cond, false≢true}
use Prim.Native.Nat.{ℕ, ◌+◌, ◌-◌, ◌*◌, ◌/◌, ◌^◌, ◌≤◌, ◌<◌}
use native.Mathlib.Nat.{le_trans, le_of_eq, mul-one, mul_assoc, mul_comm, mul_left_comm, mul_right_comm, mul-le-mul_left, mul-le-mul_right, mul-lt-mul_of_pos_right, le_of_mul-le-mul_right, lt_of_mul-lt-mul_right, eq_of_mul-eq-mul_right, mul-pos, le-div_iff_mul-le, div-lt_iff_lt-mul, div-div-eq-div-mul}
use native.Mathlib.Omega.{arith}
use native.Mathlib.Decide.{dec_lt}
use borrow.Author.Tests.{ltb-true, eqb-false}
use lib.Dec.{T, ltb, eqb}
use lib.Pow.{pow-add, pow_pos, pow_mono}
use lib.IntN.{pos, nat_abs}
use lib.Ieee.{Float, nan, inf, fin, binary64, size, odd, units, round, unlike, up, down, mul, div, of_int}
use lib.Ieee.Back.{round_whole}
use lib.Ieee.Bits.{is_true}
use lib.Ieee.Digits.{size_reaches}
use lib.Ieee.Fits.{kept-lt, round_is, up_pos, down_pos}
use lib.Ieee.Exact.{HasValue, units_val}
use lib.Ieee.Order.{drop, kept}
use lib.Ieee.Positive.{num, den, den_pos}
use lib.Ieee.Scale.{finite, grid, overflow}
use Rattle.intake.specs.Nearest.{is_negative, NearestTo}
use Rattle.intake.specs.Scaling.{float, factors, of_metres, multiplied, of_feet}
use Rattle.intake.specs.Once.{Once, ByFactors}
use Rattle.intake.proofs.Finiteness.{neither, div-first}
use Rattle.intake.proofs.Nearness.{closest_nearest, nearest_one, nearest_same}

-- what is not an infinity
under : (s : Bool) (q k : ℕ) → finite (units binary64 s q k) ≡ true → q * 2 ^ k < overflow binary64
unfolding units
under s q k = go (ltb (q * 2 ^ k) (overflow binary64)) (ltb-true (q * 2 ^ k) (overflow binary64))
  where
    go : (b : Bool) → (b ≡ true → q * 2 ^ k < overflow binary64) → finite (cond b (odd 54 s q k 1074) (inf s)) ≡ true → q * 2 ^ k < overflow binary64
    go true h t = h refl
    go false h t = absurd (false≢true t)

-- N / c, of which k binary digits are dropped and u = c * 2 ^ k is one step
module _ (N c : ℕ) (C : 0 < c) where
  abbrev k : ℕ
  k = drop 53 N c

  abbrev u : ℕ
  u = c * 2 ^ k

  positive : 0 < u
  positive = mul-pos C (pow_pos k)

  few : N < 2 ^ 53 * u
  few = (div-lt_iff_lt-mul positive).0 (subst (λ (x : ℕ). x < 2 ^ 53) (div-div-eq-div-mul N c (2 ^ k)) (kept-lt 53 (N / c)))

  many : (k ≡ 0) ⊎ (2 ^ 52 * u ≤ N)
  many = go (dec_lt 53 (size (N / c)))
    where
      go : Dec (53 < size (N / c)) → (k ≡ 0) ⊎ (2 ^ 52 * u ≤ N)
      go (no h) = inl (omega arith)
      go (yes h) =
          inr
          ((le-div_iff_mul-le positive).0
          (subst (λ (x : ℕ). 2 ^ 52 ≤ x) (div-div-eq-div-mul N c (2 ^ k))
          ((le-div_iff_mul-le (pow_pos k)).1 (le_trans (le_of_eq (sym (pow-add 2 52 k) ∙ ap (λ (x : ℕ). 2 ^ x) (let e : 52 + k ≡ size (N / c) - 1 = omega arith in e))) (size_reaches (N / c) (size (N / c) - 1) (omega arith))))))

rounded : (s : Bool) (a c : ℕ) → 0 < c → finite (round binary64 s a c) ≡ true → Once (round binary64 s a c) s a c
rounded s a c C f =
    let N = a * 2 ^ 1074 in
    record {
      digits = kept 53 N c;
      step = drop 53 N c;
      value = subst (λ (z : Float). HasValue z s (grid binary64 a c) (2 ^ 1074)) (sym (round_is binary64 s a c))
          (units_val binary64 s (kept 53 N c) (drop 53 N c) (under s (kept 53 N c) (drop 53 N c) (sym (ap finite (round_is binary64 s a c)) ∙ f)));
      near = closest_nearest false N (c * 2 ^ drop 53 N c) (positive N c C);
      below = few N c C;
      least = many N c C;
    }

-- ---- there is one such value

-- a step is twice a finer one at least, so what is below 2 ^ 53 of the finer one is below 2 ^ 52 of it
no_finer : (N c i j : ℕ) → i < j → N < 2 ^ 53 * (c * 2 ^ i) → (j ≡ 0) ⊎ (2 ^ 52 * (c * 2 ^ j) ≤ N) → ⊥
no_finer N c i j h l (inl e) = omega arith
no_finer N c i j h l (inr m) =
    let d : c * 2 ^ (1 + i) ≡ 2 * (c * 2 ^ i) = ap (λ (x : ℕ). c * x) (pow-add 2 1 i) ∙ mul_left_comm c 2 (2 ^ i) in
    let g : c * 2 ^ (1 + i) ≤ c * 2 ^ j = mul-le-mul_left c (pow_mono (let o : 1 + i ≤ j = omega arith in o)) in
    omega (arith, l, m, d, g)

pub once_one : (x y : Float) (s : Bool) (a c : ℕ) → 0 < c → (o : Once x s a c) (p : Once y s a c) → (o.step ≡ p.step) × (o.digits ≡ p.digits)
once_one x y s a c C o p = (same, number)
  where
    same : o.step ≡ p.step
    same =
        let f : (o.step < p.step → ⊥) = λ h. no_finer (a * 2 ^ 1074) c o.step p.step h o.below p.least in
        let g : (p.step < o.step → ⊥) = λ h. no_finer (a * 2 ^ 1074) c p.step o.step h p.below o.least in
        omega (arith, f, g)

    number : o.digits ≡ p.digits
    number =
        ap nat_abs
        (nearest_one (pos (a * 2 ^ 1074)) (c * 2 ^ p.step) (pos o.digits) (pos p.digits) (mul-pos C (pow_pos p.step))
        (subst (λ (k : ℕ). NearestTo (pos (a * 2 ^ 1074)) (c * 2 ^ k) (pos o.digits)) same o.near) p.near)

-- ---- the operations

pub times_once : (x y : Float) → finite (mul binary64 x y) ≡ true → Once (mul binary64 x y) (unlike (is_negative x) (is_negative y)) (num x * num y) (den x * den y)
unfolding mul
times_once nan y f = absurd (false≢true f)
times_once (inf s) nan f = absurd (false≢true f)
times_once (inf s) (inf t) f = absurd (false≢true f)
times_once (inf s) (fin t n d) f = neither (eqb n 0) (unlike s t) (subst T (sym f) tt)
times_once (fin s m e) nan f = absurd (false≢true f)
times_once (fin s m e) (inf t) f = neither (eqb m 0) (unlike s t) (subst T (sym f) tt)
times_once (fin s m e) (fin t n d) f = rounded (unlike s t) (m * up e * (n * up d)) (down e * down d) (mul-pos (down_pos e) (down_pos d)) f

pub over_once : (x y : Float) → finite y ≡ true → finite (div binary64 x y) ≡ true → Once (div binary64 x y) (unlike (is_negative x) (is_negative y)) (num x * den y) (num y * den x)
unfolding div
over_once x nan g f = absurd (false≢true g)
over_once x (inf t) g f = absurd (false≢true g)
over_once nan (fin t n d) g f = absurd (false≢true f)
over_once (inf s) (fin t n d) g f = absurd (false≢true f)
over_once (fin s m e) (fin t n d) g f = go (eqb n 0) (eqb-false n 0) f
  where
    some : (n ≡ 0 → ⊥) → 0 < n
    some h = omega arith

    go : (b : Bool) → (b ≡ false → n ≡ 0 → ⊥) → finite (cond b (cond (eqb m 0) nan (inf (unlike s t))) (round binary64 (unlike s t) (m * up e * down d) (n * up d * down e))) ≡ true
        → Once (cond b (cond (eqb m 0) nan (inf (unlike s t))) (round binary64 (unlike s t) (m * up e * down d) (n * up d * down e))) (unlike s t) (m * up e * down d) (n * up d * down e)
    go true h f = neither (eqb m 0) (unlike s t) (subst T (sym f) tt)
    go false h f = rounded (unlike s t) (m * up e * down d) (n * up d * down e) (mul-pos (mul-pos (some (h refl)) (up_pos d)) (down_pos e)) f

-- ---- the same exact value, a / c and b / d

module _ (a b c d : ℕ) (C : 0 < c) (D : 0 < d) (p : a * d ≡ b * c) where
  tops : (w : ℕ) → a * w * d ≡ b * w * c
  tops w = mul_right_comm a w d ∙ ap (λ (n : ℕ). n * w) p ∙ mul_right_comm b c w

  bottoms : (n w : ℕ) → n * (c * w) * d ≡ n * (d * w) * c
  bottoms n w =
      mul_assoc n (c * w) d
      ∙ ap (λ (m : ℕ). n * m) (mul_right_comm c w d ∙ ap (λ (m : ℕ). m * w) (mul_comm c d) ∙ mul_right_comm d c w)
      ∙ sym (mul_assoc n (d * w) c)

  pub once_same : {x : Float} {s : Bool} → Once x s a c → Once x s b d
  once_same o = record {
    digits = o.digits;
    step = o.step;
    value = o.value;
    near = nearest_same (pos (a * 2 ^ 1074)) (pos (b * 2 ^ 1074)) (c * 2 ^ o.step) (d * 2 ^ o.step) (pos o.digits) (mul-pos C (pow_pos o.step)) (mul-pos D (pow_pos o.step)) (ap pos across) o.near;
    below = lt_of_mul-lt-mul_right c (subst (λ (n : ℕ). n < 2 ^ 53 * (d * 2 ^ o.step) * c) (tops (2 ^ 1074)) (subst (λ (n : ℕ). a * 2 ^ 1074 * d < n) (bottoms (2 ^ 53) (2 ^ o.step)) (mul-lt-mul_of_pos_right o.below D)));
    least = go o.least;
  }
    where
      across : a * 2 ^ 1074 * (d * 2 ^ o.step) ≡ b * 2 ^ 1074 * (c * 2 ^ o.step)
      across = sym (mul_assoc (a * 2 ^ 1074) d (2 ^ o.step)) ∙ ap (λ (n : ℕ). n * 2 ^ o.step) (tops (2 ^ 1074)) ∙ mul_assoc (b * 2 ^ 1074) c (2 ^ o.step)

      go : (o.step ≡ 0) ⊎ (2 ^ 52 * (c * 2 ^ o.step) ≤ a * 2 ^ 1074) → (o.step ≡ 0) ⊎ (2 ^ 52 * (d * 2 ^ o.step) ≤ b * 2 ^ 1074)
      go (inl e) = inl e
      go (inr h) = inr (le_of_mul-le-mul_right (subst (λ (n : ℕ). 2 ^ 52 * (d * 2 ^ o.step) * c ≤ n) (tops (2 ^ 1074)) (subst (λ (n : ℕ). n ≤ a * 2 ^ 1074 * d) (bottoms (2 ^ 52) (2 ^ o.step)) (mul-le-mul_right d h))) C)

valued : (x : Float) (s : Bool) (a c : ℕ) → HasValue x s a c → (is_negative x ≡ s) × (num x * c ≡ a * den x)
valued nan s a c v = absurd v
valued (inf t) s a c v = absurd v
valued (fin t m e) s a c v = v

-- two floats of one value
pub once_valued : (a b c d : ℕ) → 0 < c → 0 < d → a * d ≡ b * c → {x y : Float} {s : Bool} → Once x s a c → Once y s b d → (is_negative x ≡ is_negative y) × (num x * den y ≡ num y * den x)
once_valued a b c d C D p {x} {y} {s} o q = (u.0 ∙ sym v.0, eq_of_mul-eq-mul_right (2 ^ 1074) (pow_pos 1074) (num x * den y) (num y * den x) across)
  where
    K : ℕ
    K = q.digits * 2 ^ q.step

    u : (is_negative x ≡ s) × (num x * 2 ^ 1074 ≡ K * den x)
    u =
        let r = once_same a b c d C D p o in
        let e = once_one x y s b d D r q in
        valued x s K (2 ^ 1074) (subst (λ (n : ℕ). HasValue x s n (2 ^ 1074)) (λ i. e.1 i * 2 ^ (e.0 i)) r.value)

    v : (is_negative y ≡ s) × (num y * 2 ^ 1074 ≡ K * den y)
    v = valued y s K (2 ^ 1074) q.value

    across : num x * den y * 2 ^ 1074 ≡ num y * den x * 2 ^ 1074
    across =
        mul_right_comm (num x) (den y) (2 ^ 1074) ∙ ap (λ (n : ℕ). n * den y) u.1 ∙ mul_right_comm K (den x) (den y)
        ∙ ap (λ (n : ℕ). n * den x) (sym v.1) ∙ mul_right_comm (num y) (2 ^ 1074) (den x)

-- ---- by whole numbers

-- by a number that is not negative
plain : (s t : Bool) → t ≡ false → unlike s t ≡ s
plain true t e = ap (λ (b : Bool). unlike true b) e
plain false t e = ap (λ (b : Bool). unlike false b) e

module _ (x : Float) (k : ℕ) where
  times_number : (y : Float) → HasValue y false k 1 → finite (mul binary64 x y) ≡ true → Once (mul binary64 x y) (is_negative x) (num x * k) (den x)
  times_number nan v f = absurd v
  times_number (inf t) v f = absurd v
  times_number (fin t m e) (p, q) f =
      once_same (num x * (m * up e)) (num x * k) (den x * down e) (den x) (mul-pos (den_pos x) (down_pos e)) (den_pos x) across
      (subst (λ (s : Bool). Once (mul binary64 x (fin t m e)) s (num x * (m * up e)) (den x * down e)) (plain (is_negative x) t p) (times_once x (fin t m e) f))
    where
      across : num x * (m * up e) * den x ≡ num x * k * (den x * down e)
      across =
          ap (λ (n : ℕ). num x * n * den x) (sym (mul-one (m * up e)) ∙ q) ∙ ap (λ (n : ℕ). n * den x) (sym (mul_assoc (num x) k (down e)))
          ∙ mul_assoc (num x * k) (down e) (den x) ∙ ap (λ (n : ℕ). num x * k * n) (mul_comm (down e) (den x))

  over_number : 0 < k → (y : Float) → HasValue y false k 1 → finite (div binary64 x y) ≡ true → Once (div binary64 x y) (is_negative x) (num x) (k * den x)
  over_number K nan v f = absurd v
  over_number K (inf t) v f = absurd v
  over_number K (fin t m e) (p, q) f =
      once_same (num x * down e) (num x) (m * up e * den x) (k * den x) (mul-pos (subst (λ (n : ℕ). 0 < n) (sym whole) (mul-pos K (down_pos e))) (den_pos x)) (mul-pos K (den_pos x)) across
      (subst (λ (s : Bool). Once (div binary64 x (fin t m e)) s (num x * down e) (m * up e * den x)) (plain (is_negative x) t p) (over_once x (fin t m e) refl f))
    where
      whole : m * up e ≡ k * down e
      whole = sym (mul-one (m * up e)) ∙ q

      across : num x * down e * (k * den x) ≡ num x * (m * up e * den x)
      across =
          mul_assoc (num x) (down e) (k * den x)
          ∙ ap (λ (n : ℕ). num x * n) (sym (mul_assoc (down e) k (den x)) ∙ ap (λ (n : ℕ). n * den x) (mul_comm (down e) k ∙ sym whole))

-- ---- a shot

float_exact : (k : ℕ) → k ≤ 2 ^ 53 → HasValue (float k) false k 1
unfolding float of_int
float_exact k h = round_whole binary64 false k h

pub metres_once : (x : Float) → finite (of_metres x) ≡ true → Once (of_metres x) (is_negative x) (num x * 1000) (den x)
metres_once x f = times_number x 1000 (float 1000) (float_exact 1000 (omega arith)) f

pub feet_once : (t o : ℕ) → t ≤ 2 ^ 53 → o ≤ 2 ^ 53 → 0 < o → (x : Float) → finite (of_feet (factors t o) x) ≡ true → ByFactors t o x (of_feet (factors t o) x)
feet_once t o h g O x f = record {
  product = multiplied (factors t o) x;
  first = times_number x t (float t) (float_exact t h) (is_true (finite (multiplied (factors t o) x)) (div-first binary64 (multiplied (factors t o) x) (float o) (subst T (sym f) tt)));
  then = over_number (multiplied (factors t o) x) o O (float o) (float_exact o g) f;
}
