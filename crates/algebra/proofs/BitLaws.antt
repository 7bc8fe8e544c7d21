-- Masks of increasing lists.
--
--   mask_below     the mask of numbers below n is below 2 ^ n
--   bit_mask       its bits are the numbers of the list
use mathlib.Core.Path.{◌≡◌, refl, sym, ◌∙◌, ap}
use mathlib.Core.Bool.{Bool, true, false, cond}
use mathlib.Core.List.{List, [], ◌∷◌}
use Prim.Native.Nat.{ℕ, zero, suc, ◌+◌, ◌*◌, ◌/◌, ◌%◌, ◌^◌, ◌≤◌, ◌<◌}
use native.Mathlib.Omega.{arith}
use native.Mathlib.Numerals.{add-one}
use lib.Dec.{eqb, eqb-suc-zero, eqb-zero-suc, eqb-suc-suc}
use lib.Pow.{pow_mono, shr-shr}
use Rattle.algebra.specs.Sets.{is_on, Within, mask_of, bit}
use Rattle.algebra.proofs.SetLaws.{within_cast, early_off}

-- ---- below the power

mask_above : (a n : ℕ) (s : List ℕ) → a ≤ n → Within a s n → 2 ^ a + mask_of s ≤ 2 ^ n
unfolding mask_of
mask_above a n [] h w = omega (arith, pow_mono h)
mask_above a n (i ∷ s) h w =
    let ih = mask_above (i + 1) n s (let k = w.1 in omega arith) w.2 in
    let next : 2 ^ (i + 1) ≡ 2 ^ suc i = ap (λ (x : ℕ). 2 ^ x) (add-one i) in
    omega (arith, pow_mono w.0)

pub mask_below : (n : ℕ) (s : List ℕ) → Within 0 s n → mask_of s < 2 ^ n
mask_below n s w = omega (arith, mask_above 0 n s (omega arith) w)

-- ---- halves: every number one less, and 0 left out

abbrev down : List ℕ → List ℕ
down [] = []
down (zero ∷ s) = zero ∷ down s
down (suc i ∷ s) = i ∷ down s

abbrev half : List ℕ → List ℕ
half [] = []
half (zero ∷ s) = down s
half (suc i ∷ s) = i ∷ down s

down_within : (a n : ℕ) (s : List ℕ) → Within (suc a) s n → Within a (down s) n
down_within a n [] w = tt
down_within a n (zero ∷ s) w = absurd (none w.0)
  where
    none : suc a ≤ 0 → ⊥
    none h = omega arith
down_within a n (suc i ∷ s) w = (let k = w.0 in omega arith, let k = w.1 in omega arith, down_within (i + 1) n s (within_cast s (omega arith) refl w.2))

half_within : (n : ℕ) (s : List ℕ) → Within 0 s n → Within 0 (half s) n
half_within n [] w = tt
half_within n (zero ∷ s) w = down_within 0 n s (within_cast s (omega arith) refl w.2)
half_within n (suc i ∷ s) w = (omega arith, let k = w.1 in omega arith, down_within (i + 1) n s (within_cast s (omega arith) refl w.2))

down_mask : (a n : ℕ) (s : List ℕ) → Within (suc a) s n → mask_of s ≡ 2 * mask_of (down s)
unfolding mask_of
down_mask a n [] w = omega arith
down_mask a n (zero ∷ s) w = absurd (none w.0)
  where
    none : suc a ≤ 0 → ⊥
    none h = omega arith
down_mask a n (suc i ∷ s) w = let e = down_mask (i + 1) n s (within_cast s (omega arith) refl w.2) in omega arith

down_on : (i a n : ℕ) (s : List ℕ) → Within (suc a) s n → is_on (suc i) s ≡ is_on i (down s)
unfolding is_on
down_on i a n [] w = refl
down_on i a n (zero ∷ s) w = absurd (none w.0)
  where
    none : suc a ≤ 0 → ⊥
    none h = omega arith
down_on i a n (suc j ∷ s) w = rw (eqb-suc-suc i j, down_on i (j + 1) n s (within_cast s (omega arith) refl w.2)) refl

half_mask : (n : ℕ) (s : List ℕ) → Within 0 s n → mask_of s ≡ cond (is_on 0 s) 1 0 + 2 * mask_of (half s)
unfolding mask_of is_on
half_mask n [] w = omega arith
half_mask n (zero ∷ s) w = let e = down_mask 0 n s (within_cast s (omega arith) refl w.2) in omega arith
half_mask n (suc i ∷ s) w =
    rw (eqb-zero-suc i, early_off 0 (suc i + 1) n s (omega arith) w.2)
    (let e = down_mask (i + 1) n s (within_cast s (omega arith) refl w.2) in omega arith)

half_on : (i n : ℕ) (s : List ℕ) → Within 0 s n → is_on (suc i) s ≡ is_on i (half s)
unfolding is_on
half_on i n [] w = refl
half_on i n (zero ∷ s) w = rw (eqb-suc-zero i) (down_on i 0 n s (within_cast s (omega arith) refl w.2))
half_on i n (suc j ∷ s) w = rw (eqb-suc-suc i j, down_on i (j + 1) n s (within_cast s (omega arith) refl w.2)) refl

-- ---- bit by bit

bit-first : (b : Bool) (x m : ℕ) → x ≡ cond b 1 0 + 2 * m → bit x 0 ≡ b
unfolding bit
bit-first true x m e = ap (λ (y : ℕ). eqb y 1) (let q : x / 1 % 2 ≡ 1 = omega arith in q)
bit-first false x m e = ap (λ (y : ℕ). eqb y 1) (let q : x / 1 % 2 ≡ 0 = omega arith in q)

bit_next : (b : Bool) (x m i : ℕ) → x ≡ cond b 1 0 + 2 * m → bit x (suc i) ≡ bit m i
unfolding bit
bit_next b x m i e =
    ap (λ (y : ℕ). eqb (y % 2) 1)
    (ap (λ (k : ℕ). x / 2 ^ k) (let q : suc i ≡ 1 + i = omega arith in q) ∙ sym (shr-shr x 1 i) ∙ ap (λ (y : ℕ). y / 2 ^ i) (half_is b e))
  where
    half_is : (b : Bool) → x ≡ cond b 1 0 + 2 * m → x / 2 ≡ m
    half_is true e = omega arith
    half_is false e = omega arith

pub bit_mask : (i n : ℕ) (s : List ℕ) → Within 0 s n → bit (mask_of s) i ≡ is_on i s
bit_mask zero n s w = bit-first (is_on 0 s) (mask_of s) (mask_of (half s)) (half_mask n s w)
bit_mask (suc i) n s w = bit_next (is_on 0 s) (mask_of s) (mask_of (half s)) i (half_mask n s w) ∙ bit_mask i n (half s) (half_within n s w) ∙ sym (half_on i n s w)
