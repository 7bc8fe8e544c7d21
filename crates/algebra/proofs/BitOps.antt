-- The bits of one number: what and, or, not and a shift do to each of them, and setting and clearing one.
--
--   bit-and, bit-or, bit_not     the bits of what the machine's operations give; not within a width of w bits
--   bits_same                    numbers of w bits with the same bits are the same
--   one_shl                      1 shifted by k
--   or_set, and_clear            a bit is set by an or, cleared by an and with all bits but that one
--   bit-set, bit_clear           the bits after one is set, cleared
--   set_low, clear_low           w bits are enough for the result
--   bit_high                     no bit is set past the width
--   bit_none, zero_bits          no bit of 0 is set, and 0 alone has none
--   inside_bits                  the and of x and y is x where y has every bit of x
--   bit_shift                    the bits of a number that is shifted down
--   lowest-bit, lowest_is        below the lowest bit of x stand as many zeros as the machine counts; it is the first that is set
use mathlib.Core.Path.{◌≡◌, refl, sym, ◌∙◌, ap, subst}
use mathlib.Core.Bool.{Bool, true, false, not, cond, ◌||◌, ◌&&◌, true≢false, or-false, and-true, and-false}
use mathlib.Core.Logic.{◌⊎◌, inl, inr, ⊎_elim}
use Prim.Native.Nat.{ℕ, zero, suc, ◌+◌, ◌*◌, ◌-◌, ◌/◌, ◌%◌, ◌^◌, ◌<◌, ◌≤◌}
use native.Mathlib.Omega.{arith}
use native.Mathlib.Nat.{one-mul, div-eq_of_lt, div_self, add-div_right, pow-suc}
use native.Mathlib.Decide.{dec_lt}
use lib.Dec.{eqb}
use lib.Count.{count_trailing_zeros, under}
use lib.Bits.{bit_and, bit_or, and_le_l, and_high, and_shr, and_mod, or_add_and, or_shr, or_mod, or_lt}
use lib.Pow.{pow_pos, pow_mono, pow-lt, pow-add, shl_exact, shl-shr, shr-shr}
use borrow.Author.Tests.{eqb-true, eq-eqb, ne_eqb}
use Rattle.algebra.specs.Loops.{any}
use Rattle.algebra.specs.Sets.{bit, lowest_of}
use Rattle.algebra.specs.Words.{set_bit, clear_bit}
use Rattle.algebra.proofs.LoopLaws.{any_no, any_some, first_passes, first_least}

-- ---- a bit by its number

two : (x : ℕ) → (x % 2 ≡ 0) ⊎ (x % 2 ≡ 1)
two x = go (x % 2) (omega arith)
  where
    go : (y : ℕ) → y < 2 → (y ≡ 0) ⊎ (y ≡ 1)
    go zero h = inl refl
    go (suc zero) h = inr refl
    go (suc (suc y)) h = absurd (omega arith)

bit_one : (x k : ℕ) → x / 2 ^ k % 2 ≡ 1 → bit x k ≡ true
unfolding bit
bit_one x k e = ap (λ (y : ℕ). eqb y 1) e

bit-zero : (x k : ℕ) → x / 2 ^ k % 2 ≡ 0 → bit x k ≡ false
unfolding bit
bit-zero x k e = ap (λ (y : ℕ). eqb y 1) e

-- the first bit, and the others
first_bit : (x y : ℕ) → bit x 0 ≡ bit y 0 → x % 2 ≡ y % 2
first_bit x y e = go (two x) (two y)
  where
    at : (z n : ℕ) → z % 2 ≡ n → z / 1 % 2 ≡ n
    at z n h = omega arith

    go : (x % 2 ≡ 0) ⊎ (x % 2 ≡ 1) → (y % 2 ≡ 0) ⊎ (y % 2 ≡ 1) → x % 2 ≡ y % 2
    go (inl p) (inl q) = p ∙ sym q
    go (inl p) (inr q) = absurd (true≢false (sym (bit_one y 0 (at y 1 q)) ∙ sym e ∙ bit-zero x 0 (at x 0 p)))
    go (inr p) (inl q) = absurd (true≢false (sym (bit_one x 0 (at x 1 p)) ∙ e ∙ bit-zero y 0 (at y 0 q)))
    go (inr p) (inr q) = p ∙ sym q

bit_half : (x j : ℕ) → bit x (suc j) ≡ bit (x / 2) j
unfolding bit
bit_half x j = ap (λ (y : ℕ). eqb (y % 2) 1) (ap (λ (k : ℕ). x / 2 ^ k) (let e : suc j ≡ 1 + j = omega arith in e) ∙ sym (shr-shr x 1 j))

-- ---- the operations

and_two : (x y : ℕ) → x < 2 → y < 2 → eqb (bit_and x y) 1 ≡ (eqb x 1 && eqb y 1)
and_two zero zero h k = refl
and_two zero (suc zero) h k = refl
and_two zero (suc (suc y)) h k = absurd (omega arith)
and_two (suc zero) zero h k = refl
and_two (suc zero) (suc zero) h k = refl
and_two (suc zero) (suc (suc y)) h k = absurd (omega arith)
and_two (suc (suc x)) y h k = absurd (omega arith)

or_two : (x y : ℕ) → x < 2 → y < 2 → eqb (bit_or x y) 1 ≡ (eqb x 1 || eqb y 1)
or_two zero zero h k = refl
or_two zero (suc zero) h k = refl
or_two zero (suc (suc y)) h k = absurd (omega arith)
or_two (suc zero) zero h k = refl
or_two (suc zero) (suc zero) h k = refl
or_two (suc zero) (suc (suc y)) h k = absurd (omega arith)
or_two (suc (suc x)) y h k = absurd (omega arith)

pub bit-and : (a b j : ℕ) → bit (bit_and a b) j ≡ (bit a j && bit b j)
unfolding bit
bit-and a b j =
    ap (λ (y : ℕ). eqb (y % 2) 1) (and_shr a b j) ∙ ap (λ (y : ℕ). eqb y 1) (and_mod (a / 2 ^ j) (b / 2 ^ j) 1)
    ∙ and_two (a / 2 ^ j % 2) (b / 2 ^ j % 2) (omega arith) (omega arith)

pub bit-or : (a b j : ℕ) → bit (bit_or a b) j ≡ (bit a j || bit b j)
unfolding bit
bit-or a b j =
    ap (λ (y : ℕ). eqb (y % 2) 1) (or_shr a b j) ∙ ap (λ (y : ℕ). eqb y 1) (or_mod (a / 2 ^ j) (b / 2 ^ j) 1)
    ∙ or_two (a / 2 ^ j % 2) (b / 2 ^ j % 2) (omega arith) (omega arith)

pub bit_not : (w y j : ℕ) → y < 2 ^ w → j < w → bit (2 ^ w - 1 - y) j ≡ not (bit y j)
bit_not zero y j h l = absurd (omega arith)
bit_not (suc w) y zero h l =
    ⊎_elim (λ e. bit_one (2 ^ suc w - 1 - y) 0 (odd e) ∙ sym (ap not (bit-zero y 0 (at e)))) (λ e. bit-zero (2 ^ suc w - 1 - y) 0 (even e) ∙ sym (ap not (bit_one y 0 (at e)))) (two y)
  where
    at : {n : ℕ} → y % 2 ≡ n → y / 1 % 2 ≡ n
    at e = omega arith

    odd : y % 2 ≡ 0 → (2 ^ suc w - 1 - y) / 1 % 2 ≡ 1
    odd e = omega arith

    even : y % 2 ≡ 1 → (2 ^ suc w - 1 - y) / 1 % 2 ≡ 0
    even e = omega arith
bit_not (suc w) y (suc j) h l =
    bit_half (2 ^ suc w - 1 - y) j ∙ ap (λ (z : ℕ). bit z j) (let e : (2 ^ suc w - 1 - y) / 2 ≡ 2 ^ w - 1 - y / 2 = omega arith in e)
    ∙ bit_not w (y / 2) j (omega arith) (omega arith) ∙ ap not (sym (bit_half y j))

pow_above : (m j : ℕ) → 2 ^ (suc m + j) / 2 ^ j % 2 ≡ 0
pow_above m j = ap (λ (x : ℕ). x / 2 ^ j % 2) (pow-add 2 (suc m) j) ∙ ap (λ (x : ℕ). x % 2) (shl-shr (2 ^ suc m) j) ∙ omega (arith, pow-suc 2 m)

pub bit_high : (w x j : ℕ) → x < 2 ^ w → w ≤ j → bit x j ≡ false
bit_high w x j h l = bit-zero x j (ap (λ (y : ℕ). y % 2) (div-eq_of_lt (let p = pow_mono l in omega arith)))

bit-pow : (k j : ℕ) → bit (2 ^ k) j ≡ eqb j k
bit-pow k j = go (dec_lt j k) (dec_lt k j)
  where
    go : Dec (j < k) → Dec (k < j) → bit (2 ^ k) j ≡ eqb j k
    go (yes p) q =
        let e : suc (k - suc j) + j ≡ k = omega arith in
        bit-zero (2 ^ k) j (subst (λ (x : ℕ). 2 ^ x / 2 ^ j % 2 ≡ 0) e (pow_above (k - suc j) j)) ∙ sym (ne_eqb j k (λ h. omega arith))
    go (no p) (yes q) = bit_high j (2 ^ k) j (pow-lt q) (omega arith) ∙ sym (ne_eqb j k (λ h. omega arith))
    go (no p) (no q) =
        let e : j ≡ k = omega arith in
        bit_one (2 ^ k) j (subst (λ (x : ℕ). 2 ^ k / 2 ^ x % 2 ≡ 1) (sym e) (ap (λ (x : ℕ). x % 2) (div_self (pow_pos k)))) ∙ sym (eq-eqb j k e)

pub bits_same : (w x y : ℕ) → x < 2 ^ w → y < 2 ^ w → ((j : ℕ) → j < w → bit x j ≡ bit y j) → x ≡ y
bits_same zero x y h k e = omega arith
bits_same (suc w) x y h k e =
    let p : x % 2 ≡ y % 2 = first_bit x y (e 0 (omega arith)) in
    let q : x / 2 ≡ y / 2 = bits_same w (x / 2) (y / 2) (omega arith) (omega arith) (λ j l. sym (bit_half x j) ∙ e (suc j) (omega arith) ∙ bit_half y j) in
    omega arith

pub one_shl : (w k : ℕ) → k < w → 1 * 2 ^ k % 2 ^ w ≡ 2 ^ k
one_shl w k h = shl_exact 1 k w (omega arith) (omega arith) ∙ one-mul (2 ^ k)

-- ---- one bit set, cleared

and_pow : (x k b : ℕ) → x / 2 ^ k % 2 ≡ b → bit_and x (2 ^ k) ≡ b * 2 ^ k
and_pow x k b e =
    let q : 2 ^ (1 + k) - 2 ^ k ≡ 2 ^ k = omega (arith, pow-add 2 1 k) in
    ap (bit_and x) (sym q) ∙ and_high x 1 k ∙ ap (λ (y : ℕ). y * 2 ^ k) e

pub or_set : (x k : ℕ) → bit_or x (2 ^ k) ≡ set_bit x k
unfolding set_bit
or_set x k =
    ⊎_elim (λ e. rw (bit-zero x k e) (omega (arith, or_add_and x (2 ^ k), and_pow x k 0 e))) (λ e. rw (bit_one x k e) (omega (arith, or_add_and x (2 ^ k), and_pow x k 1 e))) (two (x / 2 ^ k))

pub bit-set : (x k j : ℕ) → bit (set_bit x k) j ≡ (bit x j || eqb j k)
bit-set x k j = ap (λ (y : ℕ). bit y j) (sym (or_set x k)) ∙ bit-or x (2 ^ k) j ∙ ap (λ (t : Bool). bit x j || t) (bit-pow k j)

-- a bit that is set leaves room for it, and is not set in what is left
cleared : (x k : ℕ) → x / 2 ^ k % 2 ≡ 1 → (2 ^ k ≤ x) × ((x - 2 ^ k) / 2 ^ k % 2 ≡ 0)
cleared x k e = (room, omega (arith, add-div_right (x - 2 ^ k) (pow_pos k), ap (λ (y : ℕ). y / 2 ^ k) back))
  where
    room : 2 ^ k ≤ x
    room = go (dec_lt x (2 ^ k))
      where
        go : Dec (x < 2 ^ k) → 2 ^ k ≤ x
        go (yes h) = absurd (omega (arith, div-eq_of_lt h))
        go (no h) = omega arith

    back : x - 2 ^ k + 2 ^ k ≡ x
    back = let r = room in omega arith

pub bit_clear : (x k j : ℕ) → bit (clear_bit x k) j ≡ (bit x j && not (eqb j k))
unfolding clear_bit set_bit
bit_clear x k j = ⊎_elim (λ e. rw (bit-zero x k e) (unset (bit-zero x k e) (eqb j k) refl)) (λ e. rw (bit_one x k e) (was (cleared x k e) (eqb j k) refl)) (two (x / 2 ^ k))
  where
    unset : bit x k ≡ false → (b : Bool) → eqb j k ≡ b → bit x j ≡ (bit x j && not b)
    unset n true e = ap (bit x) (eqb-true j k e) ∙ n ∙ sym (and-false (bit x j))
    unset n false e = sym (and-true (bit x j))

    again : (y : ℕ) → bit y k ≡ false → y + 2 ^ k ≡ x → bit x j ≡ (bit y j || eqb j k)
    again y n e = ap (λ (z : ℕ). bit z j) (sym e ∙ rw n refl) ∙ bit-set y k j

    was : (2 ^ k ≤ x) × ((x - 2 ^ k) / 2 ^ k % 2 ≡ 0) → (b : Bool) → eqb j k ≡ b → bit (x - 2 ^ k) j ≡ (bit x j && not b)
    was r true e = ap (bit (x - 2 ^ k)) (eqb-true j k e) ∙ bit-zero (x - 2 ^ k) k r.1 ∙ sym (and-false (bit x j))
    was r false e =
        sym (and-true (bit x j) ∙ again (x - 2 ^ k) (bit-zero (x - 2 ^ k) k r.1) (let h = r.0 in omega arith) ∙ ap (λ (t : Bool). bit (x - 2 ^ k) j || t) e ∙ or-false (bit (x - 2 ^ k) j))

pub set_low : (w x k : ℕ) → k < w → x < 2 ^ w → set_bit x k < 2 ^ w
set_low w x k h l = subst (λ (y : ℕ). y < 2 ^ w) (or_set x k) (or_lt w x (2 ^ k) l (pow-lt h))

pub clear_low : (w x k : ℕ) → x < 2 ^ w → clear_bit x k < 2 ^ w
unfolding clear_bit
clear_low w x k l = go (bit x k)
  where
    go : (b : Bool) → cond b (x - 2 ^ k) x < 2 ^ w
    go true = omega arith
    go false = l

pub and_clear : (w x k : ℕ) → k < w → x < 2 ^ w → bit_and x (2 ^ w - 1 - 2 ^ k) ≡ clear_bit x k
and_clear w x k h l =
    bits_same w (bit_and x (2 ^ w - 1 - 2 ^ k)) (clear_bit x k) (omega (arith, and_le_l x (2 ^ w - 1 - 2 ^ k))) (clear_low w x k l)
    (λ j u. bit-and x (2 ^ w - 1 - 2 ^ k) j ∙ ap (λ (t : Bool). bit x j && t) (bit_not w (2 ^ k) j (pow-lt h) u ∙ ap not (bit-pow k j)) ∙ sym (bit_clear x k j))

-- ---- no bit, exactly one bit

pub bit_none : (j : ℕ) → bit 0 j ≡ false
bit_none j = bit_high 0 0 j (omega arith) (omega arith)

pub zero_bits : (w x : ℕ) → x < 2 ^ w → eqb x 0 ≡ not (any w (bit x))
zero_bits w x h = go (any w (bit x)) refl
  where
    go : (b : Bool) → any w (bit x) ≡ b → eqb x 0 ≡ not b
    go true e = ne_eqb x 0 (λ q. let r = any_some (bit x) w e in true≢false (sym r.2 ∙ ap (λ (y : ℕ). bit y r.0) q ∙ bit_none r.0))
    go false e = eq-eqb x 0 (bits_same w x 0 h (pow_pos w) (λ j l. any_no (bit x) w j e l ∙ sym (bit_none j)))

pub bit_shift : (x a j : ℕ) → bit (x / 2 ^ a) j ≡ bit x (a + j)
unfolding bit
bit_shift x a j = ap (λ (y : ℕ). eqb (y % 2) 1) (shr-shr x a j)

-- ---- the lowest bit, of the w that the zeros are counted among

trailing_none : (w x j : ℕ) → j < count_trailing_zeros w x → bit x j ≡ false
unfolding count_trailing_zeros
trailing_none zero x j h = absurd (omega arith)
trailing_none (suc w) x j h = go (two x) j h (trailing_none w (x / 2))
  where
    go : (x % 2 ≡ 0) ⊎ (x % 2 ≡ 1) → (j : ℕ) → j < under (x % 2) (count_trailing_zeros w (x / 2)) → ((i : ℕ) → i < count_trailing_zeros w (x / 2) → bit (x / 2) i ≡ false) → bit x j ≡ false
    go (inl e) zero l ih = bit-zero x 0 (omega arith)
    go (inl e) (suc j) l ih = bit_half x j ∙ ih j (let z = rw e at l in omega arith)
    go (inr e) j l ih = absurd (let z = rw e at l in omega arith)

trailing_here : (w x : ℕ) → count_trailing_zeros w x < w → bit x (count_trailing_zeros w x) ≡ true
unfolding count_trailing_zeros
trailing_here zero x h = absurd (omega arith)
trailing_here (suc w) x h = go (two x) (trailing_here w (x / 2))
  where
    go : (x % 2 ≡ 0) ⊎ (x % 2 ≡ 1) → (count_trailing_zeros w (x / 2) < w → bit (x / 2) (count_trailing_zeros w (x / 2)) ≡ true) → bit x (under (x % 2) (count_trailing_zeros w (x / 2))) ≡ true
    go (inl e) ih = rw e (bit_half x (count_trailing_zeros w (x / 2)) ∙ ih (let z = rw e at h in omega arith))
    go (inr e) ih = rw e (bit_one x 0 (omega arith))

pub lowest-bit : (w x : ℕ) → x < 2 ^ w → (x ≡ 0 → ⊥) → let t = count_trailing_zeros w x in (t < w) × (bit x t ≡ true) × ((j : ℕ) → j < t → bit x j ≡ false)
lowest-bit w x h ne = (low, trailing_here w x low, λ j l. trailing_none w x j l)
  where
    low : count_trailing_zeros w x < w
    low = go (dec_lt (count_trailing_zeros w x) w)
      where
        go : Dec (count_trailing_zeros w x < w) → count_trailing_zeros w x < w
        go (yes l) = l
        go (no l) = absurd (ne (bits_same w x 0 h (pow_pos w) (λ j u. trailing_none w x j (omega arith) ∙ sym (bit_none j))))

pub lowest_is : (w x : ℕ) → x < 2 ^ w → (x ≡ 0 → ⊥) → count_trailing_zeros w x ≡ lowest_of w x
lowest_is w x h ne = go (lowest-bit w x h ne) (dec_lt (count_trailing_zeros w x) (lowest_of w x)) (dec_lt (lowest_of w x) (count_trailing_zeros w x))
  where
    go : let t = count_trailing_zeros w x in (t < w) × (bit x t ≡ true) × ((j : ℕ) → j < t → bit x j ≡ false) → Dec (t < lowest_of w x) → Dec (lowest_of w x < t) → t ≡ lowest_of w x
    go b (yes l) k = absurd (true≢false (sym b.1 ∙ first_least (bit x) w (count_trailing_zeros w x) l))
    go b (no l) (yes k) = absurd (true≢false (sym (first_passes (bit x) w (omega (arith, b.0))) ∙ b.2 (lowest_of w x) k))
    go b (no l) (no k) = omega arith

-- x has no bit that y lacks
pub inside_bits : (w x y : ℕ) → x < 2 ^ w → eqb (bit_and x y) x ≡ not (any w (λ j. bit x j && not (bit y j)))
inside_bits w x y h = go (any w (λ j. bit x j && not (bit y j))) refl
  where
    lacks : (a b : Bool) → (a && not b) ≡ true → (a && b) ≡ a → ⊥
    lacks true true p q = true≢false (sym p)
    lacks true false p q = true≢false (sym q)
    lacks false b p q = true≢false (sym p)

    has : (a b : Bool) → (a && not b) ≡ false → (a && b) ≡ a
    has true true p = refl
    has true false p = sym p
    has false b p = refl

    go : (b : Bool) → any w (λ j. bit x j && not (bit y j)) ≡ b → eqb (bit_and x y) x ≡ not b
    go true e =
        ne_eqb (bit_and x y) x
        (λ q. let r = any_some (λ j. bit x j && not (bit y j)) w e in lacks (bit x r.0) (bit y r.0) r.2 (sym (bit-and x y r.0) ∙ ap (λ (z : ℕ). bit z r.0) q))
    go false e =
        eq-eqb (bit_and x y) x
        (bits_same w (bit_and x y) x (omega (arith, and_le_l x y)) h (λ j l. bit-and x y j ∙ has (bit x j) (bit y j) (any_no (λ i. bit x i && not (bit y i)) w j e l)))
