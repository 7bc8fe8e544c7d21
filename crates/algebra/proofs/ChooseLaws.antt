-- How many sets of k there are of m things.
--
--   choose_none     none where k is more than m
--   choose_one      m of one thing each
--   choose_step     from k to k + 1 by a product and a division that leaves nothing: what a loop wants of `choose`
--   choose_most     at most 2 ^ m
--   choose_grows    of more things no fewer
use mathlib.Core.Path.{◌≡◌, refl, sym, ◌∙◌, ap}
use Prim.Native.Nat.{ℕ, zero, suc, ◌+◌, ◌-◌, ◌*◌, ◌/◌, ◌^◌, ◌<◌, ◌≤◌}
use native.Mathlib.Omega.{arith}
use native.Mathlib.Decide.{dec_lt}
use native.Mathlib.Numerals.{add-one}
use native.Mathlib.Nat.{mul-add, add-mul, mul-div_left, pow-suc}
use lib.Pow.{pow_pos}
use Rattle.algebra.specs.Places.{choose}

pub choose_none : (m k : ℕ) → m < k → choose m k ≡ 0
unfolding choose
choose_none m zero h = absurd (omega arith)
choose_none zero (suc k) h = refl
choose_none (suc m) (suc k) h = λ i. choose_none m k (omega arith) i + choose_none m (suc k) (omega arith) i

-- the sets of k + 1, each with one of its members marked, are the sets of k, each with one of the others marked
product : (m k : ℕ) → choose m (suc k) * suc k ≡ choose m k * (m - k)
unfolding choose
product zero zero = refl
product zero (suc k) = omega arith
product (suc m) zero = let e = product m zero in omega arith
product (suc m) (suc k) = add-mul (choose m (suc k)) (choose m (suc (suc k))) (suc (suc k)) ∙ go (dec_lt k m) (product m k) (product m (suc k)) ∙ sym (add-mul (choose m k) (choose m (suc k)) (suc m - suc k))
  where
    c : ℕ
    c = choose m (suc k)

    go : Dec (k < m) → c * suc k ≡ choose m k * (m - k) → choose m (suc (suc k)) * suc (suc k) ≡ c * (m - suc k)
        → c * suc (suc k) + choose m (suc (suc k)) * suc (suc k) ≡ choose m k * (suc m - suc k) + c * (suc m - suc k)
    go (yes h) p q =
        ap (λ (x : ℕ). c * suc (suc k) + x) q ∙ sym (mul-add c (suc (suc k)) (m - suc k)) ∙ ap (λ (x : ℕ). c * x) (let e : suc (suc k) + (m - suc k) ≡ suc k + (m - k) = omega arith in e)
        ∙ mul-add c (suc k) (m - k) ∙ (λ i. p i + c * (m - k)) ∙ ap (λ (x : ℕ). choose m k * x + c * x) (let e : m - k ≡ suc m - suc k = omega arith in e)
    go (no h) p q =
        (λ i. choose_none m (suc k) (omega arith) i * suc (suc k) + choose_none m (suc (suc k)) (omega arith) i * suc (suc k))
        ∙ (let e : 0 * suc (suc k) + 0 * suc (suc k) ≡ choose m k * 0 + c * 0 = omega arith in e)
        ∙ ap (λ (x : ℕ). choose m k * x + c * x) (let e : 0 ≡ suc m - suc k = omega arith in e)

pub choose_step : (m k : ℕ) → choose m k * (m - k) / (k + 1) ≡ choose m (k + 1)
choose_step m k =
    (λ i. sym (product m k) i / add-one k i) ∙ mul-div_left (choose m (suc k)) (omega arith) ∙ ap (choose m) (sym (add-one k))

pub choose_most : (m k : ℕ) → choose m k ≤ 2 ^ m
unfolding choose
choose_most m zero = pow_pos m
choose_most zero (suc k) = omega arith
choose_most (suc m) (suc k) = omega (arith, choose_most m k, choose_most m (suc k), pow-suc 2 m)

pub choose_grows : (m n k : ℕ) → m ≤ n → choose m k ≤ choose n k
unfolding choose
choose_grows m n zero h = omega arith
choose_grows zero n (suc k) h = omega arith
choose_grows (suc m) zero (suc k) h = absurd (omega arith)
choose_grows (suc m) (suc n) (suc k) h = omega (arith, choose_grows m n k (omega arith), choose_grows m n (suc k) (omega arith))

pub choose_one : (m : ℕ) → choose m 1 ≡ m
unfolding choose
choose_one zero = refl
choose_one (suc m) = omega (arith, choose_one m)
