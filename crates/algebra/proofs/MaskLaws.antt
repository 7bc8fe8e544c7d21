-- Sets of the numbers below n, and their masks: one for the other.
--
--   set_of_mask    the set of the mask of a set is that set
--   mask_of_set    the mask of the set of a mask below 2 ^ n is that mask
--   set_none       the empty mask is the empty set
--   picks_first    of the numbers that pass a test: the first one, then the others
--   lowest_low     a mask below 2 ^ n that is not empty has its lowest bit below n
--   set_first      its set: the lowest bit, then those of the mask without it
--   set_sum        a bit that is not set, set, is added
--   clear_mask     a mask with a bit cleared is that of the set without the number
use mathlib.Core.Path.{◌≡◌, refl, sym, ◌∙◌, ap}
use mathlib.Core.Bool.{Bool, true, false, not, ◌||◌, ◌&&◌, true≢false, and-true, and-false}
use mathlib.Core.List.{List, [], ◌∷◌}
use Prim.Native.Nat.{ℕ, ◌+◌, ◌^◌, ◌≤◌, ◌<◌}
use native.Mathlib.Omega.{arith}
use native.Mathlib.Decide.{dec_lt, ℕ_discrete}
use lib.Dec.{ltb, eqb}
use borrow.Author.Tests.{lt-ltb, eq-eqb, ne_eqb}
use Rattle.algebra.specs.Loops.{picks}
use Rattle.algebra.specs.Sets.{is_on, dropped, Within, mask_of, bit, set_of, lowest_of}
use Rattle.algebra.specs.Words.{set_bit, clear_bit}
use Rattle.algebra.proofs.LoopLaws.{first_passes, first_least}
use Rattle.algebra.proofs.SetLaws.{picks_on, picks_same}
use Rattle.algebra.proofs.SetTests.{on_head, is_on-picks, picks_within, set_same, on-dropped, dropped_within}
use Rattle.algebra.proofs.BitLaws.{mask_below, bit_mask}
use Rattle.algebra.proofs.BitOps.{bits_same, bit_clear, clear_low, bit_none}

pub set_of_mask : (n : ℕ) (s : List ℕ) → Within 0 s n → set_of n (mask_of s) ≡ s
set_of_mask n s w = picks_same (bit (mask_of s)) (λ i. is_on i s) n (λ i h. bit_mask i n s w) ∙ picks_on s n w

-- below n, the numbers that are picked are those that pass
picked : (f : ℕ → Bool) (n i : ℕ) → i < n → is_on i (picks n f) ≡ f i
picked f n i h = is_on-picks f n i ∙ ap (λ (b : Bool). b && f i) (lt-ltb i n h)

pub mask_of_set : (n x : ℕ) → x < 2 ^ n → mask_of (set_of n x) ≡ x
mask_of_set n x h =
    bits_same n (mask_of (set_of n x)) x (mask_below n (set_of n x) (picks_within (bit x) n)) h
    (λ i l. bit_mask i n (set_of n x) (picks_within (bit x) n) ∙ picked (bit x) n i l)

pub set_none : (n : ℕ) → set_of n 0 ≡ []
unfolding is_on
set_none n = picks_same (bit 0) (λ i. is_on i []) n (λ i h. bit_none i) ∙ picks_on [] n tt

-- ---- the first number, then the others

-- an increasing list that none below a is in begins at a or later
late_within : (a n : ℕ) (s : List ℕ) → Within 0 s n → ((i : ℕ) → i < a → is_on i s ≡ false) → Within a s n
late_within a n [] w h = tt
late_within a n (i ∷ s) w h = (go (dec_lt i a), w.1, w.2)
  where
    go : Dec (i < a) → a ≤ i
    go (yes l) = absurd (true≢false (sym (on_head i s) ∙ h i l))
    go (no l) = omega arith

pub picks_first : (f : ℕ → Bool) (n i : ℕ) → i < n → f i ≡ true → ((j : ℕ) → j < i → f j ≡ false) → picks n f ≡ i ∷ picks n (λ j. f j && not (eqb j i))
unfolding is_on
picks_first f n i h t low =
    set_same (picks n f) (i ∷ picks n others) n (picks_within f n)
    (omega arith, h, late_within (i + 1) n (picks n others) (picks_within others n) (λ j l. is_on-picks others n j ∙ early j (dec_lt j i) l))
    (λ j l. picked f n j l ∙ sym (ap (λ (b : Bool). eqb j i || b) (picked others n j l) ∙ here j (ℕ_discrete j i)))
  where
    others : ℕ → Bool
    others j = f j && not (eqb j i)

    early : (j : ℕ) → Dec (j < i) → j < i + 1 → (ltb j n && others j) ≡ false
    early j (yes l) u = rw (low j l) (and-false (ltb j n))
    early j (no l) u = rw (eq-eqb j i (omega arith), and-false (f j)) (and-false (ltb j n))

    here : (j : ℕ) → Dec (j ≡ i) → (eqb j i || others j) ≡ f j
    here j (yes e) = rw (eq-eqb j i e) (sym (ap f e ∙ t))
    here j (no ne) = rw (ne_eqb j i ne) (and-true (f j))

module _ (w n x : ℕ) (h : n ≤ w) (l : x < 2 ^ n) (ne : x ≡ 0 → ⊥) where
  pub lowest_low : lowest_of w x < n
  lowest_low = go (dec_lt (lowest_of w x) n)
    where
      go : Dec (lowest_of w x < n) → lowest_of w x < n
      go (yes u) = u
      go (no u) = absurd (ne (bits_same n x 0 l (omega arith) (λ j v. first_least (bit x) w j (omega arith) ∙ sym (bit_none j))))

  pub set_first : set_of n x ≡ lowest_of w x ∷ set_of n (clear_bit x (lowest_of w x))
  set_first =
      picks_first (bit x) n (lowest_of w x) lowest_low (first_passes (bit x) w (let u = lowest_low in omega arith)) (first_least (bit x) w)
      ∙ ap (λ (s : List ℕ). lowest_of w x ∷ s) (picks_same (λ j. bit x j && not (eqb j (lowest_of w x))) (bit (clear_bit x (lowest_of w x))) n (λ j v. sym (bit_clear x (lowest_of w x) j)))

pub set_sum : (x i : ℕ) → bit x i ≡ false → set_bit x i ≡ x + 2 ^ i
unfolding set_bit
set_sum x i e = rw e refl

pub clear_mask : (n i : ℕ) (s : List ℕ) → Within 0 s n → clear_bit (mask_of s) i ≡ mask_of (dropped n i s)
clear_mask n i s v =
    bits_same n (clear_bit (mask_of s) i) (mask_of (dropped n i s)) (clear_low n (mask_of s) i (mask_below n s v)) (mask_below n (dropped n i s) (dropped_within n i s))
    (λ j l. bit_clear (mask_of s) i j ∙ ap (λ (b : Bool). b && not (eqb j i)) (bit_mask j n s v)
    ∙ sym (bit_mask j n (dropped n i s) (dropped_within n i s) ∙ on-dropped n i s j ∙ ap (λ (b : Bool). b && (is_on j s && not (eqb j i))) (lt-ltb j n l)))
