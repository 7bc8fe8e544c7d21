-- Lists that a loop builds, one part a turn.
--
--   over-turn      the first part, then the rest
--   over_end       nothing from the bound on
--   over-split     the parts in two runs
--   over_last      the last part stands at the end
--   over_at        the parts before one, it, and those behind it
--   over_nothing, over_same    parts that are empty; parts that agree
--   over_sized     how many elements there are
--   over_taken     parts that stand in a list, one behind the other, k elements each
--   over_in, over_out     what is in such a list is in one of its parts
--   over-length    parts that are no longer make a list that is no longer
--   over-map       mapped parts
--   over_apart     members of one part apart, and members of different parts apart: all apart
use mathlib.Core.Path.{◌≡◌, refl, sym, ◌∙◌, ap, subst}
use mathlib.Core.Logic.{◌⊎◌, inl, inr}
use mathlib.Core.List.Memᴰ
use mathlib.Core.List.{List, [], ◌++◌, map, map-append, append_assoc, append-nil, Memᴰ}
use Prim.Native.Nat.{ℕ, zero, suc, ◌+◌, ◌-◌, ◌*◌, ◌<◌, ◌≤◌}
use native.Mathlib.Omega.{arith}
use native.Mathlib.Nat.{add-zero, mul-suc}
use native.Mathlib.Numerals.{add-one}
use native.Mathlib.Decide.{ℕ_discrete}
use lib.ListN.{length, take, drop, length-append}
use lib.Seq.{take-add, drop-drop}
use Rattle.algebra.specs.Loops.{run, over}
use Rattle.algebra.proofs.ListLaws.{Apart, apart-append}

module _ {A : Type 0} (f : ℕ → List A) where
  pub over-turn : (i n : ℕ) → i < n → over f i n ≡ f i ++ over f (i + 1) n
  unfolding over run
  over-turn i n h = ap (run f i) (let e : n - i ≡ suc (n - (i + 1)) = omega arith in e) ∙ ap (λ j. f i ++ run f j (n - (i + 1))) (sym (add-one i))

  pub over_end : (i n : ℕ) → n ≤ i → over f i n ≡ []
  unfolding over run
  over_end i n h = ap (run f i) (let e : n - i ≡ 0 = omega arith in e)

  run_in : (a k i : ℕ) {x : A} → a ≤ i → i < a + k → Memᴰ x (f i) → Memᴰ x (run f a k)
  unfolding run
  run_in a zero i h l m = absurd (none h l)
    where
      none : a ≤ i → i < a + 0 → ⊥
      none h l = omega arith
  run_in a (suc k) i {x} h l m = go (ℕ_discrete i a) (λ h l. run_in (suc a) k i h l m)
    where
      go : Dec (i ≡ a) → (suc a ≤ i → i < suc a + k → Memᴰ x (run f (suc a) k)) → Memᴰ x (f a ++ run f (suc a) k)
      go (yes e) ih = Memᴰ.append_left (run f (suc a) k) (subst (λ j. Memᴰ x (f j)) e m)
      go (no e) ih = Memᴰ.append_right (f a) (ih (omega arith) (omega arith))

  run_out : (a k : ℕ) {x : A} → Memᴰ x (run f a k) → (i : ℕ) × (a ≤ i) × (i < a + k) × Memᴰ x (f i)
  unfolding run
  run_out a zero m = absurd (Memᴰ.not-nil m)
  run_out a (suc k) {x} m = go (Memᴰ.append_cases (f a) m) (λ n. run_out (suc a) k n)
    where
      go : Memᴰ x (f a) ⊎ Memᴰ x (run f (suc a) k) → (Memᴰ x (run f (suc a) k) → (i : ℕ) × (suc a ≤ i) × (i < suc a + k) × Memᴰ x (f i)) → (i : ℕ) × (a ≤ i) × (i < a + suc k) × Memᴰ x (f i)
      go (inl n) ih = (a, omega arith, omega arith, n)
      go (inr n) ih = let r = ih n in (r.0, up r.1, to r.2, r.3)
        where
          up : {i : ℕ} → suc a ≤ i → a ≤ i
          up h = omega arith

          to : {i : ℕ} → i < suc a + k → i < a + suc k
          to h = omega arith

  pub over_in : (a n i : ℕ) {x : A} → a ≤ i → i < n → Memᴰ x (f i) → Memᴰ x (over f a n)
  unfolding over
  over_in a n i h l m = run_in a (n - a) i h (omega arith) m

  pub over_out : (a n : ℕ) {x : A} → Memᴰ x (over f a n) → (i : ℕ) × (a ≤ i) × (i < n) × Memᴰ x (f i)
  unfolding over
  over_out a n m = let r = run_out a (n - a) m in (r.0, r.1, low r.1 r.2, r.3)
    where
      low : {i : ℕ} → a ≤ i → i < a + (n - a) → i < n
      low h l = omega arith

  pub over_apart : (R : A → A → Type 0) (a n : ℕ) → ((i : ℕ) → a ≤ i → i < n → Apart R (f i)) → ((i j : ℕ) → a ≤ i → i < j → j < n → (x y : A) → Memᴰ x (f i) → Memᴰ y (f j) → R x y) → Apart R (over f a n)
  unfolding over run
  over_apart R a n p q = go a (n - a) (λ i h l. p i h (omega arith)) (λ i j h l m. q i j h l (omega arith))
    where
      go : (a k : ℕ) → ((i : ℕ) → a ≤ i → i < a + k → Apart R (f i)) → ((i j : ℕ) → a ≤ i → i < j → j < a + k → (x y : A) → Memᴰ x (f i) → Memᴰ y (f j) → R x y) → Apart R (run f a k)
      go a zero p q = tt
      go a (suc k) p q =
          apart-append R (f a) (run f (suc a) k) (p a (omega arith) (omega arith)) (go (suc a) k (λ i h l. p i (omega arith) (omega arith)) (λ i j h l m. q i j (omega arith) l (omega arith)))
          (λ x y m n. let r = run_out (suc a) k n in q a r.0 (omega arith) r.1 (to r.2) x y m r.3)
        where
          to : {i : ℕ} → i < suc a + k → i < a + suc k
          to h = omega arith

pub over-length : {A B : Type 0} (f : ℕ → List A) (g : ℕ → List B) (a n : ℕ) → ((i : ℕ) → length (f i) ≤ length (g i)) → length (over f a n) ≤ length (over g a n)
unfolding over run
over-length f g a n h = go a (n - a)
  where
    go : (a k : ℕ) → length (run f a k) ≤ length (run g a k)
    go a zero = omega arith
    go a (suc k) = let p = length-append (f a) (run f (suc a) k) in let q = length-append (g a) (run g (suc a) k) in let r = go (suc a) k in let s = h a in omega arith

pub over-map : {A B : Type 0} (g : A → B) (f : ℕ → List A) (a n : ℕ) → over (λ i. map g (f i)) a n ≡ map g (over f a n)
unfolding over run
over-map {B = B} g f a n = go a (n - a)
  where
    go : (a k : ℕ) → run (λ i. map g (f i)) a k ≡ map g (run f a k)
    go a zero = refl
    go a (suc k) = ap (λ (t : List B). map g (f a) ++ t) (go (suc a) k) ∙ sym (map-append g (f a) (run f (suc a) k))

-- ---- in pieces

module _ {A : Type 0} (f : ℕ → List A) where
  run-add : (a j k : ℕ) → run f a (j + k) ≡ run f a j ++ run f (a + j) k
  unfolding run
  run-add a zero k = (λ i. run f (sym (add-zero a) i) (e i))
    where
      e : 0 + k ≡ k
      e = omega arith
  run-add a (suc j) k =
      ap (run f a) (let e : suc j + k ≡ suc (j + k) = omega arith in e)
      ∙ ap (λ (s : List A). f a ++ s) (run-add (suc a) j k ∙ ap (λ (m : ℕ). run f (suc a) j ++ run f m k) (let e : suc a + j ≡ a + suc j = omega arith in e))
      ∙ sym (append_assoc (f a) (run f (suc a) j) (run f (a + suc j) k))

  pub over-split : (a m n : ℕ) → a ≤ m → m ≤ n → over f a n ≡ over f a m ++ over f m n
  unfolding over
  over-split a m n h l =
      ap (run f a) (let e : n - a ≡ m - a + (n - m) = omega arith in e) ∙ run-add a (m - a) (n - m)
      ∙ ap (λ (k : ℕ). run f a (m - a) ++ run f k (n - m)) (let e : a + (m - a) ≡ m = omega arith in e)

  pub over_last : (n : ℕ) → over f 0 (suc n) ≡ over f 0 n ++ f n
  unfolding over run
  over_last n = over-split 0 n (suc n) (omega arith) (omega arith) ∙ ap (λ (s : List A). over f 0 n ++ s) (ap (run f n) (let e : suc n - n ≡ 1 = omega arith in e) ∙ append-nil (f n))

  pub over_at : (i n : ℕ) → i < n → over f 0 n ≡ over f 0 i ++ (f i ++ over f (i + 1) n)
  over_at i n h = over-split 0 i n (omega arith) (omega arith) ∙ ap (λ (s : List A). over f 0 i ++ s) (over-turn f i n h)

  pub over_nothing : (a n : ℕ) → ((i : ℕ) → a ≤ i → f i ≡ []) → over f a n ≡ []
  unfolding over run
  over_nothing a n h = go a (n - a) h
    where
      go : (a k : ℕ) → ((i : ℕ) → a ≤ i → f i ≡ []) → run f a k ≡ []
      go a zero h = refl
      go a (suc k) h = rw (h a (omega arith)) (go (suc a) k (λ i l. h i (omega arith)))

  -- g counts the elements, piece by piece
  pub over_sized : (g : ℕ → ℕ) (n : ℕ) → g 0 ≡ 0 → ((i : ℕ) → i < n → g (suc i) ≡ g i + length (f i)) → length (over f 0 n) ≡ g n
  unfolding over run
  over_sized g zero z h = sym z
  over_sized g (suc n) z h = ap length (over_last n) ∙ length-append (over f 0 n) (f n) ∙ ap (λ (k : ℕ). k + length (f n)) (over_sized g n z (λ i l. h i (omega arith))) ∙ sym (h n (omega arith))

  pub over_taken : (b : List A) (at k n : ℕ) → ((i : ℕ) → i < n → f i ≡ take k (drop (at + k * i) b)) → over f 0 n ≡ take (k * n) (drop at b)
  unfolding over run
  over_taken b at k zero h = ap (λ (m : ℕ). take m (drop at b)) (let e : 0 ≡ k * 0 = omega arith in e)
  over_taken b at k (suc n) h =
      over_last n ∙ (λ i. over_taken b at k n (λ i l. h i (omega arith)) i ++ (h n (omega arith) ∙ ap (take k) (sym (drop-drop (k * n) at b))) i)
      ∙ sym (take-add (k * n) k (drop at b)) ∙ ap (λ (m : ℕ). take m (drop at b)) (sym (mul-suc k n))

pub over_same : {A : Type 0} (f g : ℕ → List A) (n : ℕ) → ((i : ℕ) → i < n → f i ≡ g i) → over f 0 n ≡ over g 0 n
unfolding over run
over_same f g zero h = refl
over_same f g (suc n) h = over_last f n ∙ (λ i. over_same f g n (λ i l. h i (omega arith)) i ++ h n (omega arith) i) ∙ sym (over_last g n)
