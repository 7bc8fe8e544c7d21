-- What writing a run into a run leaves.
--
--   wrote-length     the length stays
--   wrote-append     one run, then another behind it
--   wrote_parts      what stands before and behind the written run stays
--   wrote-front, wrote_taken     a run written at the front: all, and the run itself
--   wrote_none, wrote-turn, wrote_end     a loop that writes one element a turn; `wrote_next`: whatever the place
--   pieces-length    as many places as the pieces that are left have
--   Putting f n t at i out next    of the pieces f 0, .. , f (n - 1), put at place at of t, those before i are there: out is what t is now, next the place behind them
--   putting_none, putting-turn, putting_end    a loop that puts one piece a turn
--   putting-length    the length stays
use mathlib.Core.Path.{◌≡◌, refl, sym, ◌∙◌, ap}
use mathlib.Core.List.{List, [], ◌∷◌, ◌++◌}
use Prim.Native.Nat.{ℕ, zero, suc, ◌+◌, ◌≤◌, ◌<◌}
use native.Mathlib.Omega.{arith}
use native.Mathlib.Numerals.{add-one}
use native.Mathlib.Nat.{add-zero, zero-add}
use lib.ListN.{length, get_or, set, take, drop, length-set, length-append}
use lib.Seq.{drop-cons, take_at}
use Rattle.algebra.specs.Loops.{over}
use Rattle.algebra.specs.Writing.{wrote}
use Rattle.algebra.proofs.OverLaws.{over-turn, over_end}

module _ {A : Type 0} where
  pub wrote-length : (t : List A) (at : ℕ) (s : List A) → length (wrote t at s) ≡ length t
  unfolding wrote
  wrote-length t at [] = refl
  wrote-length t at (x ∷ s) = wrote-length (set t at x) (at + 1) s ∙ length-set t at x

  pub wrote-append : (t : List A) (at : ℕ) (s u : List A) → wrote t at (s ++ u) ≡ wrote (wrote t at s) (at + length s) u
  unfolding wrote
  wrote-append t at [] u = ap (λ k. wrote t k u) (sym (add-zero at))
  wrote-append t at (x ∷ s) u = wrote-append (set t at x) (at + 1) s u ∙ ap (λ k. wrote (wrote (set t at x) (at + 1) s) k u) (behind at (length s))
    where
      behind : (a k : ℕ) → a + 1 + k ≡ a + suc k
      behind a k = omega arith

  wrote_behind : (x : A) (t : List A) (at : ℕ) (s : List A) → wrote (x ∷ t) (suc at) s ≡ x ∷ wrote t at s
  unfolding wrote
  wrote_behind x t at [] = refl
  wrote_behind x t at (y ∷ s) = ap (λ k. wrote (x ∷ set t at y) k s) (next at) ∙ wrote_behind x (set t at y) (at + 1) s
    where
      next : (a : ℕ) → suc a + 1 ≡ suc (a + 1)
      next a = omega arith

  pub wrote_parts : (t : List A) (at : ℕ) (s : List A) → at + length s ≤ length t → wrote t at s ≡ take at t ++ (s ++ drop (at + length s) t)
  unfolding wrote
  wrote_parts [] zero [] h = refl
  wrote_parts [] zero (y ∷ s) h = absurd (omega arith)
  wrote_parts [] (suc at) s h = absurd (omega arith)
  wrote_parts (x ∷ t) zero [] h = refl
  wrote_parts (x ∷ t) zero (y ∷ s) h =
      ap (λ k. wrote (y ∷ t) k s) (let e : 0 + 1 ≡ suc 0 = omega arith in e)
      ∙ wrote_behind y t 0 s
      ∙ ap (λ u. y ∷ u) (wrote_parts t 0 s (omega arith) ∙ ap (λ k. s ++ drop k t) (zero-add (length s)))
      ∙ ap (λ k. y ∷ (s ++ drop k (x ∷ t))) (sym (zero-add (suc (length s))))
  wrote_parts (x ∷ t) (suc at) s h =
      wrote_behind x t at s ∙ ap (λ u. x ∷ u) (wrote_parts t at s (omega arith)) ∙ ap (λ k. x ∷ (take at t ++ (s ++ drop k (x ∷ t)))) (behind at (length s))
    where
      behind : (a k : ℕ) → suc (a + k) ≡ suc a + k
      behind a k = omega arith

  pub wrote-front : (t s : List A) → length s ≤ length t → wrote t 0 s ≡ s ++ drop (length s) t
  wrote-front t s h = wrote_parts t 0 s (omega arith) ∙ ap (λ k. s ++ drop k t) (zero-add (length s))

  pub wrote_taken : (t s : List A) → length s ≤ length t → take (length s) (wrote t 0 s) ≡ s
  wrote_taken t s h = ap (take (length s)) (wrote-front t s h) ∙ take_at s (drop (length s) t) (length s) refl

  -- ---- a loop that writes the elements of s

  drop_end : (s : List A) (i : ℕ) → length s ≤ i → drop i s ≡ []
  drop_end [] zero h = refl
  drop_end [] (suc i) h = refl
  drop_end (x ∷ s) zero h = absurd (omega arith)
  drop_end (x ∷ s) (suc i) h = drop_end s i (omega arith)

  pub wrote_none : (t : List A) (at : ℕ) (s : List A) → wrote t (at + 0) (drop 0 s) ≡ wrote t at s
  wrote_none t at s = ap (λ k. wrote t k s) (add-zero at)

  pub wrote_next : (t s : List A) (at i : ℕ) (d : A) → i < length s → wrote t at (drop i s) ≡ wrote (set t at (get_or s i d)) (at + 1) (drop (i + 1) s)
  unfolding wrote
  wrote_next t s at i d h = ap (wrote t at) (drop-cons s i d h ∙ ap (λ k. get_or s i d ∷ drop k s) (sym (add-one i)))

  pub wrote-turn : (t s : List A) (at i : ℕ) (d : A) → i < length s → wrote t (at + i) (drop i s) ≡ wrote (set t (at + i) (get_or s i d)) (at + (i + 1)) (drop (i + 1) s)
  wrote-turn t s at i d h = wrote_next t s (at + i) i d h ∙ ap (λ k. wrote (set t (at + i) (get_or s i d)) k (drop (i + 1) s)) (next at i)
    where
      next : (a k : ℕ) → a + k + 1 ≡ a + (k + 1)
      next a k = omega arith

  pub wrote_end : (t s : List A) (at i : ℕ) → length s ≤ i → wrote t at (drop i s) ≡ t
  unfolding wrote
  wrote_end t s at i h = ap (wrote t at) (drop_end s i h)

  -- ---- a loop that writes the pieces f i

  -- what the pieces that are left make of out is what all of them make of t
  abbrev pub Putting : (ℕ → List A) → ℕ → List A → ℕ → ℕ → List A → ℕ → Type 0
  Putting f n t at i out next = (next + length (over f i n) ≡ at + length (over f 0 n)) × (wrote out next (over f i n) ≡ wrote t at (over f 0 n))

  module _ (f : ℕ → List A) (n : ℕ) where
    pub pieces-length : (i : ℕ) → i < n → length (over f i n) ≡ length (f i) + length (over f (i + 1) n)
    pieces-length i h = ap length (over-turn f i n h) ∙ length-append (f i) (over f (i + 1) n)

    module _ (t : List A) (at : ℕ) where
      pub putting_none : Putting f n t at 0 t at
      putting_none = (refl, refl)

      module _ (i : ℕ) (out : List A) (next : ℕ) (h : Putting f n t at i out next) where
        pub putting-turn : {out' : List A} {next' : ℕ} → i < n → (next' ≡ next + length (f i)) × (out' ≡ wrote out next (f i)) → Putting f n t at (i + 1) out' next'
        putting-turn l (p, e) = (
          omega (arith, h.0, pieces-length i l),
          (λ k. wrote (e k) (p k) (over f (i + 1) n)) ∙ sym (wrote-append out next (f i) (over f (i + 1) n)) ∙ ap (wrote out next) (sym (over-turn f i n l)) ∙ h.1,
        )

        pub putting_end : n ≤ i → (next ≡ at + length (over f 0 n)) × (out ≡ wrote t at (over f 0 n))
        unfolding wrote
        putting_end l = let e = over_end f i n l in (omega (arith, h.0, ap length e), sym (ap (wrote out next) e) ∙ h.1)

        pub putting-length : length out ≡ length t
        putting-length = sym (wrote-length out next (over f i n)) ∙ ap length h.1 ∙ wrote-length t at (over f 0 n)
