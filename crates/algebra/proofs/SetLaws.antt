-- Laws of increasing lists and of nested loops over them.
--
--   within_early, within_cast    the same list from an earlier bound, and between equal bounds
--   early_off          a number before an increasing list is not in it
--   lex_same           no list comes before itself
--   nest_in, nest_out  what such loops list comes from an increasing list of that length, and each such list is gone through
--   nest_apart         the lists are gone through in lexicographic order
--   nest-length        parts that are no longer make a list that is no longer
--   nest-map           mapped parts
--   picks_on           the numbers below n that are in an increasing list are that list
--   picks_same         tests that agree below n pick the same numbers
--   sum_within         a sum over an increasing list, as one over all numbers below n
use mathlib.Core.Path.{◌≡◌, refl, sym, ◌∙◌, ap, subst}
use mathlib.Core.Logic.{inl, inr}
use mathlib.Core.Bool.{Bool, false, cond}
use mathlib.Core.List.{List, [], ◌∷◌, ◌++◌, map, Memᴰ, append_assoc, append-nil}
use Prim.Native.Nat.{ℕ, zero, suc, ◌+◌, ◌<◌, ◌≤◌}
use native.Mathlib.Omega.{arith}
use native.Mathlib.Decide.{ℕ_discrete}
use lib.ListN.{length}
use borrow.Author.Tests.{eq-eqb, ne_eqb}
use Rattle.algebra.specs.Loops.{picks, run, over, tally, sum_of}
use Rattle.algebra.specs.Sets.{is_on, Within, Lex, nest}
use Rattle.algebra.proofs.ListLaws.{Apart}
use Rattle.algebra.proofs.OverLaws.{over_in, over_out, over_apart, over-length, over-map}
use Rattle.algebra.proofs.LoopLaws.{sum-picks}

-- ---- increasing lists

pub within_early : (a b n : ℕ) (s : List ℕ) → b ≤ a → Within a s n → Within b s n
within_early a b n [] h w = tt
within_early a b n (i ∷ s) h w = (let k = w.0 in omega arith, w.1, w.2)

pub within_cast : {a b m n : ℕ} (s : List ℕ) → a ≡ b → m ≡ n → Within a s m → Within b s n
within_cast {a} {b} {m} {n} s e q w = subst (λ (x : ℕ). Within x s n) e (subst (λ (y : ℕ). Within a s y) q w)

pub early_off : (i a n : ℕ) (s : List ℕ) → i < a → Within a s n → is_on i s ≡ false
unfolding is_on
early_off i a n [] h w = refl
early_off i a n (j ∷ s) h w = rw (ne_eqb i j (λ e. apart w.0 e), early_off i (j + 1) n s (let k = w.0 in omega arith) w.2) refl
  where
    apart : a ≤ j → i ≡ j → ⊥
    apart k e = omega arith

pub lex_same : (s : List ℕ) → Lex s s → ⊥
lex_same [] h = h
lex_same (i ∷ s) (inl h) = never h
  where
    never : i < i → ⊥
    never h = omega arith
lex_same (i ∷ s) (inr h) = lex_same s h.1

-- ---- nested loops

module _ {A : Type 0} where
  pub nest_in : (k : ℕ) (f : List ℕ → List A) (a n : ℕ) (s : List ℕ) {x : A} → Within a s n → length s ≡ k → Memᴰ x (f s) → Memᴰ x (nest k f a n)
  unfolding nest
  nest_in zero f a n [] w e m = m
  nest_in zero f a n (i ∷ s) w e m = absurd (clash e)
    where
      clash : suc (length s) ≡ 0 → ⊥
      clash e = omega arith
  nest_in (suc k) f a n [] w e m = absurd (clash e)
    where
      clash : 0 ≡ suc k → ⊥
      clash e = omega arith
  nest_in (suc k) f a n (i ∷ s) w e m = over_in (λ j. nest k (λ t. f (j ∷ t)) (j + 1) n) a n i w.0 w.1 (nest_in k (λ t. f (i ∷ t)) (i + 1) n s w.2 (omega arith) m)

  pub nest_out : (k : ℕ) (f : List ℕ → List A) (a n : ℕ) {x : A} → Memᴰ x (nest k f a n) → (s : List ℕ) × Within a s n × (length s ≡ k) × Memᴰ x (f s)
  unfolding nest
  nest_out zero f a n m = ([], tt, refl, m)
  nest_out (suc k) f a n m =
      let r = over_out (λ j. nest k (λ t. f (j ∷ t)) (j + 1) n) a n m in
      let q = nest_out k (λ t. f (r.0 ∷ t)) (r.0 + 1) n r.3 in
      (r.0 ∷ q.0, (r.1, r.2, q.1), ap suc q.2, q.3)

  pub nest_apart : (R : A → A → Type 0) (k : ℕ) (f : List ℕ → List A) (a n : ℕ)
      → ((s : List ℕ) → Within a s n → length s ≡ k → Apart R (f s))
      → ((s t : List ℕ) → Within a s n → Within a t n → length s ≡ k → length t ≡ k → Lex s t → (x y : A) → Memᴰ x (f s) → Memᴰ y (f t) → R x y)
      → Apart R (nest k f a n)
  unfolding nest
  nest_apart R zero f a n p q = p [] tt refl
  nest_apart R (suc k) f a n p q =
      over_apart (λ i. nest k (λ s. f (i ∷ s)) (i + 1) n) R a n
      (λ i h u. nest_apart R k (λ s. f (i ∷ s)) (i + 1) n (λ s w e. p (i ∷ s) (h, u, w) (ap suc e)) (λ s t w w' e e' o. q (i ∷ s) (i ∷ t) (h, u, w) (h, u, w') (ap suc e) (ap suc e') (inr (refl, o))))
      (λ i j h u v x y m m'. let r = nest_out k (λ s. f (i ∷ s)) (i + 1) n m in let r' = nest_out k (λ s. f (j ∷ s)) (j + 1) n m' in
      q (i ∷ r.0) (j ∷ r'.0) (h, omega arith, r.1) (omega arith, v, r'.1) (ap suc r.2) (ap suc r'.2) (inl u) x y r.3 r'.3)

pub nest-length : {A B : Type 0} (k : ℕ) (f : List ℕ → List A) (g : List ℕ → List B) (a n : ℕ) → ((s : List ℕ) → length (f s) ≤ length (g s)) → length (nest k f a n) ≤ length (nest k g a n)
unfolding nest
nest-length zero f g a n h = h []
nest-length (suc k) f g a n h =
    over-length (λ i. nest k (λ s. f (i ∷ s)) (i + 1) n) (λ i. nest k (λ s. g (i ∷ s)) (i + 1) n) a n (λ i. nest-length k (λ s. f (i ∷ s)) (λ s. g (i ∷ s)) (i + 1) n (λ s. h (i ∷ s)))

pub nest-map : {A B : Type 0} (g : A → B) (k : ℕ) (f : List ℕ → List A) (a n : ℕ) → nest k (λ s. map g (f s)) a n ≡ map g (nest k f a n)
unfolding nest
nest-map g zero f a n = refl
nest-map {B = B} g (suc k) f a n = ap (λ (h : ℕ → List B). over h a n) (λ j i. nest-map g k (λ s. f (i ∷ s)) (i + 1) n j) ∙ over-map g (λ i. nest k (λ s. f (i ∷ s)) (i + 1) n) a n

-- ---- the numbers that are in a list

abbrev one : (ℕ → Bool) → ℕ → List ℕ
one f i = cond (f i) (i ∷ []) []

run_last : (f : ℕ → Bool) (a k : ℕ) → run (one f) a (suc k) ≡ run (one f) a k ++ one f (a + k)
unfolding run
run_last f a zero = append-nil (one f a) ∙ ap (one f) (let e : a ≡ a + 0 = omega arith in e)
run_last f a (suc k) = ap (λ (l : List ℕ). one f a ++ l) (run_last f (suc a) k) ∙ sym (append_assoc (one f a) (run (one f) (suc a) k) (one f (suc a + k)))
    ∙ ap (λ (i : ℕ). (one f a ++ run (one f) (suc a) k) ++ one f i) (let e : suc a + k ≡ a + suc k = omega arith in e)

picks-run : (f : ℕ → Bool) (n : ℕ) → picks n f ≡ run (one f) 0 n
unfolding picks run
picks-run f zero = refl
picks-run f (suc n) = ap (λ (l : List ℕ). l ++ one f n) (picks-run f n) ∙ ap (λ (i : ℕ). run (one f) 0 n ++ one f i) (let e : n ≡ 0 + n = omega arith in e) ∙ sym (run_last f 0 n)

run_same : (f g : ℕ → Bool) (a k : ℕ) → ((i : ℕ) → a ≤ i → i < a + k → f i ≡ g i) → run (one f) a k ≡ run (one g) a k
unfolding run
run_same f g a zero h = refl
run_same f g a (suc k) h = rw (h a (omega arith) (omega arith), run_same f g (suc a) k (λ i l u. h i (omega arith) (omega arith))) refl

run_on : (a k : ℕ) (s : List ℕ) → Within a s (a + k) → run (one (λ i. is_on i s)) a k ≡ s
unfolding run is_on
run_on a zero [] w = refl
run_on a zero (j ∷ s) w = absurd (none w.0 w.1)
  where
    none : a ≤ j → j < a + 0 → ⊥
    none h l = omega arith
run_on a (suc k) [] w = run_on (suc a) k [] tt
run_on a (suc k) (j ∷ s) w = go (ℕ_discrete a j) (λ v. run_on (suc a) k s v) (λ v. run_on (suc a) k (j ∷ s) v)
  where
    go : Dec (a ≡ j) → (Within (suc a) s (suc a + k) → run (one (λ i. is_on i s)) (suc a) k ≡ s) → (Within (suc a) (j ∷ s) (suc a + k) → run (one (λ i. is_on i (j ∷ s))) (suc a) k ≡ j ∷ s)
        → one (λ i. is_on i (j ∷ s)) a ++ run (one (λ i. is_on i (j ∷ s))) (suc a) k ≡ j ∷ s
    go (yes e) f g =
        rw (eq-eqb a j e) (ap (λ (l : List ℕ). a ∷ l) (run_same (λ i. is_on i (j ∷ s)) (λ i. is_on i s) (suc a) k (λ i h l. rw (ne_eqb i j (λ q. apart h q e)) refl)
        ∙ f (within_cast s (omega arith) (omega arith) w.2)) ∙ ap (λ (i : ℕ). i ∷ s) e)
      where
        apart : {i : ℕ} → suc a ≤ i → i ≡ j → a ≡ j → ⊥
        apart h q e = omega arith
    go (no ne) f g = rw (ne_eqb a j ne, early_off a (j + 1) (a + suc k) s (let l = w.0 in omega arith) w.2) (g (let l = w.0 in omega arith, let l = w.1 in omega arith, within_cast s refl (omega arith) w.2))

pub picks_on : (s : List ℕ) (n : ℕ) → Within 0 s n → picks n (λ i. is_on i s) ≡ s
picks_on s n w = picks-run (λ i. is_on i s) n ∙ run_on 0 n s (within_cast s refl (omega arith) w)

pub picks_same : (f g : ℕ → Bool) (n : ℕ) → ((i : ℕ) → i < n → f i ≡ g i) → picks n f ≡ picks n g
picks_same f g n h = picks-run f n ∙ run_same f g 0 n (λ i l u. h i (omega arith)) ∙ sym (picks-run g n)

pub sum_within : (g : ℕ → ℕ) (s : List ℕ) (n : ℕ) → Within 0 s n → sum_of g s ≡ tally n (λ i. cond (is_on i s) (g i) 0)
sum_within g s n w = ap (sum_of g) (sym (picks_on s n w)) ∙ sum-picks g (λ i. is_on i s) n
