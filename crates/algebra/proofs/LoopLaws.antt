-- What a loop wants of `any`, `every`, `first`, `fold`, `tally` and `tabulate`: where it begins, one turn more, where it ends; and laws of `any_of` and `sum_of`.
--
--   last, or_parts, and_parts                a number below suc n; what two tests joined say of each
--   or_swap, or_swap_first                   tests joined in another order
--   any_none, go_on_lem, found, none             a loop that looks for one that passes
--   every_none, every_on, every_broken, every_end   a loop that looks for one that does not pass
--   first_none, first_on, first_found, first_end    a loop that looks for the first that passes
--   from_most, from_is                       the first from a number on
--   from_empty, from_lone_none, from_lone    by the first of all, and the first behind it: none passes, and exactly one does
--   Found f n P i                            a loop that goes from one that passes f to the next stands at i: below n, i passes and P is so up to i; past it, P is so up to n
--   found_on, found_less                     it goes on from a number where P is so, over those that do not pass and leave P as it is; then less is left
--   fold_none, fold_more, fold_end           a loop that builds a value
--   tally_none, tally_more, tally_end        a loop that counts
--   tally-turn                               where only what passes a test is counted, one term more
--   tally_same, tally-add, tally-zero        sums of functions that agree, of two functions, of none
--   tally_single, tally_below                a sum with a term at one place only; a bound for each term
--   length-tabulate, get_d_tabulate           how long a table is, and what stands at a place of it
--   tabulate_in, tabulate_out                what is in it; `tabulate_apart`: its members are different where the function's values are
--   tabulate-first                           its first member and the others
--   tabulate_same                            tables of functions that agree below the bound
--   any_of_places, sum_places                 `any_of` and `sum_of` over a list by its places
--   fill_none, fill_more, fill_end           a loop that fills an array with a table, from l₀ on
--   any_some, any_no, every_at               one that passes; a number where none passes, where each does
--   reflects_test                            a test decides that it holds
--   reflects-any, reflects-every             `any` and `every` decide that some number below the bound, that each of them has the property
--   reflects_alone, reflects_lone            no number but one passes; exactly one does, of those below the bound
--   any_same, every_same                     tests that agree below the bound
--   any_last, any-add                        a bound in two parts
--   every-not                                none passes where every one does not
--   reflects-any_of, any_of-map                `any_of` decides that some member of a list has the property; over a mapped list
--   sum-map, sum-append, sum_same            `sum_of` over a mapped list, over two lists joined, of functions that agree on the list
--   sum-picks, any_of-picks                   `sum_of` over the numbers that pass is a `tally`; `any_of` over them is an `any`
--   tally_some, tally_lone                   some number is counted; no other one than one that is
--   first_passes, first_least                what `first` finds
use mathlib.Core.Path.{◌≡◌, refl, sym, ◌∙◌, ap, subst}
use mathlib.Core.Bool.{Bool, true, false, cond, not, ◌||◌, ◌&&◌, true≢false, or-true, or-false, or_assoc}
use mathlib.Core.Logic.{◌⊎◌, inl, inr, ⊎_elim}
use mathlib.Core.List.Memᴰ
use mathlib.Core.List.{List, [], ◌∷◌, ◌++◌, map, append_assoc, append-nil, Memᴰ}
use Prim.Native.Nat.{ℕ, zero, suc, ◌+◌, ◌*◌, ◌-◌, ◌<◌, ◌≤◌}
use native.Mathlib.Omega.{arith}
use native.Mathlib.Numerals.{add-one}
use native.Mathlib.Decide.{dec_lt, ℕ_discrete}
use native.Mathlib.Nat.{not-suc-le-zero}
use lib.Dec.{ltb, leb, eqb}
use lib.ListN.{length, get_or, drop, set, length-append, drop_of_length-le, get_or-append}
use lib.Seq.{ext_get_or, drop-cons, set_at, get_or_at}
use borrow.Author.Tests.{leb-true, lt-ltb, le-ltb, le-leb, lt-leb, eq-eqb, ne_eqb}
use Rattle.algebra.specs.Answer.{Reflects, holds, fails}
use Rattle.algebra.specs.Loops.{any, every, any_of, first, first_from, fold, tally, sum_of, picks, tabulate}
use Rattle.algebra.proofs.ListLaws.{Apart, Other, apart-append}
use Rattle.algebra.proofs.AnswerLaws.{reflects_by, reflects_yes, reflects_no, reflects_true, reflects_false, reflects_agree, reflects_stable, reflects_iff, reflects-not, reflects-or, reflects-and, reflects_ltb, reflects_eqb}

-- below suc n: below n, or n itself
pub last : (i n : ℕ) → i < suc n → (i < n) ⊎ (i ≡ n)
last i n h = go (dec_lt i n)
  where
    go : Dec (i < n) → (i < n) ⊎ (i ≡ n)
    go (yes k) = inl k
    go (no k) = inr (omega arith)

at_end : {A : Type 0} (f : ℕ → A) (i n : ℕ) {x : A} → i ≤ n → n ≤ i → x ≡ f i → x ≡ f n
at_end f i n h k p = p ∙ ap f (let e : i ≡ n = omega arith in e)

-- ---- any

or_no : (a b : Bool) → a ≡ false → b ≡ false → (a || b) ≡ false
or_no true b p q = p
or_no false b p q = q

or_left : (a b : Bool) → a ≡ true → (a || b) ≡ true
or_left true b p = refl
or_left false b p = cc

or_right : (a b : Bool) → b ≡ true → (a || b) ≡ true
or_right true b p = refl
or_right false b p = p

-- neither of two tests holds
pub or_parts : (a b : Bool) → (a || b) ≡ false → (a ≡ false) × (b ≡ false)
or_parts true b p = (p, cc)
or_parts false b p = (refl, p)

pub or_swap : (a b : Bool) → (a || b) ≡ (b || a)
or_swap true true = refl
or_swap true false = refl
or_swap false true = refl
or_swap false false = refl

pub or_swap_first : (a b c : Bool) → (a || (b || c)) ≡ (b || (a || c))
or_swap_first true true c = refl
or_swap_first true false c = refl
or_swap_first false true c = refl
or_swap_first false false c = refl

module _ (f : ℕ → Bool) where
  pub any_none : any 0 f ≡ false
  unfolding any
  any_none = refl

  any_yes : (n i : ℕ) → i < n → f i ≡ true → any n f ≡ true
  unfolding any
  any_yes zero i h p = absurd (not-suc-le-zero h)
  any_yes (suc n) i h p = ⊎_elim (λ k. or_left (any n f) (f n) (any_yes n i k p)) (λ e. or_right (any n f) (f n) (ap f (sym e) ∙ p)) (last i n h)

  pub any_no : (n i : ℕ) → any n f ≡ false → i < n → f i ≡ false
  unfolding any
  any_no zero i p h = absurd (not-suc-le-zero h)
  any_no (suc n) i p h = ⊎_elim (λ k. any_no n i (or_parts (any n f) (f n) p).0 k) (λ e. ap f e ∙ (or_parts (any n f) (f n) p).1) (last i n h)

  -- one that passes, where `any` says so
  pub any_some : (n : ℕ) → any n f ≡ true → (i : ℕ) × (i < n) × (f i ≡ true)
  unfolding any
  any_some zero p = absurd (clash p)
    where
      clash : ◌≡◌ {A = Bool} false true → ⊥
      clash e = let z : ◌≡◌ {A = ℕ} 0 1 = cc in omega arith
  any_some (suc n) p = go (any n f) refl (any_some n)
    where
      go : (b : Bool) → any n f ≡ b → (any n f ≡ true → (i : ℕ) × (i < n) × (f i ≡ true)) → (i : ℕ) × (i < suc n) × (f i ≡ true)
      go true e ih = let r = ih e in (r.0, up r.1, r.2)
        where
          up : {i : ℕ} → i < n → i < suc n
          up l = omega arith
      go false e ih = (n, omega arith, rw e at p)

  -- `p : r ≡ f i` is what the callee says of its answer
  pub found : (n i : ℕ) {r : Bool} → i < n → r ≡ f i → r ≡ true → true ≡ any n f
  found n i h p t = sym (any_yes n i h (sym p ∙ t))

  pub go_on_lem : (i : ℕ) {r : Bool} → any i f ≡ false → r ≡ f i → r ≡ false → any (i + 1) f ≡ false
  unfolding any
  go_on_lem i q p t = rw add-one (or_no (any i f) (f i) q (sym p ∙ t))

  pub none : (n i : ℕ) → i ≤ n → n ≤ i → any i f ≡ false → false ≡ any n f
  none n i h k q = at_end (λ m. any m f) i n h k (sym q)

pub reflects-any : (P : ℕ → Type 0) (f : ℕ → Bool) (n : ℕ) → ((i : ℕ) → i < n → Reflects (P i) (f i)) → Reflects ((i : ℕ) × (i < n) × P i) (any n f)
reflects-any P f n h = reflects_by (any n f) (λ e. let r = any_some f n e in (r.0, r.1, reflects_yes (h r.0 r.1) r.2))
    (λ e r. reflects_no (h r.0 r.1) (any_no f n r.0 e r.1) r.2)

pub any_last : (f : ℕ → Bool) (n : ℕ) → any (suc n) f ≡ (any n f || f n)
unfolding any
any_last f n = refl

-- the first m, then n more
pub any-add : (f : ℕ → Bool) (m n : ℕ) → any (m + n) f ≡ (any m f || any n (λ i. f (m + i)))
unfolding any
any-add f m zero = ap (λ (k : ℕ). any k f) (let e : m + 0 ≡ m = omega arith in e) ∙ sym (or-false (any m f))
any-add f m (suc n) =
    ap (λ (k : ℕ). any k f) (let e : m + suc n ≡ suc (m + n) = omega arith in e) ∙ ap (λ (b : Bool). b || f (m + n)) (any-add f m n)
    ∙ or_assoc (any m f) (any n (λ i. f (m + i))) (f (m + n))

pub any_same : (f g : ℕ → Bool) (n : ℕ) → ((i : ℕ) → i < n → f i ≡ g i) → any n f ≡ any n g
unfolding any
any_same f g zero h = refl
any_same f g (suc n) h = rw (any_same f g n (λ i l. h i (omega arith)), h n (omega arith)) refl

-- ---- every

and_yes : (a b : Bool) → a ≡ true → b ≡ true → (a && b) ≡ true
and_yes true b p q = q
and_yes false b p q = p

-- both of two tests hold
pub and_parts : (a b : Bool) → (a && b) ≡ true → (a ≡ true) × (b ≡ true)
and_parts true b p = (refl, p)
and_parts false b p = (p, cc)

module _ (f : ℕ → Bool) where
  pub every_none : every 0 f ≡ true
  unfolding every
  every_none = refl

  every_yes : (n : ℕ) → ((i : ℕ) → i < n → f i ≡ true) → every n f ≡ true
  unfolding every
  every_yes zero h = refl
  every_yes (suc n) h = and_yes (every n f) (f n) (every_yes n (λ i l. h i (omega arith))) (h n (omega arith))

  pub every_at : (n i : ℕ) → every n f ≡ true → i < n → f i ≡ true
  unfolding every
  every_at zero i p h = absurd (not-suc-le-zero h)
  every_at (suc n) i p h = ⊎_elim (λ k. every_at n i (and_parts (every n f) (f n) p).0 k) (λ e. ap f e ∙ (and_parts (every n f) (f n) p).1) (last i n h)

  -- `p : r ≡ f i` is what the callee says of its answer
  pub every_broken : (n i : ℕ) {r : Bool} → i < n → r ≡ f i → r ≡ false → false ≡ every n f
  every_broken n i h p t = go (every n f) refl
    where
      go : (b : Bool) → every n f ≡ b → false ≡ b
      go true e = sym t ∙ p ∙ every_at n i e h
      go false e = refl

  pub every_on : (i : ℕ) {r : Bool} → every i f ≡ true → r ≡ f i → r ≡ true → every (i + 1) f ≡ true
  unfolding every
  every_on i q p t = rw add-one (and_yes (every i f) (f i) q (sym p ∙ t))

  pub every_end : (n i : ℕ) → i ≤ n → n ≤ i → every i f ≡ true → true ≡ every n f
  every_end n i h k q = at_end (λ m. every m f) i n h k (sym q)

pub every_same : (f g : ℕ → Bool) (n : ℕ) → ((i : ℕ) → i < n → f i ≡ g i) → every n f ≡ every n g
unfolding every
every_same f g zero h = refl
every_same f g (suc n) h = rw (every_same f g n (λ i l. h i (omega arith)), h n (omega arith)) refl

pub every-not : (f : ℕ → Bool) (n : ℕ) → every n (λ i. not (f i)) ≡ not (any n f)
unfolding every any
every-not f zero = refl
every-not f (suc n) = ap (λ (b : Bool). b && not (f n)) (every-not f n) ∙ neither (any n f) (f n)
  where
    neither : (a b : Bool) → (not a && not b) ≡ not (a || b)
    neither true b = refl
    neither false b = refl

pub reflects-every : (P : ℕ → Type 0) (f : ℕ → Bool) (n : ℕ) → ((i : ℕ) → i < n → Reflects (P i) (f i)) → Reflects ((i : ℕ) → i < n → P i) (every n f)
reflects-every P f n h = reflects_by (every n f) (λ e i l. reflects_yes (h i l) (every_at f n i e l)) (λ e p. true≢false (sym (every_yes f n (λ i l. reflects_true (h i l) (p i l))) ∙ e))

-- ---- exactly one

pub reflects_test : (b : Bool) → Reflects (b ≡ true) b
reflects_test true = holds refl
reflects_test false = fails (λ e. true≢false (sym e))

-- no other one
pub reflects_alone : (f : ℕ → Bool) (n j : ℕ) → Reflects ((i : ℕ) → i < n → f i ≡ true → i ≡ j) (not (any n (λ i. not (eqb i j) && f i)))
reflects_alone f n j = reflects_iff (λ h i l e. reflects_stable (reflects_eqb i j) (λ q. h (i, l, (q, e))), λ h r. r.2.0 (h r.0 r.1 r.2.1))
    (reflects-not (reflects-any (λ i. (i ≡ j → ⊥) × (f i ≡ true)) (λ i. not (eqb i j) && f i) n (λ i l. reflects-and (reflects-not (reflects_eqb i j)) (reflects_test (f i)))))

pub reflects_lone : (f : ℕ → Bool) (n : ℕ)
    → Reflects ((j : ℕ) × (j < n) × (f j ≡ true) × ((i : ℕ) → i < n → f i ≡ true → i ≡ j)) (any n (λ j. f j && not (any n (λ i. not (eqb i j) && f i))))
reflects_lone f n = reflects_iff (λ r. (r.0, r.1, r.2.0, r.2.1), λ r. (r.0, r.1, (r.2, r.3)))
    (reflects-any (λ j. (f j ≡ true) × ((i : ℕ) → i < n → f i ≡ true → i ≡ j)) (λ j. f j && not (any n (λ i. not (eqb i j) && f i))) n (λ j l. reflects-and (reflects_test (f j)) (reflects_alone f n j)))

-- ---- lists

pub reflects-any_of : {A : Type 0} (P : A → Type 0) (f : A → Bool) (xs : List A) → ((x : A) → Memᴰ x xs → Reflects (P x) (f x)) → Reflects ((x : A) × Memᴰ x xs × P x) (any_of f xs)
unfolding any_of
reflects-any_of P f [] h = fails (λ r. Memᴰ.not-nil r.1)
reflects-any_of {A} P f (x ∷ xs) h = reflects_iff (into, out) (reflects-or (h x (Memᴰ.head refl)) (reflects-any_of P f xs (λ y m. h y (Memᴰ.tail m))))
  where
    into : P x ⊎ ((y : A) × Memᴰ y xs × P y) → (y : A) × Memᴰ y (x ∷ xs) × P y
    into (inl p) = (x, Memᴰ.head refl, p)
    into (inr r) = (r.0, Memᴰ.tail r.1, r.2)

    out : (y : A) × Memᴰ y (x ∷ xs) × P y → P x ⊎ ((y : A) × Memᴰ y xs × P y)
    out r = ⊎_elim (λ e. inl (subst P e r.2)) (λ m. inr (r.0, m, r.2)) (Memᴰ.cases_cons r.1)

any_of-append : {A : Type 0} (f : A → Bool) (xs ys : List A) → any_of f (xs ++ ys) ≡ (any_of f xs || any_of f ys)
unfolding any_of
any_of-append f [] ys = refl
any_of-append f (x ∷ xs) ys = ap (λ (b : Bool). f x || b) (any_of-append f xs ys) ∙ sym (or_assoc (f x) (any_of f xs) (any_of f ys))

pub any_of-map : {A B : Type 0} (f : B → Bool) (g : A → B) (xs : List A) → any_of f (map g xs) ≡ any_of (λ x. f (g x)) xs
unfolding any_of
any_of-map f g [] = refl
any_of-map f g (x ∷ xs) = ap (λ (b : Bool). f (g x) || b) (any_of-map f g xs)

pub sum-map : {A B : Type 0} (f : B → ℕ) (g : A → B) (xs : List A) → sum_of f (map g xs) ≡ sum_of (λ x. f (g x)) xs
sum-map f g [] = refl
sum-map f g (x ∷ xs) = ap (λ (k : ℕ). f (g x) + k) (sum-map f g xs)

pub sum-append : {A : Type 0} (f : A → ℕ) (xs ys : List A) → sum_of f (xs ++ ys) ≡ sum_of f xs + sum_of f ys
sum-append f [] ys = omega arith
sum-append f (x ∷ xs) ys = omega (arith, sum-append f xs ys)

pub sum_same : {A : Type 0} (f g : A → ℕ) (xs : List A) → ((x : A) → Memᴰ x xs → f x ≡ g x) → sum_of f xs ≡ sum_of g xs
sum_same f g [] h = refl
sum_same f g (x ∷ xs) h = rw (h x (Memᴰ.head refl), sum_same f g xs (λ y m. h y (Memᴰ.tail m))) refl

pub sum-picks : (g : ℕ → ℕ) (f : ℕ → Bool) (n : ℕ) → sum_of g (picks n f) ≡ tally n (λ i. cond (f i) (g i) 0)
unfolding picks tally
sum-picks g f zero = refl
sum-picks g f (suc n) = sum-append g (picks n f) (cond (f n) (n ∷ []) []) ∙ (λ k. sum-picks g f n k + one (f n) k)
  where
    one : (b : Bool) → sum_of g (cond b (n ∷ []) []) ≡ cond b (g n) 0
    one true = omega arith
    one false = refl

pub any_of-picks : (g f : ℕ → Bool) (n : ℕ) → any_of g (picks n f) ≡ any n (λ i. f i && g i)
unfolding picks any any_of
any_of-picks g f zero = refl
any_of-picks g f (suc n) = any_of-append g (picks n f) (cond (f n) (n ∷ []) []) ∙ (λ k. any_of-picks g f n k || one (f n) k)
  where
    one : (b : Bool) → any_of g (cond b (n ∷ []) []) ≡ (b && g n)
    one true = or-false (g n)
    one false = refl

-- ---- first

module _ (f : ℕ → Bool) where
  first_low : (n : ℕ) → first n f ≤ n
  unfolding first
  first_low zero = omega arith
  first_low (suc n) = go (ltb (first n f) n) (f n) (first_low n)
    where
      go : (a b : Bool) → first n f ≤ n → cond a (first n f) (cond b n (suc n)) ≤ suc n
      go true b h = omega arith
      go false true h = omega arith
      go false false h = omega arith

  pub first_none : first 0 f ≡ 0
  unfolding first
  first_none = refl

  pub first_on : (i : ℕ) {r : Bool} → first i f ≡ i → r ≡ f i → r ≡ false → first (i + 1) f ≡ i + 1
  unfolding first
  first_on i q p t = rw (add-one, le-ltb (first i f) i (omega arith), sym p ∙ t) refl

  first_keeps : (i : ℕ) → first i f < i → first (suc i) f ≡ first i f
  unfolding first
  first_keeps i h = rw (lt-ltb (first i f) i h) refl

  pub first_found : (n i : ℕ) {r : Bool} → i < n → first i f ≡ i → r ≡ f i → r ≡ true → i ≡ first n f
  unfolding first
  first_found zero i h q p t = absurd (not-suc-le-zero h)
  first_found (suc n) i h q p t = ⊎_elim (λ k. later k (first_found n i k q p t)) here (last i n h)
    where
      later : i < n → i ≡ first n f → i ≡ first (suc n) f
      later k e = e ∙ sym (first_keeps n (subst (λ (m : ℕ). m < n) e k))

      here : i ≡ n → i ≡ first (suc n) f
      here e = subst (λ (m : ℕ). i ≡ first (suc m) f) e (sym (rw (le-ltb (first i f) i (omega arith), sym p ∙ t) refl))

  pub first_end : (n i : ℕ) → i ≤ n → n ≤ i → first i f ≡ i → i ≡ first n f
  first_end n i h k q = at_end (λ m. first m f) i n h k (sym q)

  -- what it finds passes, and nothing before it does
  pub first_passes : (n : ℕ) → first n f < n → f (first n f) ≡ true
  unfolding first
  first_passes zero h = absurd (not-suc-le-zero h)
  first_passes (suc n) h = go (dec_lt (first n f) n) (f n) refl (first_passes n)
    where
      go : Dec (first n f < n) → (b : Bool) → f n ≡ b → (first n f < n → f (first n f) ≡ true) → f (first (suc n) f) ≡ true
      go (yes k) b e ih = ap f (first_keeps n k) ∙ ih k
      go (no k) true e ih = rw (le-ltb (first n f) n (omega arith), e) e
      go (no k) false e ih = absurd (clash (rw (le-ltb (first n f) n (omega arith), e) at h))
        where
          clash : suc n < suc n → ⊥
          clash l = omega arith

  pub first_least : (n i : ℕ) → i < first n f → f i ≡ false
  unfolding first
  first_least zero i h = absurd (not-suc-le-zero h)
  first_least (suc n) i h = go (dec_lt (first n f) n) (f n) refl (first_least n i)
    where
      go : Dec (first n f < n) → (b : Bool) → f n ≡ b → (i < first n f → f i ≡ false) → f i ≡ false
      go (yes k) b e ih = ih (subst (λ (m : ℕ). i < m) (first_keeps n k) h)
      go (no k) true e ih = ih (let l = rw (le-ltb (first n f) n (omega arith), e) at h in let m = first_low n in omega arith)
      go (no k) false e ih = ⊎_elim (λ l. ih (let m = first_low n in omega arith)) (λ q. ap f q ∙ e) (last i n (rw (le-ltb (first n f) n (omega arith), e) at h))

  first_past : (n : ℕ) → ((i : ℕ) → i < n → f i ≡ false) → first n f ≡ n
  unfolding first
  first_past zero h = refl
  first_past (suc n) h = let e = first_past n (λ i l. h i (omega arith)) in rw (le-ltb (first n f) n (omega arith), h n (omega arith)) refl

module _ (f : ℕ → Bool) (a n : ℕ) where
  abbrev late : ℕ → Bool
  late i = leb a i && f i

  from_passes : first_from a n f < n → f (first_from a n f) ≡ true
  unfolding first_from
  from_passes h = (and_parts (leb a (first_from a n f)) (f (first_from a n f)) (first_passes late n h)).1

  pub from_most : first_from a n f ≤ n
  unfolding first_from
  from_most = first_low late n

  from_low : a ≤ n → a ≤ first_from a n f
  unfolding first_from
  from_low h = go (dec_lt (first_from a n f) n)
    where
      go : Dec (first_from a n f < n) → a ≤ first_from a n f
      go (yes l) = leb-true a (first_from a n f) (and_parts (leb a (first_from a n f)) (f (first_from a n f)) (first_passes late n l)).0
      go (no l) = omega arith

  from_none : (i : ℕ) → a ≤ i → i < first_from a n f → f i ≡ false
  unfolding first_from
  from_none i h l = ap (λ (b : Bool). b && f i) (sym (le-leb a i h)) ∙ first_least late n i l

  pub from_is : (i : ℕ) → i ≤ n → ((j : ℕ) → a ≤ j → j < i → f j ≡ false) → (i < n → (a ≤ i) × (f i ≡ true)) → i ≡ first_from a n f
  unfolding first_from
  from_is i h none here = go (dec_lt i n)
    where
      early : (j : ℕ) → Dec (j < a) → j < i → late j ≡ false
      early j (yes l) u = ap (λ (b : Bool). b && f j) (lt-leb a j l)
      early j (no l) u = ap (λ (b : Bool). b && f j) (le-leb a j (omega arith)) ∙ none j (omega arith) u

      past : first i late ≡ i
      past = first_past late i (λ j l. early j (dec_lt j a) l)

      go : Dec (i < n) → i ≡ first n late
      go (yes l) = let e = here l in first_found late n i l past refl (ap (λ (b : Bool). b && f i) (le-leb a i e.0) ∙ e.1)
      go (no l) = first_end late n i h (omega arith) past

-- the first of all that pass, and the first behind it
module _ (f : ℕ → Bool) (n : ℕ) {r : ℕ} (e : r ≡ first_from 0 n f) where
  before-first : (i : ℕ) → i < r → f i ≡ false
  before-first i l = from_none f 0 n i (omega arith) (omega arith)

  at_first_lem : r < n → f r ≡ true
  at_first_lem l = ap f e ∙ from_passes f 0 n (omega arith)

  pub from_empty : eqb r n ≡ not (any n f)
  from_empty =
      reflects_agree (reflects_iff (λ z m. true≢false (sym m.2 ∙ before-first m.0 (let l = m.1 in omega arith)), λ h. none h (dec_lt r n)) (reflects_eqb r n))
      (reflects-not (reflects-any (λ i. f i ≡ true) f n (λ i l. reflects_test (f i))))
    where
      none : ((i : ℕ) × (i < n) × (f i ≡ true) → ⊥) → Dec (r < n) → r ≡ n
      none h (yes l) = absurd (h (r, l, at_first_lem l))
      none h (no l) = omega (arith, from_most f 0 n)

  pub from_lone_none : r ≡ n → false ≡ any n (λ j. f j && not (any n (λ i. not (eqb i j) && f i)))
  from_lone_none z = sym (reflects_false (reflects_lone f n) (λ m. true≢false (sym m.2 ∙ before-first m.0 (let l = m.1 in omega arith))))

  pub from_lone : {q : ℕ} → (r ≡ n → ⊥) → q ≡ first_from (r + 1) n f → eqb q n ≡ any n (λ j. f j && not (any n (λ i. not (eqb i j) && f i)))
  from_lone {q} ne g = reflects_agree (reflects_iff (λ z. (r, low, at_first_lem low, λ i l t. only z i l t (dec_lt i r) (dec_lt r i)), λ m. last_one m (dec_lt q n)) (reflects_eqb q n)) (reflects_lone f n)
    where
      low : r < n
      low = let h = from_most f 0 n in omega arith

      only : q ≡ n → (i : ℕ) → i < n → f i ≡ true → Dec (i < r) → Dec (r < i) → i ≡ r
      only z i l t (yes u) v = absurd (true≢false (sym t ∙ before-first i u))
      only z i l t (no u) (yes v) = absurd (true≢false (sym t ∙ from_none f (r + 1) n i (omega arith) (omega arith)))
      only z i l t (no u) (no v) = omega arith

      last_one : (j : ℕ) × (j < n) × (f j ≡ true) × ((i : ℕ) → i < n → f i ≡ true → i ≡ j) → Dec (q < n) → q ≡ n
      last_one m (yes l) =
          let h = from_low f (r + 1) n (omega (arith, low)) in
          let x = m.3 r low (at_first_lem low) in
          let y = m.3 q l (ap f g ∙ from_passes f (r + 1) n (omega arith)) in
          absurd (omega arith)
      last_one m (no l) = let h = from_most f (r + 1) n in omega arith

-- a loop that goes from one that passes to the next, among the numbers below n; it looks as far as m
abbrev pub Found : (ℕ → Bool) → ℕ → (ℕ → Type 0) → ℕ → Type 0
Found f n P i = (i < n → (f i ≡ true) × P i) × (n ≤ i → P n)

module _ (f : ℕ → Bool) (n m : ℕ) (h : n ≤ m) where
  pub found_on : (P : ℕ → Type 0) (a : ℕ) {i : ℕ} → ((j : ℕ) → j < n → f j ≡ false → P j → P (j + 1)) → a ≤ n → P a → i ≡ first_from a m f → Found f n P i
  found_on P a on l p e =
      subst (Found f n P) (sym e)
      (λ u. (from_passes f a m (omega arith), to (first_from a m f) (from_low f a m (omega arith)) (omega arith) (omega arith)), λ u. to n l (omega arith) u)
    where
      step : (d : ℕ) → a + d ≤ n → a + d ≤ first_from a m f → P (a + d)
      step zero u v = subst P (let z : a ≡ a + 0 = omega arith in z) p
      step (suc d) u v = subst P (let z : a + d + 1 ≡ a + suc d = omega arith in z) (on (a + d) (omega arith) (from_none f a m (a + d) (omega arith) (omega arith)) (step d (omega arith) (omega arith)))

      to : (i : ℕ) → a ≤ i → i ≤ n → i ≤ first_from a m f → P i
      to i u v w = subst P (let z : a + (i - a) ≡ i = omega arith in z) (step (i - a) (omega arith) (omega arith))

  pub found_less : (i : ℕ) {j : ℕ} → i < n → j ≡ first_from (i + 1) m f → n - j < n - i
  found_less i l e = let z = from_low f (i + 1) m (omega arith) in omega arith

-- ---- fold

module _ {A : Type 0} (f : ℕ → A → A) (a : A) where
  pub fold_none : a ≡ fold f a 0
  unfolding fold
  fold_none = refl

  pub fold_more : (n : ℕ) {b c : A} → b ≡ fold f a n → c ≡ f n b → c ≡ fold f a (n + 1)
  unfolding fold
  fold_more n p q = q ∙ ap (f n) p ∙ rw add-one refl

  pub fold_end : (n m : ℕ) {b : A} → n ≤ m → m ≤ n → b ≡ fold f a n → b ≡ fold f a m
  fold_end n m h k p = at_end (fold f a) n m h k p

-- ---- tally

module _ (f : ℕ → ℕ) where
  pub tally_none : 0 ≡ tally 0 f
  unfolding tally
  tally_none = refl

  pub tally_more : (n : ℕ) {b c : ℕ} → b ≡ tally n f → c ≡ b + f n → c ≡ tally (n + 1) f
  unfolding tally
  tally_more n p q = q ∙ ap (λ x. x + f n) p ∙ rw add-one refl

  pub tally_end : (n m : ℕ) {b : ℕ} → n ≤ m → m ≤ n → b ≡ tally n f → b ≡ tally m f
  tally_end n m h k p = at_end (λ x. tally x f) n m h k p

  pub tally_below : (n k : ℕ) → ((i : ℕ) → i < n → f i ≤ k) → tally n f ≤ n * k
  unfolding tally
  tally_below zero k h = omega arith
  tally_below (suc n) k h = let a = tally_below n k (λ i l. h i (omega arith)) in let b = h n (omega arith) in omega arith

pub tally-turn : (f : ℕ → Bool) (g : ℕ → ℕ) (r : ℕ) {s s' : ℕ} {b : Bool}
    → s ≡ tally r (λ i. cond (f i) (g i) 0) → f r ≡ b → s' ≡ s + cond b (g r) 0 → s' ≡ tally (r + 1) (λ i. cond (f i) (g i) 0)
tally-turn f g r {s} e m p = tally_more (λ i. cond (f i) (g i) 0) r e (p ∙ ap (λ (b : Bool). s + cond b (g r) 0) (sym m))

pub tally_same : (f g : ℕ → ℕ) (n : ℕ) → ((i : ℕ) → i < n → f i ≡ g i) → tally n f ≡ tally n g
unfolding tally
tally_same f g zero h = refl
tally_same f g (suc n) h = rw (tally_same f g n (λ i l. h i (omega arith)), h n (omega arith)) refl

pub tally-add : (f g : ℕ → ℕ) (n : ℕ) → tally n (λ i. f i + g i) ≡ tally n f + tally n g
unfolding tally
tally-add f g zero = refl
tally-add f g (suc n) = let e = tally-add f g n in omega arith

pub tally-zero : (f : ℕ → ℕ) (n : ℕ) → ((i : ℕ) → i < n → f i ≡ 0) → tally n f ≡ 0
unfolding tally
tally-zero f zero h = refl
tally-zero f (suc n) h = rw (tally-zero f n (λ i l. h i (omega arith)), h n (omega arith)) refl

-- what passes a test is counted
module _ (f : ℕ → Bool) where
  abbrev one : ℕ → ℕ
  one i = cond (f i) 1 0

  pub tally_some : (n : ℕ) → ltb 0 (tally n one) ≡ any n f
  unfolding tally any
  tally_some zero = refl
  tally_some (suc n) = go (f n) (tally n one) (tally_some n)
    where
      go : (b : Bool) (t : ℕ) → ltb 0 t ≡ any n f → ltb 0 (t + cond b 1 0) ≡ (any n f || b)
      go true t e = lt-ltb 0 (t + 1) (omega arith) ∙ sym (or-true (any n f))
      go false t e = ap (ltb 0) (let q : t + 0 ≡ t = omega arith in q) ∙ e ∙ sym (or-false (any n f))

-- only one place has a term
pub tally_single : (f : ℕ → ℕ) (n r : ℕ) → r < n → ((i : ℕ) → i < n → (i ≡ r → ⊥) → f i ≡ 0) → tally n f ≡ f r
unfolding tally
tally_single f zero r l h = absurd (not-suc-le-zero l)
tally_single f (suc n) r l h = ⊎_elim (λ k. before k (tally_single f n r k (λ i j ne. h i (omega arith) ne))) here (last r n l)
  where
    before : r < n → tally n f ≡ f r → tally n f + f n ≡ f r
    before k e = let z = h n (omega arith) (λ q. let j : n ≡ r = q in omega arith) in omega arith

    here : r ≡ n → tally n f + f n ≡ f r
    here e = let z = tally-zero f n (λ i j. h i (omega arith) (λ q. let u : i ≡ r = q in omega arith)) in let q = ap f e in omega arith

pub tally_lone : (f : ℕ → Bool) (n r : ℕ) → r < n → f r ≡ true → Reflects ((i : ℕ) → i < n → f i ≡ true → i ≡ r) (eqb (tally n (λ i. cond (f i) 1 0)) 1)
tally_lone f n r l e = rw (split, one_more) (reflects_iff (λ h i k q. reflects_stable (reflects_eqb i r) (λ ne. h (i, k, (q, ne))), λ h x. x.2.1 (h x.0 x.1 x.2.0)) others_decided)
  where
    others : ℕ → Bool
    others i = f i && not (eqb i r)

    here : ℕ → ℕ
    here i = cond (eqb i r) 1 0

    rest : ℕ
    rest = tally n (λ i. cond (others i) 1 0)

    apart : (i : ℕ) → Dec (i ≡ r) → cond (f i) 1 0 ≡ here i + cond (others i) 1 0
    apart i (yes q) = rw (eq-eqb i r q, q, e) refl
    apart i (no q) = rw (ne_eqb i r q) (go (f i))
      where
        go : (b : Bool) → ◌≡◌ {A = ℕ} (cond b 1 0) (0 + cond (b && true) 1 0)
        go true = refl
        go false = refl

    split : tally n (λ i. cond (f i) 1 0) ≡ rest + 1
    split =
        tally_same _ _ n (λ i k. apart i (ℕ_discrete i r)) ∙ tally-add here (λ i. cond (others i) 1 0) n
        ∙ ap (λ (t : ℕ). t + rest) (tally_single here n r l (λ i k ne. ap (λ (b : Bool). cond b 1 0) (ne_eqb i r ne)) ∙ ap (λ (b : Bool). cond b 1 0) (eq-eqb r r refl)) ∙ (let q : 1 + rest ≡ rest + 1 = omega arith in q)

    one_more : eqb (rest + 1) 1 ≡ not (any n others)
    one_more = reflects_agree {A = rest ≡ 0} (reflects_iff (λ (q : rest + 1 ≡ 1). omega arith, λ (q : rest ≡ 0). omega arith) (reflects_eqb (rest + 1) 1))
        (rw (sym (tally_some others n)) (reflects_iff (λ (q : 0 < rest → ⊥). omega arith, λ (q : rest ≡ 0) (k : 0 < rest). omega arith) (reflects-not (reflects_ltb 0 rest))))

    others_decided : Reflects ((i : ℕ) × (i < n) × ((f i ≡ true) × (i ≡ r → ⊥)) → ⊥) (not (any n others))
    others_decided = reflects-not (reflects-any (λ i. (f i ≡ true) × (i ≡ r → ⊥)) others n (λ i k. reflects-and (reflects_test (f i)) (reflects-not (reflects_eqb i r))))

-- ---- tabulate

module _ {A : Type 0} (f : ℕ → A) where
  pub length-tabulate : (n : ℕ) → length (tabulate n f) ≡ n
  unfolding tabulate
  length-tabulate zero = refl
  length-tabulate (suc n) = let e = length-append (tabulate n f) (f n ∷ []) in let h = length-tabulate n in omega arith

  pub get_d_tabulate : (n i : ℕ) (d : A) → i < n → get_or (tabulate n f) i d ≡ f i
  unfolding tabulate
  get_d_tabulate zero i d h = absurd (not-suc-le-zero h)
  get_d_tabulate (suc n) i d h =
      ⊎_elim (λ k. get_or-append (tabulate n f) (f n ∷ []) d i (rw (length-tabulate n) k) ∙ get_d_tabulate n i d k)
      (λ e. get_or_at (tabulate n f) (f n) [] d i (length-tabulate n ∙ sym e) ∙ ap f (sym e))
      (last i n h)

  pub tabulate_in : (n i : ℕ) → i < n → Memᴰ (f i) (tabulate n f)
  unfolding tabulate
  tabulate_in zero i h = absurd (not-suc-le-zero h)
  tabulate_in (suc n) i h = ⊎_elim (λ k. Memᴰ.append_left (f n ∷ []) (tabulate_in n i k)) (λ e. Memᴰ.append_right (tabulate n f) (Memᴰ.head (ap f e))) (last i n h)

  pub tabulate_out : (n : ℕ) {a : A} → Memᴰ a (tabulate n f) → (i : ℕ) × (i < n) × (a ≡ f i)
  unfolding tabulate
  tabulate_out zero m = absurd (Memᴰ.not-nil m)
  tabulate_out (suc n) m =
      ⊎_elim (λ k. let (i, l, e) = tabulate_out n k in (i, omega arith, e)) (λ k. (n, omega arith, Memᴰ.eq_of_singleton k)) (Memᴰ.append_cases (tabulate n f) m)

  pub tabulate_apart : ((i j : ℕ) → i < j → f i ≡ f j → ⊥) → (n : ℕ) → Apart Other (tabulate n f)
  unfolding tabulate
  tabulate_apart h zero = tt
  tabulate_apart h (suc n) =
      apart-append Other (tabulate n f) (f n ∷ []) (tabulate_apart h n) (λ y m. absurd (Memᴰ.not-nil m), tt)
      (λ x y m k e. let (i, l, q) = tabulate_out n m in h i n l (sym q ∙ e ∙ Memᴰ.eq_of_singleton k))

  pub tabulate_same : (g : ℕ → A) (n : ℕ) → ((i : ℕ) → i < n → f i ≡ g i) → tabulate n f ≡ tabulate n g
  unfolding tabulate
  tabulate_same g zero h = refl
  tabulate_same g (suc n) h = (λ k. tabulate_same g n (λ i l. h i (omega arith)) k ++ h n (omega arith) k ∷ [])

  pub fill_none : (l₀ : List A) → l₀ ≡ tabulate 0 f ++ drop 0 l₀
  unfolding tabulate
  fill_none l₀ = refl

  pub fill_more : (l₀ : List A) (n : ℕ) {l : List A} {v : A} → n < length l₀ → l ≡ tabulate n f ++ drop n l₀ → v ≡ f n → set l n v ≡ tabulate (n + 1) f ++ drop (n + 1) l₀
  unfolding tabulate
  fill_more l₀ n {l} {v} h p q =
      rw (add-one, p, q, drop-cons l₀ n v h)
      (set_at (tabulate n f) (get_or l₀ n v) (drop (suc n) l₀) (f n) n (length-tabulate n) ∙ sym (append_assoc (tabulate n f) (f n ∷ []) (drop (suc n) l₀)))

  pub fill_end : (l₀ : List A) (n m : ℕ) {l : List A} → length l₀ ≡ m → n ≤ m → m ≤ n → l ≡ tabulate n f ++ drop n l₀ → l ≡ tabulate m f
  fill_end l₀ n m {l} e h k p = at_end (λ x. tabulate x f) n m h k (p ∙ rw (drop_of_length-le l₀ {i = n} (omega arith)) (append-nil (tabulate n f)))

pub tabulate-first : {A : Type 0} (f : ℕ → A) (n : ℕ) → tabulate (suc n) f ≡ f 0 ∷ tabulate n (λ i. f (suc i))
unfolding tabulate
tabulate-first f zero = refl
tabulate-first {A} f (suc n) = ap (λ (xs : List A). xs ++ f (suc n) ∷ []) (tabulate-first f n)

-- ---- a list by its places

module _ {A : Type 0} (d : A) where
  tabulate_places : (xs : List A) → tabulate (length xs) (λ i. get_or xs i d) ≡ xs
  tabulate_places xs = ext_get_or d (tabulate (length xs) (λ i. get_or xs i d)) xs (length-tabulate (λ i. get_or xs i d) (length xs)) (λ i l. get_d_tabulate (λ i. get_or xs i d) (length xs) i d (subst (λ (k : ℕ). i < k) (length-tabulate (λ i. get_or xs i d) (length xs)) l))

  pub any_of_places : (f : A → Bool) (xs : List A) → any_of f xs ≡ any (length xs) (λ i. f (get_or xs i d))
  unfolding any_of any tabulate
  any_of_places f xs = ap (any_of f) (sym (tabulate_places xs)) ∙ go (λ i. get_or xs i d) (length xs)
    where
      go : (g : ℕ → A) (n : ℕ) → any_of f (tabulate n g) ≡ any n (λ i. f (g i))
      go g zero = refl
      go g (suc n) = any_of-append f (tabulate n g) (g n ∷ []) ∙ (λ k. go g n k || or-false (f (g n)) k)

  pub sum_places : (f : A → ℕ) (xs : List A) → sum_of f xs ≡ tally (length xs) (λ i. f (get_or xs i d))
  unfolding tally tabulate
  sum_places f xs = ap (sum_of f) (sym (tabulate_places xs)) ∙ go (λ i. get_or xs i d) (length xs)
    where
      go : (g : ℕ → A) (n : ℕ) → sum_of f (tabulate n g) ≡ tally n (λ i. f (g i))
      go g zero = refl
      go g (suc n) = sum-append f (tabulate n g) (g n ∷ []) ∙ (λ k. go g n k + (let q : f (g n) + 0 ≡ f (g n) = omega arith in q) k)
