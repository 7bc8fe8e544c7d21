-- What a chain over the numbers below n gives: in the words of the standard library it runs over the list of them, and that is `any`, `every`, `tally`, `tabulate` or `fold` of Loops.
--
--   upto n                     the numbers below n
--   upto_more                  the last one apart
--   any_upto, every_upto       some number passes, each does
--   count_upto, sum_upto       how many pass, what they sum up to
--   table_upto, fold_upto      a value for each, one value built from all
--   road_upto                  a range from 0 yields them
--   any_called, all_called     the answer of `any` or `all` over `0..n`, by what the closure computes
--   count_called               the answer of `count` behind `filter` over `0..n`
--   sum_called, sum_fits       the answer of `sum` behind `map` over `0..n`, and that it fits where the whole sum does
--   filled_called              the array that `from_fn` makes
--   any_places                 some member of a list passes
use mathlib.Core.Path.{◌≡◌, refl, sym, ◌∙◌, ap, subst}
use native.Mathlib.Decide.{dec_lt}
use mathlib.Core.Bool.{Bool, true, false, cond, ◌||◌, ◌&&◌}
use mathlib.Core.List.{List, [], ◌∷◌, ◌++◌, map}
use Prim.Native.Nat.{ℕ, zero, suc, ◌+◌, ◌<◌, ◌≤◌}
use native.Mathlib.Omega.{arith}
use lib.ListN.{length, length-append, get_or}
use denote.Param.Members.{Mut}
use Rattle.std.specs.Fn.{Called}
use Rattle.std.specs.Iterator.{YieldsThen, Drains}
use Rattle.std.specs.declared.option.Option.{Option}
use Rattle.std.specs.Option.{MatchOption}
use Rattle.std.specs.declared.ops.Range.{Range}
use Rattle.std.specs.List.{range_with_len, list_any, list_all, filter, fold, sum, sum_by, FoldsTo}
use Rattle.std.specs.Array.{IsFromFnResult, IsFromFnResultFrom}
use Rattle.std.proofs.iter.Yields.{nat_range_steps}
use Rattle.std.proofs.lemmas.Iterator.{YieldsList, YieldsList-from_range}
use Rattle.std.proofs.lemmas.Iterator.Search.{any_from_yields_List, all_from_yields_List}
use Rattle.std.specs.Bool.{⊤}
use Rattle.std.specs.Iterator.Runs.{EachRunFrom}
use Rattle.std.proofs.lemmas.Iterator.Consumers.{count_from_yields_List, sum_by_from_yields_List, fits_by_from_yields_list}
use Rattle.std.proofs.lemmas.List.{map-append, ext_get_or}
use Rattle.std.proofs.lemmas.List.Sums.{sum-map, sum_by-append}
use Rattle.std.proofs.lemmas.List.Folds.{list_any-append, list_all-append}
use Rattle.std.proofs.lemmas.List.Elements.{filter-append}
use Rattle.algebra.specs.Loops.{any, every, any_of, tally, tabulate}
use Rattle.algebra.proofs.LoopLaws.{length-tabulate, get_d_tabulate, any_of_places}

abbrev pub upto : ℕ → List ℕ
upto n = range_with_len 0 n

more : (a n : ℕ) → range_with_len a (suc n) ≡ range_with_len a n ++ (a + n) ∷ []
more a zero = ap (λ k. k ∷ []) (let e : a ≡ a + 0 = omega arith in e)
more a (suc n) = ap (λ xs. a ∷ xs) (more (a + 1) n ∙ ap (λ k. range_with_len (a + 1) n ++ k ∷ []) (let e : a + 1 + n ≡ a + suc n = omega arith in e))

pub upto_more : (n : ℕ) → upto (suc n) ≡ upto n ++ n ∷ []
upto_more n = more 0 n ∙ ap (λ k. range_with_len 0 n ++ k ∷ []) (let e : 0 + n ≡ n = omega arith in e)

or_last : (a b : Bool) → (a || (b || false)) ≡ (a || b)
or_last true b = refl
or_last false true = refl
or_last false false = refl

and_last : (a b : Bool) → (a && (b && true)) ≡ (a && b)
and_last false b = refl
and_last true true = refl
and_last true false = refl

pub any_upto : (f : ℕ → Bool) (n : ℕ) → list_any f (upto n) ≡ any n f
unfolding any
any_upto f zero = refl
any_upto f (suc n) = ap (list_any f) (upto_more n) ∙ list_any-append f (upto n) (n ∷ []) ∙ or_last (list_any f (upto n)) (f n) ∙ ap (λ b. b || f n) (any_upto f n)

pub every_upto : (f : ℕ → Bool) (n : ℕ) → list_all f (upto n) ≡ every n f
unfolding every
every_upto f zero = refl
every_upto f (suc n) = ap (list_all f) (upto_more n) ∙ list_all-append f (upto n) (n ∷ []) ∙ and_last (list_all f (upto n)) (f n) ∙ ap (λ b. b && f n) (every_upto f n)

one : (b : Bool) (n : ℕ) → length (cond b (n ∷ []) []) ≡ cond b 1 0
one true n = refl
one false n = refl

pub count_upto : (f : ℕ → Bool) (n : ℕ) → length (filter f (upto n)) ≡ tally n (λ i. cond (f i) 1 0)
unfolding tally
count_upto f zero = refl
count_upto f (suc n) =
    ap (λ xs. length (filter f xs)) (upto_more n)
    ∙ ap length (filter-append f (upto n) (n ∷ []))
    ∙ length-append (filter f (upto n)) (filter f (n ∷ []))
    ∙ ap (λ k. length (filter f (upto n)) + k) (one (f n) n)
    ∙ ap (λ k. k + cond (f n) 1 0) (count_upto f n)

pub table_upto : {X : Type 0} (f : ℕ → X) (n : ℕ) → map f (upto n) ≡ tabulate n f
unfolding tabulate
table_upto f zero = refl
table_upto f (suc n) = ap (map f) (upto_more n) ∙ map-append f (upto n) (n ∷ []) ∙ ap (λ xs. xs ++ f n ∷ []) (table_upto f n)

sum_by_upto : (f : ℕ → ℕ) (n : ℕ) → sum_by f (upto n) ≡ tally n f
unfolding tally
sum_by_upto f zero = refl
sum_by_upto f (suc n) =
    ap (sum_by f) (upto_more n)
    ∙ sum_by-append f (upto n) (n ∷ [])
    ∙ (let e : sum_by f (n ∷ []) ≡ f n = omega arith in ap (λ k. sum_by f (upto n) + k) e)
    ∙ ap (λ k. k + f n) (sum_by_upto f n)

pub sum_upto : (f : ℕ → ℕ) (n : ℕ) → sum (map f (upto n)) ≡ tally n f
sum_upto f n = sum-map f (upto n) ∙ sum_by_upto f n

-- ---- calls

pub road_upto : (n : ℕ) → {s : Range ℕ} → s ≡ record { start = 0; end = n } → YieldsList nat_range_steps (λ x. x) s (upto n)
road_upto n e = YieldsList-from_range 0 n n e (omega arith)

module _ {F : Type 0} {S : Type 0} {steps : S → Option ℕ → S → Type 0} {g : Mut F (ℕ × Unit {0}) Bool} {s : S} (test : ℕ → Bool) (n : ℕ) (u : S) (f : F) (r : Bool) where
  pub any_called :
      (xs : List ℕ) × (o : Option ℕ) × (j : F) × YieldsThen steps s xs o u × FoldsTo (λ p x q. Called g p (x, tt) false q) f xs j × MatchOption o (r ≡ false) (λ x. (r ≡ true) × ((h : F) × Called g j (x, tt) true h))
      → YieldsList steps (λ x. x) s (upto n)
      → ((x : ℕ) (b : Bool) (q : F) → Called g f (x, tt) b q → (q ≡ f) × (b ≡ test x))
      → r ≡ any n test
  any_called ran road is = any_from_yields_List test u f r ran road is ∙ any_upto test n

  pub all_called :
      (xs : List ℕ) × (o : Option ℕ) × (j : F) × YieldsThen steps s xs o u × FoldsTo (λ p x q. Called g p (x, tt) true q) f xs j × MatchOption o (r ≡ true) (λ x. (r ≡ false) × ((h : F) × Called g j (x, tt) false h))
      → YieldsList steps (λ x. x) s (upto n)
      → ((x : ℕ) (b : Bool) (q : F) → Called g f (x, tt) b q → (q ≡ f) × (b ≡ test x))
      → r ≡ every n test
  all_called ran road is = all_from_yields_List test u f r ran road is ∙ every_upto test n

-- the array that `from_fn` makes, by what its closure computes
pub filled_called :
    {F B : Type 0} (g : Mut F (ℕ × Unit {0}) B) (h : ℕ → B) {f : F} {ys : List B} (n : ℕ) (d : B)
    → IsFromFnResult g f ys n
    → ((i : ℕ) (y : B) (q : F) → i < n → Called g f (i, tt) y q → (q ≡ f) × (y ≡ h i))
    → ys ≡ tabulate n h
filled_called {F} {B} g h {f} {ys} n d made is =
    ext_get_or d ys (tabulate n h) (made.long ∙ sym (length-tabulate h n)) (λ i k. let l : i < n = omega (arith, k, made.long) in each 0 n f refl made.each i (omega arith) (omega (arith, l)) (omega (arith, l)) ∙ sym (get_d_tabulate h n i d l))
  where
    each : (a k : ℕ) (p : F) → p ≡ f → IsFromFnResultFrom g p ys a k → (i : ℕ) → a ≤ i → i < a + k → a + k ≤ n → get_or ys i d ≡ h i
    each a zero p e m i l o w = absurd (let z : ⊥ = omega arith in z)
    each a (suc k) p e m i l o w =
        let this : (m.0 ≡ f) × (m.1 ≡ h a) = is a m.1 m.0 (omega arith) (subst (λ t. Called g t (a, tt) m.1 m.0) e m.3) in
        by (dec_lt a i) (λ b. each (a + 1) k m.0 this.0 m.4 i (omega arith) (omega arith) (omega arith)) (λ s. subst (λ t. get_or ys t d ≡ h t) s (m.2.1 d ∙ this.1))
      where
        by : {P : Type 0} → Dec (a < i) → (a < i → P) → (a ≡ i → P) → P
        by (yes b) x y = x b
        by (no b) x y = y (omega arith)

-- how many pass a `filter`
pub count_called :
    {S : Type 0} {steps : S → Option ℕ → S → Type 0} (test : ℕ → Bool) (n : ℕ) (s : S) (r : ℕ)
    → ((xs : List ℕ) × Drains steps s xs × (r ≡ length xs))
    → YieldsList steps (λ x. x) s (filter test (upto n))
    → r ≡ tally n (λ i. cond (test i) 1 0)
count_called test n s r ran road = count_from_yields_List s r ran road ∙ count_upto test n

-- what `sum` gives behind a `map`, and that it fits
pub sum_called :
    {S : Type 0} {steps : S → Option ℕ → S → Type 0} (f : ℕ → ℕ) (n : ℕ) (s : S) (r : ℕ)
    → ((xs : List ℕ) × (⊤ → Drains steps s xs) × (r ≡ fold (λ a x. a + x) 0 xs))
    → YieldsList steps (λ x. x) s (map f (upto n))
    → r ≡ tally n f
sum_called f n s r ran road = sum_by_from_yields_List f (upto n) s r ran road ∙ sum_by_upto f n

pub sum_fits :
    {S : Type 0} {steps : S → Option ℕ → S → Type 0} (f : ℕ → ℕ) (n : ℕ) (s : S) (top : ℕ)
    → YieldsList steps (λ x. x) s (map f (upto n))
    → tally n f < top
    → EachRunFrom steps s (λ p. fold (λ a x. a + x) 0 p.items < top)
sum_fits f n s top road small = fits_by_from_yields_list f (upto n) s top road (omega (arith, small, sum_by_upto f n))

-- ---- over the members of a list, by their places

any_member : {X : Type 0} (f : X → Bool) (xs : List X) → list_any f xs ≡ any_of f xs
unfolding any_of
any_member f [] = refl
any_member f (x ∷ xs) = ap (λ b. f x || b) (any_member f xs)

pub any_places : {X : Type 0} (d : X) (f : X → Bool) (xs : List X) → list_any f xs ≡ any (length xs) (λ i. f (get_or xs i d))
any_places d f xs = any_member f xs ∙ any_of_places d f xs
