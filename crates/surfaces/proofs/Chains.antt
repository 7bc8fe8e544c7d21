-- What chains over the numbers below n give, beside those of algebra's ChainLaws.
--
--   length-upto      how many they are
--   position_upto    where the first number that passes stands among them
--   position_called  the answer of `position` over `0..n`, with n where there is none
--   picked_upto      a value for each that passes, summed
use mathlib.Core.Path.{◌≡◌, refl, ◌∙◌, ap}
use mathlib.Core.Bool.{Bool, true, false, cond, not}
use mathlib.Core.List.{List, [], ◌∷◌}
use native.Mathlib.Decide.{dec_lt}
use native.Mathlib.Omega.{arith}
use Prim.Native.Nat.{ℕ, zero, suc, ◌+◌, ◌<◌, ◌≤◌}
use lib.Dec.{ltb, eqb}
use lib.ListN.{length, length-append}
use borrow.Author.Tests.{lt-ltb, le-ltb, eq-eqb, ne_eqb}
use denote.Param.Members.{Mut}
use Rattle.std.specs.Fn.{Called}
use Rattle.std.specs.Iterator.{YieldsThen}
use Rattle.std.specs.declared.option.Option.{Option}
use Rattle.std.specs.declared.option.Option.TheVariants.{Some, None}
use Rattle.std.specs.Option.{MatchOption, unwrap_or}
use Rattle.std.specs.List.{filter, sum_by, position_or_len, FoldsTo}
use Rattle.std.proofs.lemmas.Iterator.{YieldsList}
use Rattle.std.proofs.lemmas.Iterator.Search.{position_from_yields_List}
use Rattle.std.proofs.lemmas.List.Sums.{sum_by-append, prefix_len-le-length}
use Rattle.std.proofs.lemmas.List.Folds.{prefix_len-append}
use Rattle.std.proofs.lemmas.List.Elements.{filter-append}
use Rattle.algebra.specs.Loops.{first, tally}
use Rattle.algebra.proofs.ChainLaws.{upto, upto_more}

pub length-upto : (n : ℕ) → length (upto n) ≡ n
length-upto zero = refl
length-upto (suc n) = ap length (upto_more n) ∙ length-append (upto n) (n ∷ []) ∙ (let e = length-upto n in omega arith)

pub position_upto : (f : ℕ → Bool) (n : ℕ) → position_or_len f (upto n) ≡ first n f
unfolding first
position_upto f zero = refl
position_upto f (suc n) =
    ap (position_or_len f) (upto_more n)
    ∙ prefix_len-append (λ x. not (f x)) (upto n) (n ∷ [])
    ∙ go (position_or_len f (upto n)) (first n f) (length (upto n)) (f n) (position_upto f n) (length-upto n) (prefix_len-le-length (λ x. not (f x)) (upto n))
  where
    last : (b : Bool) → n + cond (not b) 1 0 ≡ cond b n (suc n)
    last true = omega arith
    last false = omega arith

    go : (k i m : ℕ) (b : Bool) → k ≡ i → m ≡ n → k ≤ m → cond (eqb k m) (m + cond (not b) 1 0) k ≡ cond (ltb i n) i (cond b n (suc n))
    go k i m b e l h = by (dec_lt i n)
      where
        by : Dec (i < n) → cond (eqb k m) (m + cond (not b) 1 0) k ≡ cond (ltb i n) i (cond b n (suc n))
        by (yes s) = rw (lt-ltb i n s, ne_eqb k m (λ q. omega arith)) e
        by (no s) = rw (le-ltb i n (omega arith), eq-eqb k m (omega arith), l) (last b)

module _ {F : Type 0} {S : Type 0} {steps : S → Option ℕ → S → Type 0} {g : Mut F (ℕ × Unit {0}) Bool} {s : S} (test : ℕ → Bool) (n : ℕ) (u : S) (f : F) (r : Option ℕ) where
  pub position_called :
      (xs : List ℕ) × (o : Option ℕ) × (j : F) × YieldsThen steps s xs o u × FoldsTo (λ p x q. Called g p (x, tt) false q) f xs j × MatchOption o (r ≡ None) (λ x. (r ≡ Some (length xs)) × ((h : F) × Called g j (x, tt) true h))
      → YieldsList steps (λ x. x) s (upto n)
      → ((x : ℕ) (b : Bool) (q : F) → Called g f (x, tt) b q → (q ≡ f) × (b ≡ test x))
      → unwrap_or r n ≡ first n test
  position_called ran road is =
      ap (λ o. unwrap_or o n) (position_from_yields_List test u f r ran road is)
      ∙ by (dec_lt (position_or_len test (upto n)) (length (upto n)))
      ∙ position_upto test n
    where
      by : Dec (position_or_len test (upto n) < length (upto n)) → unwrap_or (cond (ltb (position_or_len test (upto n)) (length (upto n))) (Some (position_or_len test (upto n))) None) n ≡ position_or_len test (upto n)
      by (yes h) = rw (lt-ltb _ _ h) refl
      by (no h) = rw (le-ltb (position_or_len test (upto n)) (length (upto n)) (omega arith)) (let e = length-upto n in let k = prefix_len-le-length (λ x. not (test x)) (upto n) in omega arith)

pub picked_upto : (f : ℕ → Bool) (g : ℕ → ℕ) (n : ℕ) → sum_by g (filter f (upto n)) ≡ tally n (λ i. cond (f i) (g i) 0)
unfolding tally
picked_upto f g zero = refl
picked_upto f g (suc n) =
    ap (λ xs. sum_by g (filter f xs)) (upto_more n)
    ∙ ap (sum_by g) (filter-append f (upto n) (n ∷ []))
    ∙ sum_by-append g (filter f (upto n)) (filter f (n ∷ []))
    ∙ ap (λ k. sum_by g (filter f (upto n)) + k) (one (f n))
    ∙ ap (λ k. k + cond (f n) (g n) 0) (picked_upto f g n)
  where
    one : (b : Bool) → sum_by g (cond b (n ∷ []) []) ≡ cond b (g n) 0
    one true = omega arith
    one false = refl
