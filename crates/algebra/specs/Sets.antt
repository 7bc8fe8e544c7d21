-- Increasing lists of numbers as sets, their lexicographic order, and nested loops over them.
--
--   is_on i s        i is in s, as a test
--   On s i          the same as a statement
--   all_on s t       every number of s is in t
--   same_list s t    s and t are one list
--   union n s t     the numbers below n that are in s or in t
--   dropped n a s   the numbers below n that are in s, but for a
--   Within a s n    s is increasing, and its numbers are from a to n - 1
--   Lex s t         s comes before t in lexicographic order, for lists of one length
--   Exactly d Q xs  xs holds each thing of which Q holds once, and nothing else; d stands for no place
--   mask_of s        2 ^ i for each i of s, summed: the set as a mask
--   bit x i         bit i of x is set
--   set_of n x       the numbers below n whose bits are set: the mask as a set
--   lowest_of w x    the least number whose bit is set, of w bits; w where there is none
--   sets_of k n      the increasing lists of k of the numbers below n, in lexicographic order
--   place_of s ss    the place of s in ss, from 0; the length of ss where s is not there
--   nest k f a n    f of each increasing list of k numbers from a to n - 1, in lexicographic order, joined: k loops, one in the other
--
-- Laws: proofs/SetLaws, proofs/BitLaws, proofs/ListLaws (`exactly-length`).
use Rattle.std.specs.Prelude.{◌≡◌, ◌⊎◌, ◌↔◌, Bool, true, false, not, cond, ◌||◌, ◌&&◌, ℕ, zero, suc, ◌+◌, ◌/◌, ◌%◌, ◌^◌, ◌≤◌, ◌<◌, eqb, length, get_or}
use mathlib.Core.List.{List, [], ◌∷◌, Memᴰ}
use Rattle.algebra.specs.Loops.{picks, first, over}

unfoldable pub is_on : ℕ → List ℕ → Bool
is_on i [] = false
is_on i (j ∷ s) = eqb i j || is_on i s

abbrev pub On : List ℕ → ℕ → Type 0
On s i = is_on i s ≡ true

unfoldable pub all_on : List ℕ → List ℕ → Bool
all_on [] t = true
all_on (i ∷ s) t = is_on i t && all_on s t

unfoldable pub same_list : List ℕ → List ℕ → Bool
same_list [] [] = true
same_list [] (j ∷ t) = false
same_list (i ∷ s) [] = false
same_list (i ∷ s) (j ∷ t) = eqb i j && same_list s t

unfoldable pub union : ℕ → List ℕ → List ℕ → List ℕ
union n s t = picks n (λ i. is_on i s || is_on i t)

unfoldable pub dropped : ℕ → ℕ → List ℕ → List ℕ
dropped n a s = picks n (λ i. is_on i s && not (eqb i a))

abbrev pub Within : ℕ → List ℕ → ℕ → Type 0
Within a [] n = Unit {0}
Within a (i ∷ s) n = (a ≤ i) × (i < n) × Within (i + 1) s n

abbrev pub Lex : List ℕ → List ℕ → Type 0
Lex [] t = ⊥
Lex (i ∷ s) [] = ⊥
Lex (i ∷ s) (j ∷ t) = (i < j) ⊎ ((i ≡ j) × Lex s t)

pub record Exactly {A : Type 0} (d : A) (Q : A → Type 0) (xs : List A) : Type 0 where
  pub each : (x : A) → Memᴰ x xs ↔ Q x
  pub once : (p q : ℕ) → p < q → q < length xs → get_or xs p d ≡ get_or xs q d → ⊥

unfoldable pub mask_of : List ℕ → ℕ
mask_of [] = 0
mask_of (i ∷ s) = 2 ^ i + mask_of s

unfoldable pub bit : ℕ → ℕ → Bool
bit x i = eqb (x / 2 ^ i % 2) 1

abbrev pub set_of : ℕ → ℕ → List ℕ
set_of n x = picks n (bit x)

abbrev pub lowest_of : ℕ → ℕ → ℕ
lowest_of w x = first w (bit x)

unfoldable pub nest : {A : Type 0} → ℕ → (List ℕ → List A) → ℕ → ℕ → List A
nest zero f a n = f []
nest (suc k) f a n = over (λ i. nest k (λ s. f (i ∷ s)) (i + 1) n) a n

abbrev pub sets_of : ℕ → ℕ → List (List ℕ)
sets_of k n = nest k (λ s. s ∷ []) 0 n

unfoldable pub place_of : List ℕ → List (List ℕ) → ℕ
place_of s [] = 0
place_of s (t ∷ ts) = cond (same_list s t) 0 (suc (place_of s ts))
