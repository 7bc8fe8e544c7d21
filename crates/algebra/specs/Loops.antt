-- The small functions that a loop of the code is mirrored by, each over the numbers that the loop goes through.
--
--   any n f        some i < n passes f
--   every n f      every i < n passes f
--   any_of f xs     some member of xs passes f
--   first n f      the least i < n that passes f, and n where none does
--   first_from a n f    the least i from a to n - 1 that passes f, and n where none does
--   fold f a n     a, then f 0 of it, then f 1, .. , then f (n - 1)
--   tally n f      f 0 + f 1 + .. + f (n - 1)
--   sum_of f xs     f of each member of xs, summed
--   picks n f      the i < n that pass f, in order
--   tabulate n f   f 0, f 1, .. , f (n - 1)
--   run f a k      f a ++ f (a + 1) ++ .. , k lists
--   over f a b     f a ++ f (a + 1) ++ .. ++ f (b - 1)
--
-- Laws: proofs/LoopLaws (what a loop wants where it begins, goes on and ends), proofs/OverLaws.
use Rattle.std.specs.Prelude.{Bool, true, false, cond, ◌||◌, ◌&&◌, List, [], ◌∷◌, ◌++◌, ℕ, zero, suc, ◌+◌, ◌-◌, ltb, leb}

unfoldable pub any : ℕ → (ℕ → Bool) → Bool
any zero f = false
any (suc n) f = any n f || f n

unfoldable pub every : ℕ → (ℕ → Bool) → Bool
every zero f = true
every (suc n) f = every n f && f n

unfoldable pub any_of : {A : Type 0} → (A → Bool) → List A → Bool
any_of f [] = false
any_of f (x ∷ xs) = f x || any_of f xs

unfoldable pub first : ℕ → (ℕ → Bool) → ℕ
first zero f = zero
first (suc n) f = cond (ltb (first n f) n) (first n f) (cond (f n) n (suc n))

unfoldable pub first_from : ℕ → ℕ → (ℕ → Bool) → ℕ
first_from a n f = first n (λ i. leb a i && f i)

unfoldable pub fold : {A : Type 0} → (ℕ → A → A) → A → ℕ → A
fold f a zero = a
fold f a (suc n) = f n (fold f a n)

unfoldable pub tally : ℕ → (ℕ → ℕ) → ℕ
tally zero f = 0
tally (suc n) f = tally n f + f n

abbrev pub sum_of : {A : Type 0} → (A → ℕ) → List A → ℕ
sum_of f [] = 0
sum_of f (x ∷ xs) = f x + sum_of f xs

unfoldable pub picks : ℕ → (ℕ → Bool) → List ℕ
picks zero f = []
picks (suc n) f = picks n f ++ cond (f n) (n ∷ []) []

unfoldable pub tabulate : {A : Type 0} → ℕ → (ℕ → A) → List A
tabulate zero f = []
tabulate (suc n) f = tabulate n f ++ f n ∷ []

unfoldable pub run : {A : Type 0} → (ℕ → List A) → ℕ → ℕ → List A
run f a zero = []
run f a (suc k) = f a ++ run f (suc a) k

unfoldable pub over : {A : Type 0} → (ℕ → List A) → ℕ → ℕ → List A
over f a b = run f a (b - a)
