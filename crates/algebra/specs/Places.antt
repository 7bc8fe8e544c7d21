-- Increasing lists of k numbers by formula: how many there are, which one stands at a place, how many come after one, and the next one. The lists themselves,
-- in lexicographic order, are `sets_of k n`; the place of one among them is `place_of`.
--
--   choose m k      how many sets of k there are of m things
--   later_of n s     how many lists of as many numbers below n come after s
--   set_by k a m r   the list at place r among those of k of the m numbers from a on: a is in it exactly when r is below how many hold a
--   up_from k a      the k numbers from a on
--   is_last n s      s is the last of its length, as a test: it begins so late that no number of it can be greater
--   next_of n s      the list after s: the last of its numbers that can be greater is one greater, and those behind it follow at once
--
-- Theorems, for every k and n: proofs/PlaceLaws (`sets_count`, `place_later`, `set-by`, `next_place`).
use Rattle.std.specs.Prelude.{Bool, true, cond, List, [], ◌∷◌, ℕ, zero, suc, ◌+◌, ◌-◌, ltb, eqb, length}

unfoldable pub choose : ℕ → ℕ → ℕ
choose m zero = 1
choose zero (suc k) = 0
choose (suc m) (suc k) = choose m k + choose m (suc k)

unfoldable pub later_of : ℕ → List ℕ → ℕ
later_of n [] = 0
later_of n (i ∷ s) = choose (n - 1 - i) (suc (length s)) + later_of n s

unfoldable pub set_by : ℕ → ℕ → ℕ → ℕ → List ℕ
set_by zero a m r = []
set_by (suc k) a zero r = []
set_by (suc k) a (suc m) r = cond (ltb r (choose m k)) (a ∷ set_by k (a + 1) m r) (set_by (suc k) (a + 1) m (r - choose m k))

unfoldable pub up_from : ℕ → ℕ → List ℕ
up_from zero a = []
up_from (suc k) a = a ∷ up_from k (a + 1)

unfoldable pub is_last : ℕ → List ℕ → Bool
is_last n [] = true
is_last n (i ∷ s) = eqb (i + suc (length s)) n

unfoldable pub next_of : ℕ → List ℕ → List ℕ
next_of n [] = []
next_of n (i ∷ s) = cond (is_last n s) (up_from (suc (length s)) (i + 1)) (i ∷ next_of n s)
