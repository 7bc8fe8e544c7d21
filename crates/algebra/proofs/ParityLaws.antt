-- Whether the sum of a loop (`tally`) is odd, by its odd terms.
--
--   all_even       no odd term: the sum is even
--   one_odd        one odd term: it is odd
--   two_odd        two odd terms: it is even
--   another_odd    an even sum with an odd term has another one
--   pairs_even     the sum over all pairs of numbers below n is even where a pair and the pair turned have the same term, and a number with itself an even one
use mathlib.Core.Path.{◌≡◌, refl, ap}
use mathlib.Core.Logic.{⊎_elim}
use mathlib.Core.Bool.{not, ◌&&◌}
use Prim.Native.Nat.{ℕ, zero, suc, ◌%◌, ◌<◌}
use native.Mathlib.Omega.{arith}
use native.Mathlib.Nat.{not-suc-le-zero}
use lib.Dec.{eqb}
use Rattle.algebra.specs.Loops.{tally}
use Rattle.algebra.proofs.AnswerLaws.{reflects_stable, reflects-not, reflects-and, reflects_eqb}
use Rattle.algebra.proofs.LoopLaws.{last, reflects-any, tally_same, tally-add}

module _ (f : ℕ → ℕ) where
  pub all_even : (n : ℕ) → ((i : ℕ) → i < n → f i % 2 ≡ 0) → tally n f % 2 ≡ 0
  unfolding tally
  all_even zero h = refl
  all_even (suc n) h = let e = all_even n (λ i l. h i (omega arith)) in let z = h n (omega arith) in omega arith

  pub one_odd : (n v : ℕ) → v < n → f v % 2 ≡ 1 → ((i : ℕ) → i < n → (i ≡ v → ⊥) → f i % 2 ≡ 0) → tally n f % 2 ≡ 1
  unfolding tally
  one_odd zero v l p h = absurd (not-suc-le-zero l)
  one_odd (suc n) v l p h = ⊎_elim
      (λ k. let e = one_odd n v k p (λ i j. h i (omega arith)) in let z = h n (omega arith) (λ q. omega arith) in omega arith)
      (λ q. let e = all_even n (λ i j. h i (omega arith) (λ r. omega arith)) in let z = ap f q in omega arith)
      (last v n l)

  pub two_odd : (n u v : ℕ) → u < n → v < n → (u ≡ v → ⊥) → f u % 2 ≡ 1 → f v % 2 ≡ 1 → ((i : ℕ) → i < n → (i ≡ u → ⊥) → (i ≡ v → ⊥) → f i % 2 ≡ 0) → tally n f % 2 ≡ 0
  unfolding tally
  two_odd zero u v ul vl uv p q h = absurd (not-suc-le-zero ul)
  two_odd (suc n) u v ul vl uv p q h = ⊎_elim
      (λ a. ⊎_elim
      (λ b. let e = two_odd n u v a b uv p q (λ i j. h i (omega arith)) in let z = h n (omega arith) (λ r. omega arith) (λ r. omega arith) in omega arith)
      (λ b. let e = one_odd n u a p (λ i j r. h i (omega arith) r (λ s. omega arith)) in let z = ap f b in omega arith)
      (last v n vl))
      (λ a. let e = one_odd n v (omega arith) q (λ i j. h i (omega arith) (λ s. omega arith)) in let z = ap f a in omega arith)
      (last u n ul)

  pub another_odd : (n v : ℕ) → v < n → f v % 2 ≡ 1 → tally n f % 2 ≡ 0 → (u : ℕ) × (u < n) × ((u ≡ v → ⊥) × (f u % 2 ≡ 1))
  another_odd n v l p e = reflects_stable (reflects-any (λ u. (u ≡ v → ⊥) × (f u % 2 ≡ 1)) (λ u. not (eqb u v) && eqb (f u % 2) 1) n (λ u _. reflects-and (reflects-not (reflects_eqb u v)) (reflects_eqb (f u % 2) 1)))
      (λ none. let z = one_odd n v l p (λ i k q. even i (λ o. none (i, k, (q, o)))) in omega arith)
    where
      even : (i : ℕ) → (f i % 2 ≡ 1 → ⊥) → f i % 2 ≡ 0
      even i h = omega arith

pub pairs_even : (n : ℕ) (f : ℕ → ℕ → ℕ) → ((i j : ℕ) → f i j ≡ f j i) → ((i : ℕ) → f i i % 2 ≡ 0) → tally n (λ i. tally n (f i)) % 2 ≡ 0
unfolding tally
pairs_even zero f s d = refl
pairs_even (suc n) f s d =
    let both = tally-add (λ i. tally n (f i)) (λ i. f i n) n in
    let turned = tally_same (λ i. f i n) (f n) n (λ i _. s i n) in
    let before = pairs_even n f s d in
    let twice = d n in
    omega arith
