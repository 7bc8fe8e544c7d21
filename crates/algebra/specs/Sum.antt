-- Finite sums of whole numbers.
--
--   sum n f     f 0 + f 1 + .. + f (n - 1)
--   unit a i    1 where i is a, else 0
--
-- Laws: proofs/SumLaws.
use Rattle.std.specs.Prelude.{cond, ℕ, zero, suc, eqb, ℤ, pos, ◌+ℤ◌}

abbrev pub sum : ℕ → (ℕ → ℤ) → ℤ
sum zero f = pos 0
sum (suc n) f = sum n f +ℤ f n

abbrev pub unit : ℕ → ℕ → ℤ
unit a i = cond (eqb i a) (pos 1) (pos 0)
