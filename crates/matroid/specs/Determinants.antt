-- Determinants of any size, expanded by their first row.
--
--   alt D s g       the alternating sum over a list: for each place, g of the member there times D of the other members, with the signs + - + ..
--   det M s cs      the determinant of the matrix M, with the rows s and the columns cs
--   columns d       0, 1, .. , d - 1
--
-- Laws: proofs/Determinants (alternating in rows and in columns; by a column; 0 where there are not as many rows as columns). Source 001, section 3.1.
use Rattle.std.specs.Prelude.{List, [], ◌∷◌, ℕ, ℤ, pos, ◌-ℤ◌, ◌*ℤ◌}
use Rattle.algebra.specs.Loops.{tabulate}

abbrev pub alt : {A : Type 0} → (List A → ℤ) → List A → (A → ℤ) → ℤ
alt D [] g = pos 0
alt D (a ∷ s) g = g a *ℤ D s -ℤ alt (λ t. D (a ∷ t)) s g

abbrev pub det : (ℕ → ℕ → ℤ) → List ℕ → List ℕ → ℤ
det M [] [] = pos 1
det M [] (c ∷ cs) = pos 0
det M (i ∷ s) cs = alt (det M s) cs (M i)

abbrev pub columns : ℕ → List ℕ
columns d = tabulate d (λ c. c)
