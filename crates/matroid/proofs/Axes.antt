-- The origin and the unit points of the axes have volume 1, in any dimension: so a volume has its sign and its scale.
--
--   axes d           point 0 is the origin, point i the unit point of axis i
--
-- Main theorem: `axes-volume`; `axes-plane`, `axes_space`: a triangle and a tetrahedron, by computation. Source 001, section 3.1; document 01 writes the 1 first.
use mathlib.Core.Path.{◌≡◌, refl, ◌∙◌, ap, ap₂}
use mathlib.Core.List.{List, [], ◌∷◌, Memᴰ}
use Prim.Native.Nat.{ℕ, zero, suc, ◌<◌}
use native.Mathlib.Omega.{arith}
use lib.IntN.{ℤ, pos, ◌-ℤ◌, ◌*ℤ◌}
use Rattle.algebra.specs.Loops.{tabulate}
use Rattle.algebra.specs.Sum.{unit}
use Rattle.algebra.proofs.ListLaws.{Apart, Other}
use Rattle.algebra.proofs.LoopLaws.{tabulate_out, tabulate_apart, tabulate-first}
use Rattle.algebra.proofs.Ring.{cst, ◌⊝◌, ◌⊗◌, ring}
use Rattle.algebra.proofs.SumLaws.{unit_off}
use Rattle.matroid.specs.Configurations.{Configuration, row, rank, volume}
use Rattle.matroid.specs.Determinants.{alt, det, columns}
use Rattle.matroid.proofs.Determinants.{alt_same, alt_none, alt-zero, alt_at, by_column}

abbrev pub axes : ℕ → Configuration
axes d = record { dimension = d; at = λ i c. unit (suc c) i }

pub axes-plane : volume (axes 2) (0 ∷ 1 ∷ 2 ∷ []) ≡ pos 1
unfolding tabulate
axes-plane = refl

pub axes_space : volume (axes 3) (0 ∷ 1 ∷ 2 ∷ 3 ∷ []) ≡ pos 1
unfolding tabulate
axes_space = refl

module _ (d : ℕ) where
  abbrev R : ℕ → ℕ → ℤ
  R = row (axes d)

  -- the rows of unit points, in the columns of their axes
  unit_rows : (s : List ℕ) → Apart Other s → ((c : ℕ) → Memᴰ c s → 0 < c) → det R s s ≡ pos 1
  unit_rows [] h k = refl
  unit_rows (i ∷ s) h k =
      alt_same (det R s) (i ∷ s) (λ c m. at c (k c m)) ∙ alt_at (det R s) [] s i (λ m. h.0 i m refl) ∙ unit_rows s h.1 (λ c m. k c (Memᴰ.tail m))
    where
      at : (c : ℕ) → 0 < c → R i c ≡ unit c i
      at zero l = absurd (omega arith)
      at (suc c) l = refl

  -- with the row of the origin, which is 0 there
  origin-row : (s cs : List ℕ) → ((c : ℕ) → Memᴰ c cs → 0 < c) → det R (0 ∷ s) cs ≡ pos 0
  origin-row s cs k = alt_none (det R s) cs (R 0) (λ c m. at c (k c m))
    where
      at : (c : ℕ) → 0 < c → R 0 c ≡ pos 0
      at zero l = absurd (omega arith)
      at (suc c) l = unit_off (suc c) 0 (λ e. omega arith)

  pub axes-volume : volume (axes d) (columns (rank (axes d))) ≡ pos 1
  axes-volume = ap (λ (s : List ℕ). det R s s) (tabulate-first (λ i. i) d) ∙ by_column R (0 ∷ S) 0 S
      ∙ ap₂ (λ x y. pos 1 *ℤ x -ℤ y) (unit_rows S (tabulate_apart suc (λ i j l e. omega arith) d) low) (ap (λ (D : List ℕ → ℤ). alt D S (λ i. pos 1)) (λ k t. origin-row t S low k) ∙ alt-zero S (λ i. pos 1))
      ∙ ring [] (cst (pos 1) ⊗ cst (pos 1) ⊝ cst (pos 0)) (cst (pos 1)) tt
    where
      S : List ℕ
      S = tabulate d suc

      low : (c : ℕ) → Memᴰ c S → 0 < c
      low c m = let (i, l, e) = tabulate_out suc d m in omega arith
