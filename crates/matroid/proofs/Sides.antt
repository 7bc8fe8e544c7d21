-- The two sides of a line through two points of the plane.
--
--   turn_at P a b c               the turn of the points of these numbers
--   sides P a b c x              the turns of a and b to c and to x, multiplied: negative where c and x are on opposite sides of their line, whichever way it runs
--   sides_swap                   the line the other way round
--   sides_first, sides_second    a point of the line is on no side
--   sides_balance                a dependency weighs them to 0
--   across P a b c d             a dependency of c, d, a and b, where c is off the line of a and b and d is another point: `across_dependency`
--   across-first, across_second  at c it is the sides of c and d, at d it is negative
--   across_each                  what holds of the four points holds where it is not 0
use mathlib.Core.Path.{◌≡◌, refl, sym, ◌∙◌, ap}
use mathlib.Core.List.Memᴰ
use mathlib.Core.List.{[], ◌∷◌}
use Prim.Native.Nat.{ℕ, ◌<◌}
use lib.IntN.{ℤ, pos, neg_ℤ, ◌*ℤ◌, neg_ℤ-neg_ℤ}
use Rattle.algebra.specs.Sign.{Neg, NZ}
use Rattle.algebra.specs.Sum.{sum}
use Rattle.algebra.proofs.IntLaws.{*ℤ-neg-r}
use Rattle.algebra.proofs.ListLaws.{each-cons, neither}
use Rattle.algebra.proofs.Ring.{var, ◌⊗◌, ring}
use Rattle.algebra.proofs.SignLaws.{pos_cast, mul-zero, square_pos}
use Rattle.algebra.proofs.SumLaws.{sum_cong}
use Rattle.matroid.specs.Points.{Points, plane, turn}
use Rattle.matroid.specs.Dependencies.{Dependency}
use Rattle.matroid.proofs.Turns.{coordinates, D, turn_is_volume, turn_cycle, turn_last, turn_ends}
use Rattle.matroid.proofs.Dependent.{dep_scale}
use Rattle.matroid.proofs.Bases.{weights_at, weights_on, dep-volume}
use Rattle.matroid.proofs.Planar.{weights4, weights4_dependency}

abbrev pub turn_at : Points → ℕ → ℕ → ℕ → ℤ
turn_at P a b c = turn (P a) (P b) (P c)

abbrev pub sides : Points → ℕ → ℕ → ℕ → ℕ → ℤ
sides P a b c x = turn_at P a b c *ℤ turn_at P a b x

module _ (P : Points) where
  pub sides_swap : (a b c x : ℕ) → sides P a b c x ≡ sides P b a c x
  sides_swap a b c x = ring (coordinates (P a ∷ P b ∷ P c ∷ P x ∷ [])) (D 0 1 2 ⊗ D 0 1 3) (D 1 0 2 ⊗ D 1 0 3) tt

  pub sides_first : (a b c x : ℕ) → x ≡ a → sides P a b c x ≡ pos 0
  sides_first a b c x e = mul-zero (turn_at P a b c) (ap (turn_at P a b) e ∙ turn_ends (P a) (P b))

  pub sides_second : (a b c x : ℕ) → x ≡ b → sides P a b c x ≡ pos 0
  sides_second a b c x e = mul-zero (turn_at P a b c) (ap (turn_at P a b) e ∙ turn_last (P a) (P b))

  pub sides_balance : (n : ℕ) (f : ℕ → ℤ) → Dependency n (plane P) f → (a b c : ℕ) → sum n (λ i. f i *ℤ sides P a b c i) ≡ pos 0
  sides_balance n f h a b c =
      sum_cong n (λ i. ring (f i ∷ turn_at P a b c ∷ turn_at P a b i ∷ []) (var 0 ⊗ (var 1 ⊗ var 2)) (var 1 ⊗ var 0 ⊗ var 2) tt
      ∙ ap (λ (z : ℤ). turn_at P a b c *ℤ f i *ℤ z) (sym (turn_cycle (P i) (P a) (P b)) ∙ turn_is_volume P i a b))
      ∙ dep-volume n (plane P) (λ i. turn_at P a b c *ℤ f i) (dep_scale n (plane P) (turn_at P a b c) f h) (a ∷ b ∷ [])

  -- ---- a dependency of two points and two more

  module _ (a b c d : ℕ) where
    abbrev pub across : ℕ → ℤ
    across i = turn_at P a b c *ℤ weights4 P c d a b i

    pub across_dependency : (n : ℕ) → a < n → b < n → c < n → d < n → Dependency n (plane P) across
    across_dependency n an bn cn dn = dep_scale n (plane P) (turn_at P a b c) (weights4 P c d a b) (weights4_dependency n P c d a b cn dn an bn)

    pub across_each : (Q : ℕ → Type 0) → Q c → Q d → Q a → Q b → (i : ℕ) → NZ (across i) → Q i
    across_each Q qc qd qa qb i nz =
        each-cons Q qc (each-cons Q qd (each-cons Q qa (each-cons Q qb (λ _ k. absurd (Memᴰ.not-nil k))))) i (weights_on (plane P) (c ∷ d ∷ a ∷ b ∷ []) i (λ z. nz (mul-zero (turn_at P a b c) z)))

    module _ (off : NZ (turn_at P a b c)) (ne : d ≡ c → ⊥) where
      pub across-first : across c ≡ sides P a b c d
      across-first = ap (λ (z : ℤ). turn_at P a b c *ℤ z) (weights_at (plane P) (c ∷ d ∷ a ∷ b ∷ []) c (record { front = []; back = d ∷ a ∷ b ∷ []; is = refl })
          (neither (λ e. ne (sym e)) (neither (λ e. off (ap (turn_at P a b) e ∙ turn_ends (P a) (P b))) (neither (λ e. off (ap (turn_at P a b) e ∙ turn_last (P a) (P b))) Memᴰ.not-nil)))
          ∙ sym (turn_is_volume P d a b) ∙ turn_cycle (P d) (P a) (P b))

      pub across_second : (d ≡ a → ⊥) → (d ≡ b → ⊥) → Neg (across d)
      across_second da db = pos_cast (sym (ap neg_ℤ (ap (λ (z : ℤ). turn_at P a b c *ℤ z) value ∙ *ℤ-neg-r (turn_at P a b c) (turn_at P a b c)) ∙ neg_ℤ-neg_ℤ (turn_at P a b c *ℤ turn_at P a b c))) (square_pos (turn_at P a b c) off)
        where
          value : weights4 P c d a b d ≡ neg_ℤ (turn_at P a b c)
          value = weights_at (plane P) (c ∷ d ∷ a ∷ b ∷ []) d (record { front = c ∷ []; back = a ∷ b ∷ []; is = refl }) (neither ne (neither da (neither db Memᴰ.not-nil)))
              ∙ ap neg_ℤ (sym (turn_is_volume P c a b) ∙ turn_cycle (P c) (P a) (P b))
