-- Points of the plane (document 01).
--
--   Point               x and y, whole numbers
--   turn a b c          the determinant of three points, as document 01 writes it
--   Between m p q       m lies strictly between p and q: positive weights u at p and v at q balance at m
--   dot m p q           (p - m) · (q - m), by which it is decided for three points on a line: negative where m is between the others
--   Points              a point for each number; only the numbers below some n count
--   coordinate p c      x, then y
--   plane P             the points as a configuration of dimension 2
--   Distinct n P        no two of the first n points are the same
--   Collinear n P       one line holds the first n points
--
-- Main theorems: proofs/Turns (`turn_is_volume`, alternating, 0 for repeated points), proofs/Lines (`between_iff`, `middle_of_three`, `collinear_iff`, `spans_iff_bent`),
-- proofs/Planar (the circuits of distinct points).
use Rattle.std.specs.Prelude.{◌≡◌, ℕ, zero, suc, ◌<◌, ℤ, pos, ◌+ℤ◌, ◌-ℤ◌, ◌*ℤ◌}
use Rattle.algebra.specs.Sign.{Pos}
use Rattle.matroid.specs.Configurations.{Configuration}

pub record Point : Type 0 where
  pub x : ℤ
  pub y : ℤ

abbrev pub turn : Point → Point → Point → ℤ
turn a b c = (b.x -ℤ a.x) *ℤ (c.y -ℤ a.y) -ℤ (b.y -ℤ a.y) *ℤ (c.x -ℤ a.x)

pub record Between (m p q : Point) : Type 0 where
  pub u : ℤ
  pub v : ℤ
  pub u_pos : Pos u
  pub v_pos : Pos v
  pub xs : u *ℤ (p.x -ℤ m.x) +ℤ v *ℤ (q.x -ℤ m.x) ≡ pos 0
  pub ys : u *ℤ (p.y -ℤ m.y) +ℤ v *ℤ (q.y -ℤ m.y) ≡ pos 0

abbrev pub dot : Point → Point → Point → ℤ
dot m p q = (p.x -ℤ m.x) *ℤ (q.x -ℤ m.x) +ℤ (p.y -ℤ m.y) *ℤ (q.y -ℤ m.y)

abbrev pub Points : Type 0
Points = ℕ → Point

abbrev pub coordinate : Point → ℕ → ℤ
coordinate p zero = p.x
coordinate p (suc c) = p.y

abbrev pub plane : Points → Configuration
plane P = record { dimension = 2; at = λ i. coordinate (P i) }

abbrev pub Distinct : ℕ → Points → Type 0
Distinct n P = (i j : ℕ) → i < j → j < n → P i ≡ P j → ⊥

pub record Collinear (n : ℕ) (P : Points) : Type 0 where
  pub a : ℤ
  pub b : ℤ
  pub c : ℤ
  pub proper : (a ≡ pos 0) × (b ≡ pos 0) → ⊥
  pub holds : (i : ℕ) → i < n → a *ℤ (P i).x +ℤ b *ℤ (P i).y +ℤ c ≡ pos 0
