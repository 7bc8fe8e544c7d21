-- Points on a line.
--
--   between_iff        a point on the line of two others is between them exactly when its scalar product is negative
--   between_turned     between two points, the other way round
--   middle_of_three    of three different points on a line one is in the middle
--   line_through       the points are on the line of two different ones where none of them turns off it
--   collinear_iff      one line holds the points exactly when no three turn
--   spans_iff_bent     the points span the plane exactly when no line holds them
use mathlib.Core.Path.{◌≡◌, refl, sym, ◌∙◌, ap, ap₂}
use mathlib.Core.Logic.{◌⊎◌, inl, inr, ◌↔◌}
use mathlib.Core.List.{List, [], ◌∷◌}
use Prim.Native.Nat.{ℕ, zero, suc, ◌<◌}
use native.Mathlib.Omega.{arith}
use native.Mathlib.Decide.{ℕ_discrete, dec_lt}
use lib.IntN.{ℤ, pos, neg_ℤ, ◌+ℤ◌, ◌-ℤ◌, ◌*ℤ◌, +ℤ_comm, +ℤ_invr}
use Rattle.algebra.specs.Sign.{sign_of, Pos, Neg, NZ, Tri, below, at-nought, above}
use Rattle.algebra.proofs.Ring.{Ex, cst, var, ◌⊕◌, ◌⊝◌, ◌⊗◌, neg, ring, sub-zero→eq}
use Rattle.algebra.proofs.SignLaws.{tri, mul-zero, both_zero, pos_cast, pos-mul, pos-add, pos-zero, pos_of_mul, zero_of_mul, dec_nz, zero_if, sign_of-zero, zero-sign_of}
use Rattle.matroid.specs.Configurations.{Simplex, Spans}
use Rattle.matroid.specs.Points.{Point, Points, plane, Between, Collinear, turn, dot}
use Rattle.matroid.proofs.Turns.{coordinates, X, Y, D, O, turn_swap, turn-first, turn_last, turn_ends, turn_form, turn_is_volume, point_path, dot_base, dot-zero, dot_pos}
use Rattle.matroid.proofs.Search.{Least, least, some_below}

pub between_iff : (m p q : Point) → turn m p q ≡ pos 0 → (m ≡ q → ⊥) → Neg (dot m p q) ↔ Between m p q
between_iff m p q e ne = (into, out)
  where
    -- |q - m|² (p - m) - ((p - m) · (q - m)) (q - m) is the turn times a vector
    into : Neg (dot m p q) → Between m p q
    into h = record {
      u = dot m q q;
      v = neg_ℤ (dot m p q);
      u_pos = dot_pos m q (λ z. ne (sym z));
      v_pos = h;
      xs = ring (coordinates (m ∷ p ∷ q ∷ [])) (O 0 2 2 ⊗ (X 1 ⊝ X 0) ⊕ neg (O 0 1 2) ⊗ (X 2 ⊝ X 0)) ((Y 2 ⊝ Y 0) ⊗ D 0 1 2) tt ∙ mul-zero (q.y -ℤ m.y) e;
      ys = ring (coordinates (m ∷ p ∷ q ∷ [])) (O 0 2 2 ⊗ (Y 1 ⊝ Y 0) ⊕ neg (O 0 1 2) ⊗ (Y 2 ⊝ Y 0)) ((X 0 ⊝ X 2) ⊗ D 0 1 2) tt ∙ mul-zero (m.x -ℤ q.x) e;
    }

    -- the two balances times q - m add up to u (dot m p q) + v |q - m|²
    out : Between m p q → Neg (dot m p q)
    out b = pos_of_mul b.u_pos (pos_cast is (pos-mul b.v_pos (dot_pos m q (λ z. ne (sym z)))))
      where
        is : b.v *ℤ dot m q q ≡ b.u *ℤ neg_ℤ (dot m p q)
        is = sub-zero→eq (b.v *ℤ dot m q q) (b.u *ℤ neg_ℤ (dot m p q))
            (ring ((p.x -ℤ m.x) ∷ (p.y -ℤ m.y) ∷ (q.x -ℤ m.x) ∷ (q.y -ℤ m.y) ∷ b.u ∷ b.v ∷ [])
            (var 5 ⊗ (var 2 ⊗ var 2 ⊕ var 3 ⊗ var 3) ⊝ var 4 ⊗ neg (var 0 ⊗ var 2 ⊕ var 1 ⊗ var 3))
            (var 2 ⊗ (var 4 ⊗ var 0 ⊕ var 5 ⊗ var 2) ⊕ var 3 ⊗ (var 4 ⊗ var 1 ⊕ var 5 ⊗ var 3)) tt
            ∙ both_zero (q.x -ℤ m.x) (q.y -ℤ m.y) b.xs b.ys)

pub between_turned : (m p q : Point) → Between m p q → Between m q p
between_turned m p q b = record {
  u = b.v;
  v = b.u;
  u_pos = b.v_pos;
  v_pos = b.u_pos;
  xs = +ℤ_comm (b.v *ℤ (q.x -ℤ m.x)) (b.u *ℤ (p.x -ℤ m.x)) ∙ b.xs;
  ys = +ℤ_comm (b.v *ℤ (q.y -ℤ m.y)) (b.u *ℤ (p.y -ℤ m.y)) ∙ b.ys;
}

-- ---- of three different points on a line one is in the middle

-- what is left of a positive sum when a negative part is taken away
other : (a b : ℤ) → Pos (a +ℤ b) → Neg a → Pos b
other a b h k = pos_cast (ring (a ∷ b ∷ []) (var 0 ⊕ var 1 ⊕ neg (var 0)) (var 1) tt) (pos-add h k)

-- three numbers with positive sums whose products add up to 0: one is negative
module _ (a b c : ℤ) (ab : Pos (a +ℤ b)) (ac : Pos (a +ℤ c)) (bc : Pos (b +ℤ c)) (e : a *ℤ b +ℤ a *ℤ c +ℤ b *ℤ c ≡ pos 0) where
  -- each square is the product of two of the sums
  not-zero : (z : ℤ) {s t : ℤ} → Pos s → Pos t → s *ℤ t ≡ z *ℤ z +ℤ (a *ℤ b +ℤ a *ℤ c +ℤ b *ℤ c) → NZ z
  not-zero z h k i q = pos-zero (pos-mul h k) (i ∙ ap₂ (λ s t. s *ℤ s +ℤ t) q e)

  one_negative : (Neg a × Pos b × Pos c) ⊎ (Pos a × Neg b × Pos c) ⊎ (Pos a × Pos b × Neg c)
  one_negative = go (tri a) (tri b) (tri c)
    where
      S : Ex
      S = var 0 ⊗ var 1 ⊕ var 0 ⊗ var 2 ⊕ var 1 ⊗ var 2

      go : Tri a → Tri b → Tri c → (Neg a × Pos b × Pos c) ⊎ (Pos a × Neg b × Pos c) ⊎ (Pos a × Pos b × Neg c)
      go (below h) _ _ = inl (h, other a b ab h, other a c ac h)
      go (at-nought z) _ _ = absurd (not-zero a ab ac (ring (a ∷ b ∷ c ∷ []) ((var 0 ⊕ var 1) ⊗ (var 0 ⊕ var 2)) (var 0 ⊗ var 0 ⊕ S) tt) z)
      go (above h) (below k) _ = inr (inl (h, k, other b c bc k))
      go (above h) (at-nought z) _ = absurd (not-zero b ab bc (ring (a ∷ b ∷ c ∷ []) ((var 0 ⊕ var 1) ⊗ (var 1 ⊕ var 2)) (var 1 ⊗ var 1 ⊕ S) tt) z)
      go (above h) (above k) (below l) = inr (inr (h, k, l))
      go (above h) (above k) (at-nought z) = absurd (not-zero c ac bc (ring (a ∷ b ∷ c ∷ []) ((var 0 ⊕ var 2) ⊗ (var 1 ⊕ var 2)) (var 2 ⊗ var 2 ⊕ S) tt) z)
      go (above h) (above k) (above l) = pos-zero (pos-add (pos-add (pos-mul h k) (pos-mul h l)) (pos-mul k l)) e

-- the scalar products add up to the squared distances, and their products to the squared turn
pub middle_of_three : (p q r : Point) → turn p q r ≡ pos 0 → (p ≡ q → ⊥) → (q ≡ r → ⊥) → (p ≡ r → ⊥)
    → (Neg (dot p q r) × Pos (dot q p r) × Pos (dot r p q)) ⊎ (Pos (dot p q r) × Neg (dot q p r) × Pos (dot r p q)) ⊎ (Pos (dot p q r) × Pos (dot q p r) × Neg (dot r p q))
middle_of_three p q r e pq qr pr = one_negative (dot p q r) (dot q p r) (dot r p q)
    (pos_cast (ring ρ (O 1 0 0) (O 0 1 2 ⊕ O 1 0 2) tt) (dot_pos q p pq))
    (pos_cast (ring ρ (O 2 0 0) (O 0 1 2 ⊕ O 2 0 1) tt) (dot_pos r p pr))
    (pos_cast (ring ρ (O 2 1 1) (O 1 0 2 ⊕ O 2 0 1) tt) (dot_pos r q qr))
    (ring ρ (O 0 1 2 ⊗ O 1 0 2 ⊕ O 0 1 2 ⊗ O 2 0 1 ⊕ O 1 0 2 ⊗ O 2 0 1) (D 0 1 2 ⊗ D 0 1 2) tt ∙ ap (λ z. z *ℤ z) e)
  where
    ρ : List ℤ
    ρ = coordinates (p ∷ q ∷ r ∷ [])

-- ---- all points on a line

-- the coefficients of a line through three points, times their turn
line-turn : (a b c : ℤ) → ((a ≡ pos 0) × (b ≡ pos 0) → ⊥) → (p q r : Point) → a *ℤ p.x +ℤ b *ℤ p.y +ℤ c ≡ pos 0 → a *ℤ q.x +ℤ b *ℤ q.y +ℤ c ≡ pos 0 → a *ℤ r.x +ℤ b *ℤ r.y +ℤ c ≡ pos 0 → turn p q r ≡ pos 0
line-turn a b c proper p q r hp hq hr = zero_if (turn p q r) (λ t. proper (
  zero_of_mul t (ring ρ (D 0 1 2 ⊗ var 6) ((Y 2 ⊝ Y 0) ⊗ (L 1 ⊝ L 0) ⊕ (Y 0 ⊝ Y 1) ⊗ (L 2 ⊝ L 0)) tt ∙ both_zero (r.y -ℤ p.y) (p.y -ℤ q.y) pq pr),
  zero_of_mul t (ring ρ (D 0 1 2 ⊗ var 7) ((X 0 ⊝ X 2) ⊗ (L 1 ⊝ L 0) ⊕ (X 1 ⊝ X 0) ⊗ (L 2 ⊝ L 0)) tt ∙ both_zero (p.x -ℤ r.x) (q.x -ℤ p.x) pq pr),
))
  where
    ρ : List ℤ
    ρ = p.x ∷ p.y ∷ q.x ∷ q.y ∷ r.x ∷ r.y ∷ a ∷ b ∷ c ∷ []

    L : ℕ → Ex
    L i = var 6 ⊗ X i ⊕ var 7 ⊗ Y i ⊕ var 8

    pq : a *ℤ q.x +ℤ b *ℤ q.y +ℤ c -ℤ (a *ℤ p.x +ℤ b *ℤ p.y +ℤ c) ≡ pos 0
    pq = ap₂ ◌-ℤ◌ hq hp

    pr : a *ℤ r.x +ℤ b *ℤ r.y +ℤ c -ℤ (a *ℤ p.x +ℤ b *ℤ p.y +ℤ c) ≡ pos 0
    pr = ap₂ ◌-ℤ◌ hr hp

module _ (n : ℕ) (P : Points) where
  -- the line through two different points
  pub line_through : (p q : Point) → (q ≡ p → ⊥) → ((i : ℕ) → i < n → turn p q (P i) ≡ pos 0) → Collinear n P
  line_through p q ne h = record {
    a = p.y -ℤ q.y;
    b = q.x -ℤ p.x;
    c = p.x *ℤ q.y -ℤ p.y *ℤ q.x;
    proper = λ z. ne (point_path q p (sub-zero→eq q.x p.x z.1) (sym (sub-zero→eq p.y q.y z.0)));
    holds = λ i l. sym (turn_form p q (P i)) ∙ h i l;
  }

  -- any line through the only point
  line_at : (p : Point) → ((i : ℕ) → i < n → P i ≡ p) → Collinear n P
  line_at p h = line_through p q differ (λ i l. ap (λ z. turn p q z) (h i l) ∙ turn_ends p q)
    where
      q : Point
      q = record { x = p.x +ℤ pos 1; y = p.y }

      differ : q ≡ p → ⊥
      differ e = pos-zero (record { by = 0; is = refl }) (ring (p.x ∷ []) (cst (pos 1)) (var 0 ⊕ cst (pos 1) ⊝ var 0) tt ∙ ap (λ z. z.x -ℤ p.x) e ∙ +ℤ_invr p.x)

  module _ (h : (a b c : ℕ) → a < b → b < c → c < n → turn (P a) (P b) (P c) ≡ pos 0) where
    -- every point is on the line of the first and another
    on-first : (k i : ℕ) → k < n → i < n → turn (P 0) (P k) (P i) ≡ pos 0
    on-first zero i kl il = turn-first (P 0) (P i)
    on-first (suc k) zero kl il = turn_ends (P 0) (P (suc k))
    on-first (suc k) (suc i) kl il = go (ℕ_discrete k i) (dec_lt k i)
      where
        go : Dec (k ≡ i) → Dec (k < i) → turn (P 0) (P (suc k)) (P (suc i)) ≡ pos 0
        go (yes e) _ = ap (λ j. turn (P 0) (P (suc k)) (P (suc j))) (sym e) ∙ turn_last (P 0) (P (suc k))
        go (no _) (yes l) = h 0 (suc k) (suc i) (omega arith) (omega arith) il
        go (no e) (no l) = turn_swap (P 0) (P (suc i)) (P (suc k)) ∙ ap neg_ℤ (h 0 (suc i) (suc k) (omega arith) (omega arith) kl)

    -- some point is not the first, or all are one point
    line : Collinear n P
    line = go (least n (λ k. NZ (dot (P 0) (P k) (P k))) (λ k. dec_nz (dot (P 0) (P k) (P k))))
      where
        go : Least n (λ k. NZ (dot (P 0) (P k) (P k))) ⊎ ((k : ℕ) → k < n → NZ (dot (P 0) (P k) (P k)) → ⊥) → Collinear n P
        go (inl k) = line_through (P 0) (P k.here) (λ e. k.so (ap (λ z. dot (P 0) z z) e ∙ dot_base (P 0) (P 0))) (λ i l. on-first k.here i k.low l)
        go (inr none) = line_at (P 0) (λ i l. dot-zero (P 0) (P i) (zero_if (dot (P 0) (P i) (P i)) (none i l)))

pub collinear_iff : (n : ℕ) (P : Points) → Collinear n P ↔ ((a b c : ℕ) → a < b → b < c → c < n → turn (P a) (P b) (P c) ≡ pos 0)
collinear_iff n P = (λ l a b c ab bc cn. line-turn l.a l.b l.c l.proper (P a) (P b) (P c) (l.holds a (omega arith)) (l.holds b (omega arith)) (l.holds c cn), line n P)

pub spans_iff_bent : (n : ℕ) (P : Points) → Spans n (plane P) ↔ (Collinear n P → ⊥)
spans_iff_bent n P = (λ (s, x). flat s x, λ bent. go bent (some_below n _ (λ c. some_below c _ (λ b. some_below b _ (λ a. dec_nz (turn (P a) (P b) (P c)))))))
  where
    flat : (s : List ℕ) → Simplex n (plane P) s → Collinear n P → ⊥
    flat [] x l = let k = x.size in omega arith
    flat (a ∷ []) x l = let k = x.size in omega arith
    flat (a ∷ b ∷ []) x l = let k = x.size in omega arith
    flat (a ∷ b ∷ c ∷ []) x l =
        let w = x.within in
        x.full (ap sign_of (sym (turn_is_volume P a b c)) ∙ sign_of-zero _ ((collinear_iff n P).0 l a b c (let k = w.2.0 in omega arith) (let k = w.2.2.0 in omega arith) w.2.2.1))
    flat (a ∷ b ∷ c ∷ d ∷ s) x l = let k = x.size in omega arith

    go : (Collinear n P → ⊥) → Dec ((c : ℕ) × (c < n) × ((b : ℕ) × (b < c) × ((a : ℕ) × (a < b) × NZ (turn (P a) (P b) (P c))))) → Spans n (plane P)
    go bent (yes (c, cn, (b, bc, (a, ab, nz)))) = (
      a ∷ b ∷ c ∷ [],
      record {
        within = (omega arith, omega arith, (omega arith, omega arith, (omega arith, cn, tt)));
        size = refl;
        full = λ e. nz (turn_is_volume P a b c ∙ zero-sign_of _ e);
      },
    )
    go bent (no none) = absurd (bent ((collinear_iff n P).1 (λ a b c ab bc cn. zero_if _ (λ nz. none (c, cn, (b, bc, (a, ab, nz)))))))
