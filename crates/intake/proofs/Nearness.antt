-- The whole number nearest to a fraction: there is one, and it is `closest` of the size, with the sign.
--
--   closest_close     `closest` is off by a half at most, and even where it is off by a half
--   closest_nearest   so with a sign it is nearest to the fraction of that sign
--   nearest_one       no other number is
--   nearest_moved     an even number more, on both sides
--   nearest_same      the same fraction, by other numbers
--   whole_nearest, whole-only    `whole_of x` is nearest to a finite x, and no other number is
--   nearest_valued    two floats of one value have one nearest number
--   whole_size        its size
use mathlib.Core.Path.{◌≡◌, refl, sym, ◌∙◌, ap, subst}
use mathlib.Core.Bool.{Bool, true, false, not, cond}
use mathlib.Core.List.{[], ◌∷◌}
use Prim.Native.Nat.{ℕ, zero, suc, ◌+◌, ◌-◌, ◌*◌, ◌/◌, ◌%◌, ◌≤◌, ◌<◌, compare, Ordering}
use native.Mathlib.Nat.{mul_assoc, mul_comm, mul-le-mul_right, le_of_mul-le-mul_right, eq_of_mul-eq-mul_right, div-add-mod', mod-lt}
use native.Mathlib.Omega.{arith}
use native.Mathlib.Decide.{dec_lt}
use borrow.Author.Tests.{lt-ltb, le-ltb}
use lib.Arith.{lt_of_le-ne}
use lib.Dec.{T, ltb, is_le, compare_is_eq, eqb, leb→le, nleb→lt, eqb→eq, eqb_refl}
use lib.IntN.{ℤ, pos, negsuc, neg_ℤ, nat_abs, ◌+ℤ◌, ◌-ℤ◌, ◌*ℤ◌}
use lib.Ieee.{Float, nearest}
use lib.Ieee.Nearest.{closest}
use lib.Ieee.Positive.{num, den, den_pos}
use lib.Ieee.Scale.{finite}
use Rattle.algebra.proofs.IntLaws.{*ℤ-neg-l}
use Rattle.algebra.proofs.Ring.{var, ◌⊕◌, ◌⊝◌, ◌⊗◌, neg, ring, sub-zero→eq}
use Rattle.algebra.proofs.SizeLaws.{nat_abs-zero, nat_abs-neg, nat_abs-sub, nat_abs_mul}
use Rattle.intake.specs.Nearest.{signed, is_negative, value_of, off_by, NearestTo, Nearest, whole_of}

-- ---- `closest` is one

-- how far k is from N / D, and that it is near
abbrev between : ℕ → ℕ → ℕ → ℕ
between N D k = (N - k * D) + (k * D - N)

abbrev pub Close : ℕ → ℕ → ℕ → Type 0
Close N D k = (2 * between N D k ≤ D) × (2 * between N D k ≡ D → k % 2 ≡ 0)

one_more : (k D : ℕ) → suc k * D ≡ k * D + D
one_more k D = omega arith

abbrev Compared : Ordering → ℕ → ℕ → Type 0
Compared Ordering.lt a b = a < b
Compared Ordering.eq a b = a ≡ b
Compared Ordering.gt a b = b < a

compared : (a b : ℕ) → Compared (compare a b) a b
compared a b = go (compare a b) (leb→le a b) (nleb→lt a b) (eqb→eq a b) (λ (e : a ≡ b). subst (λ (x : ℕ). T (eqb a x)) e (eqb_refl a))
  where
    go : (o : Ordering) → (T (is_le o) → a ≤ b) → (T (not (is_le o)) → b < a) → (T (compare_is_eq o) → a ≡ b) → (a ≡ b → T (compare_is_eq o)) → Compared o a b
    go Ordering.lt h k e n = lt_of_le-ne (h tt) n
    go Ordering.eq h k e n = e tt
    go Ordering.gt h k e n = k tt

-- with the quotient q and the remainder r
module _ (N D q r : ℕ) (e : q * D + r ≡ N) where
  stays : r * 2 < D → Close N D q
  stays h = (omega arith, λ t. omega arith)

  moves : r < D → D < r * 2 → Close N D (suc q)
  moves l h = let s = one_more q D in (omega arith, λ t. omega arith)

  ties : r * 2 ≡ D → Close N D (q + q % 2)
  ties h = go (dec_lt 0 (q % 2))
    where
      go : Dec (0 < q % 2) → Close N D (q + q % 2)
      go (yes p) = subst (Close N D) (let f : suc q ≡ q + q % 2 = omega arith in f) (let s = one_more q D in (omega arith, λ t. omega arith))
      go (no p) = subst (Close N D) (let f : q ≡ q + q % 2 = omega arith in f) (omega arith, λ t. omega arith)

pub closest_close : (N D : ℕ) → 0 < D → Close N D (closest N D)
closest_close N D P = go (compare (N % D * 2) D) (compared (N % D * 2) D)
  where
    go : (o : Ordering) → Compared o (N % D * 2) D → Close N D (nearest (N / D) o)
    go Ordering.lt h = stays N D (N / D) (N % D) (div-add-mod' N D) h
    go Ordering.eq h = ties N D (N / D) (N % D) (div-add-mod' N D) h
    go Ordering.gt h = moves N D (N / D) (N % D) (div-add-mod' N D) (mod-lt N P) h

-- ---- with signs

gap_size : (a b : ℕ) → nat_abs (pos a -ℤ pos b) ≡ (a - b) + (b - a)
gap_size a zero = omega arith
gap_size a (suc b) = go (dec_lt a (suc b))
  where
    go : Dec (a < suc b) → nat_abs (cond (ltb a (suc b)) (negsuc (suc b - suc a)) (pos (a - suc b))) ≡ (a - suc b) + (suc b - a)
    go (yes h) = ap (λ (t : Bool). nat_abs (cond t (negsuc (suc b - suc a)) (pos (a - suc b)))) (lt-ltb a (suc b) h) ∙ omega arith
    go (no h) = ap (λ (t : Bool). nat_abs (cond t (negsuc (suc b - suc a)) (pos (a - suc b)))) (le-ltb a (suc b) (omega (arith, h))) ∙ omega arith

nearest_size : (N D k : ℕ) → Close N D k → NearestTo (pos N) D (pos k)
nearest_size N D k h = let g = gap_size N (k * D) in record {
  close = omega (arith, h.0);
  even = λ e. h.1 (omega arith);
}

-- both signs turned, nothing changes
turned : (A : ℤ) (D : ℕ) (n : ℤ) → NearestTo A D n → NearestTo (neg_ℤ A) D (neg_ℤ n)
turned A D n h = record {
  close = omega (arith, h.close, same);
  even = λ e. ap (λ (m : ℕ). m % 2) (nat_abs-neg n) ∙ h.even (omega (arith, same));
}
  where
    same : off_by (neg_ℤ A) D (neg_ℤ n) ≡ off_by A D n
    same = ap nat_abs (ring (A ∷ n ∷ pos D ∷ []) (neg (var 0) ⊝ neg (var 1) ⊗ var 2) (neg (var 0 ⊝ var 1 ⊗ var 2)) tt) ∙ nat_abs-neg (A -ℤ n *ℤ pos D)

pub closest_nearest : (s : Bool) (N D : ℕ) → 0 < D → NearestTo (signed s N) D (signed s (closest N D))
closest_nearest false N D P = nearest_size N D (closest N D) (closest_close N D P)
closest_nearest true N D P = turned (pos N) D (pos (closest N D)) (nearest_size N D (closest N D) (closest_close N D P))

-- ---- there is one at most

-- a difference is odd where one of the two numbers is
even_gap : (a b : ℕ) → nat_abs (pos a -ℤ pos b) % 2 ≡ (a + b) % 2
even_gap a b = omega (arith, gap_size a b)

parity : (j k : ℤ) → nat_abs (j -ℤ k) % 2 ≡ (nat_abs j + nat_abs k) % 2
parity (pos a) (pos b) = even_gap a b
parity (pos a) (negsuc b) = refl
parity (negsuc a) (pos b) =
    ap (λ (z : ℤ). nat_abs z % 2) (ring (pos (suc a) ∷ pos b ∷ []) (neg (var 0) ⊝ var 1) (neg (var 0 ⊕ var 1)) tt)
    ∙ ap (λ (m : ℕ). m % 2) (nat_abs-neg (pos (suc a) +ℤ pos b))
parity (negsuc a) (negsuc b) =
    ap (λ (z : ℤ). nat_abs z % 2) (ring (pos (suc a) ∷ pos (suc b) ∷ []) (neg (var 0) ⊝ neg (var 1)) (neg (var 0 ⊝ var 1)) tt)
    ∙ ap (λ (m : ℕ). m % 2) (nat_abs-neg (pos (suc a) -ℤ pos (suc b)))
    ∙ even_gap (suc a) (suc b)

pub nearest_one : (A : ℤ) (D : ℕ) (j k : ℤ) → 0 < D → NearestTo A D j → NearestTo A D k → j ≡ k
nearest_one A D j k P a b = sub-zero→eq j k (nat_abs-zero (j -ℤ k) (none (nat_abs (j -ℤ k)) refl))
  where
    -- the two are off by their distance together, at least
    together : nat_abs (j -ℤ k) * D ≤ off_by A D k + off_by A D j
    together =
        subst (λ (m : ℕ). m ≤ off_by A D k + off_by A D j)
        (ap nat_abs (ring (A ∷ j ∷ k ∷ pos D ∷ []) (var 0 ⊝ var 2 ⊗ var 3 ⊝ (var 0 ⊝ var 1 ⊗ var 3)) ((var 1 ⊝ var 2) ⊗ var 3) tt) ∙ nat_abs_mul (j -ℤ k) (pos D))
        (nat_abs-sub (A -ℤ k *ℤ pos D) (A -ℤ j *ℤ pos D))

    odd : 1 ≡ nat_abs (j -ℤ k) → ⊥
    odd e =
        let t : D ≤ off_by A D k + off_by A D j = omega (arith, together, ap (λ (m : ℕ). m * D) e) in
        let u : nat_abs j % 2 ≡ 0 = a.even (omega (arith, a.close, b.close)) in
        let v : nat_abs k % 2 ≡ 0 = b.even (omega (arith, a.close, b.close)) in
        omega (arith, parity j k)

    none : (m : ℕ) → m ≡ nat_abs (j -ℤ k) → nat_abs (j -ℤ k) ≡ 0
    none zero e = sym e
    none (suc zero) e = absurd (odd e)
    none (suc (suc m)) e =
        absurd (let t : suc (suc m) * D ≤ off_by A D k + off_by A D j = omega (arith, together, ap (λ (m : ℕ). m * D) e) in
        let u : 2 * D ≤ suc (suc m) * D = mul-le-mul_right D (omega arith) in
        clash (off_by A D k) (off_by A D j) u t a.close b.close)
      where
        clash : (x y : ℕ) → 2 * D ≤ suc (suc m) * D → suc (suc m) * D ≤ x + y → 2 * y ≤ D → 2 * x ≤ D → ⊥
        clash x y u t p q = omega (arith, P)

pub nearest_moved : (A : ℤ) (D h : ℕ) (n : ℤ) → NearestTo (A +ℤ pos (2 * h) *ℤ pos D) D n → NearestTo A D (n -ℤ pos (2 * h))
nearest_moved A D h n a = record {
  close = omega (arith, a.close, same);
  even = λ e. let p = a.even (omega (arith, same)) in omega (arith, parity n (pos (2 * h)));
}
  where
    same : off_by A D (n -ℤ pos (2 * h)) ≡ off_by (A +ℤ pos (2 * h) *ℤ pos D) D n
    same = ap nat_abs (ring (A ∷ n ∷ pos (2 * h) ∷ pos D ∷ []) (var 0 ⊝ (var 1 ⊝ var 2) ⊗ var 3) (var 0 ⊕ var 2 ⊗ var 3 ⊝ var 1 ⊗ var 3) tt)

pub nearest_same : (A B : ℤ) (D E : ℕ) (n : ℤ) → 0 < D → 0 < E → A *ℤ pos E ≡ B *ℤ pos D → NearestTo A D n → NearestTo B E n
nearest_same A B D E n P Q p a = record {
  close = le_of_mul-le-mul_right (subst (λ (m : ℕ). m ≤ E * D) twice (subst (λ (m : ℕ). 2 * off_by A D n * E ≤ m) (mul_comm D E) (mul-le-mul_right E a.close))) P;
  even = λ e. a.even (eq_of_mul-eq-mul_right E Q (2 * off_by A D n) D (twice ∙ ap (λ (m : ℕ). m * D) e ∙ mul_comm E D));
}
  where
    far : (C : ℤ) (F G : ℕ) → off_by C F n * G ≡ nat_abs (C *ℤ pos G -ℤ n *ℤ (pos F *ℤ pos G))
    far C F G = sym (nat_abs_mul (C -ℤ n *ℤ pos F) (pos G)) ∙ ap nat_abs (ring (C ∷ n ∷ pos F ∷ pos G ∷ []) ((var 0 ⊝ var 1 ⊗ var 2) ⊗ var 3) (var 0 ⊗ var 3 ⊝ var 1 ⊗ (var 2 ⊗ var 3)) tt)

    same : off_by A D n * E ≡ off_by B E n * D
    same = far A D E ∙ (λ k. nat_abs (p k -ℤ n *ℤ pos (mul_comm D E k))) ∙ sym (far B E D)

    twice : 2 * off_by A D n * E ≡ 2 * off_by B E n * D
    twice = mul_assoc 2 (off_by A D n) E ∙ ap (λ (m : ℕ). 2 * m) same ∙ sym (mul_assoc 2 (off_by B E n) D)

-- ---- of a float

pub whole_nearest : (x : Float) → finite x ≡ true → Nearest x (whole_of x)
unfolding whole_of value_of
whole_nearest x h = record { is_finite = h; nearest = closest_nearest (is_negative x) (num x) (den x) (den_pos x) }

pub whole-only : (x : Float) (n : ℤ) → Nearest x n → n ≡ whole_of x
whole-only x n h = nearest_one (value_of x) (den x) n (whole_of x) (den_pos x) h.nearest (whole_nearest x h.is_finite).nearest

pub nearest_valued : {x y : Float} {j k : ℤ} → is_negative x ≡ is_negative y → num x * den y ≡ num y * den x → Nearest x j → Nearest y k → j ≡ k
unfolding value_of
nearest_valued {x} {y} {j} {k} s e p q =
    nearest_one (value_of y) (den y) j k (den_pos y)
    (nearest_same (value_of x) (value_of y) (den x) (den y) j (den_pos x) (den_pos y) (times (is_negative x) (num x) (den y) ∙ (λ i. signed (s i) (e i)) ∙ sym (times (is_negative y) (num y) (den x))) p.nearest)
    q.nearest
  where
    times : (b : Bool) (m d : ℕ) → signed b m *ℤ pos d ≡ signed b (m * d)
    times false m d = refl
    times true m d = *ℤ-neg-l (pos m) (pos d)

pub whole_size : (x : Float) → nat_abs (whole_of x) ≡ closest (num x) (den x)
unfolding whole_of
whole_size x = size (is_negative x) (closest (num x) (den x))
  where
    size : (s : Bool) (k : ℕ) → nat_abs (signed s k) ≡ k
    size false k = refl
    size true k = nat_abs-neg (pos k)
