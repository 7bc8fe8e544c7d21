-- Polynomial identities over ℤ by computation: `ring ρ a b tt : ev ρ a ≡ ev ρ b`.
--
--   Ex          an expression: cst, var, ⊕, ⊝, ⊗, neg
--   ev ρ e      its value where variable i is the i-th of ρ
--   Pol         a polynomial: coefficients, each with the sorted list of its variables
--   norm e      the polynomial of e
--   same a b    the difference of a and b has no coefficient left
--   sub-zero→eq  numbers whose difference is 0 are the same
--
-- Main theorem: `ring`. An identity modulo a hypothesis is `ring ..` followed by `ap` of the hypothesis.
use mathlib.Core.Path.{◌≡◌, refl, sym, ◌∙◌, ap}
use mathlib.Core.Bool.{Bool, true, false, ◌&&◌}
use mathlib.Core.List.{List, [], ◌∷◌}
use Prim.Native.Nat.{ℕ, zero, suc, compare, Ordering}
use lib.Dec.{T, leb, eqb→eq, compare_is_eq}
use lib.IntN.{ℤ, pos, negsuc, neg_ℤ, ◌+ℤ◌, ◌-ℤ◌, ◌*ℤ◌, +ℤ_assoc, +ℤ_idl, +ℤ_idr, *ℤ_comm, zero-*ℤ, *ℤ-zero, -ℤ-+ℤ_cancel}
use Rattle.algebra.proofs.IntLaws.{+ℤ-left-comm, +ℤ-swap, *ℤ-add-l, *ℤ-add-r, *ℤ-assoc, *ℤ-left-comm, *ℤ-neg-l, one-*ℤ}

infixl 6 ◌⊕◌ ◌⊝◌
infixl 7 ◌⊗◌
pub data Ex : Type 0 where
  cst : ℤ → Ex
  var : ℕ → Ex
  ◌⊕◌ ◌⊝◌ ◌⊗◌ : Ex → Ex → Ex
  neg : Ex → Ex

abbrev pub at : List ℤ → ℕ → ℤ
at [] i = pos 0
at (x ∷ ρ) zero = x
at (x ∷ ρ) (suc i) = at ρ i

abbrev pub ev : List ℤ → Ex → ℤ
ev ρ (cst c) = c
ev ρ (var i) = at ρ i
ev ρ (a ⊕ b) = ev ρ a +ℤ ev ρ b
ev ρ (a ⊝ b) = ev ρ a -ℤ ev ρ b
ev ρ (a ⊗ b) = ev ρ a *ℤ ev ρ b
ev ρ (neg a) = neg_ℤ (ev ρ a)

-- a sum of coefficient times sorted list of variables
pub data Pol : Type 0 where
  nil : Pol
  tm : ℤ → List ℕ → Pol → Pol

abbrev pub mins : ℕ → List ℕ → List ℕ
mins i [] = i ∷ []
mins i (j ∷ b) = elim (leb i j) [ true ↦ i ∷ j ∷ b | false ↦ j ∷ mins i b ]

abbrev pub mmul : List ℕ → List ℕ → List ℕ
mmul [] b = b
mmul (i ∷ a) b = mins i (mmul a b)

abbrev pub mcmp : List ℕ → List ℕ → Ordering
mcmp [] [] = Ordering.eq
mcmp [] (j ∷ b) = Ordering.gt
mcmp (i ∷ a) [] = Ordering.lt
mcmp (i ∷ a) (j ∷ b) = elim (compare i j) [ Ordering.lt ↦ Ordering.lt | Ordering.eq ↦ mcmp a b | Ordering.gt ↦ Ordering.gt ]

abbrev pub pick : Ordering → Pol → Pol → Pol → Pol
pick Ordering.lt a b c = a
pick Ordering.eq a b c = b
pick Ordering.gt a b c = c

abbrev pub add_go : ℤ → List ℕ → Pol → (Pol → Pol) → Pol → Pol
add_go c m p f nil = tm c m p
add_go c m p f (tm d n q) =
    let x = tm c m (f (tm d n q)) in
    let y = tm (c +ℤ d) m (f q) in
    let z = tm d n (add_go c m p f q) in
    pick (mcmp m n) x y z

abbrev pub add_p : Pol → Pol → Pol
add_p nil q = q
add_p (tm c m p) q = add_go c m p (add_p p) q

abbrev pub mul_t : ℤ → List ℕ → Pol → Pol
mul_t c m nil = nil
mul_t c m (tm d n q) = tm (c *ℤ d) (mmul m n) (mul_t c m q)

abbrev pub mul_p : Pol → Pol → Pol
mul_p nil q = nil
mul_p (tm c m p) q = add_p (mul_t c m q) (mul_p p q)

abbrev pub norm : Ex → Pol
norm (cst c) = tm c [] nil
norm (var i) = tm (pos 1) (i ∷ []) nil
norm (a ⊕ b) = add_p (norm a) (norm b)
norm (a ⊝ b) = add_p (norm a) (mul_t (negsuc 0) [] (norm b))
norm (a ⊗ b) = mul_p (norm a) (norm b)
norm (neg a) = mul_t (negsuc 0) [] (norm a)

abbrev pub is_z : ℤ → Bool
is_z (pos zero) = true
is_z (pos (suc n)) = false
is_z (negsuc n) = false

abbrev pub all_z : Pol → Bool
all_z nil = true
all_z (tm c m p) = is_z c && all_z p

-- ---- a normal form has the value of its expression
module _ (ρ : List ℤ) where
  abbrev pub mon : List ℕ → ℤ
  mon [] = pos 1
  mon (i ∷ m) = at ρ i *ℤ mon m

  abbrev pub pev : Pol → ℤ
  pev nil = pos 0
  pev (tm c m p) = c *ℤ mon m +ℤ pev p

  mins_ok : (i : ℕ) (b : List ℕ) → mon (mins i b) ≡ at ρ i *ℤ mon b
  mins_ok i [] = refl
  mins_ok i (j ∷ b) = go (leb i j) (mins_ok i b)
    where
      go : (t : Bool) → mon (mins i b) ≡ at ρ i *ℤ mon b → mon (elim t [ true ↦ i ∷ j ∷ b | false ↦ j ∷ mins i b ]) ≡ at ρ i *ℤ (at ρ j *ℤ mon b)
      go true h = refl
      go false h = ap (λ x. at ρ j *ℤ x) h ∙ *ℤ-left-comm (at ρ j) (at ρ i) (mon b)

  mmul_ok : (a b : List ℕ) → mon (mmul a b) ≡ mon a *ℤ mon b
  mmul_ok [] b = sym (one-*ℤ (mon b))
  mmul_ok (i ∷ a) b = mins_ok i (mmul a b) ∙ ap (λ x. at ρ i *ℤ x) (mmul_ok a b) ∙ sym (*ℤ-assoc (at ρ i) (mon a) (mon b))

  mcmp_eq : (a b : List ℕ) → T (compare_is_eq (mcmp a b)) → mon a ≡ mon b
  mcmp_eq [] [] t = refl
  mcmp_eq [] (j ∷ b) t = absurd t
  mcmp_eq (i ∷ a) [] t = absurd t
  mcmp_eq (i ∷ a) (j ∷ b) t = go (compare i j) (eqb→eq i j) (mcmp_eq a b) t
    where
      go : (o : Ordering) → (T (compare_is_eq o) → i ≡ j) → (T (compare_is_eq (mcmp a b)) → mon a ≡ mon b)
          → T (compare_is_eq (elim o [ Ordering.lt ↦ Ordering.lt | Ordering.eq ↦ mcmp a b | Ordering.gt ↦ Ordering.gt ])) → at ρ i *ℤ mon a ≡ at ρ j *ℤ mon b
      go Ordering.lt e h t = absurd t
      go Ordering.eq e h t = rw (e tt, h t) refl
      go Ordering.gt e h t = absurd t

  pick_ok : (x y z : Pol) (v : ℤ) (o : Ordering) → pev x ≡ v → (T (compare_is_eq o) → pev y ≡ v) → pev z ≡ v → pev (pick o x y z) ≡ v
  pick_ok x y z v Ordering.lt a b c = a
  pick_ok x y z v Ordering.eq a b c = b tt
  pick_ok x y z v Ordering.gt a b c = c

  add_go_ok : (c : ℤ) (m : List ℕ) (p : Pol) (f : Pol → Pol) → ((q : Pol) → pev (f q) ≡ pev p +ℤ pev q) → (q : Pol) → pev (add_go c m p f q) ≡ (c *ℤ mon m +ℤ pev p) +ℤ pev q
  add_go_ok c m p f h nil = sym (+ℤ_idr (c *ℤ mon m +ℤ pev p))
  add_go_ok c m p f h (tm d n q) = pick_ok (tm c m (f (tm d n q))) (tm (c +ℤ d) m (f q)) (tm d n (add_go c m p f q)) ((c *ℤ mon m +ℤ pev p) +ℤ (d *ℤ mon n +ℤ pev q)) (mcmp m n)
      (ap (λ x. c *ℤ mon m +ℤ x) (h (tm d n q)) ∙ sym (+ℤ_assoc (c *ℤ mon m) (pev p) (d *ℤ mon n +ℤ pev q)))
      (λ t. ap (λ x. (c +ℤ d) *ℤ mon m +ℤ x) (h q) ∙ ap (λ x. x +ℤ (pev p +ℤ pev q)) (*ℤ-add-l c d (mon m)) ∙ +ℤ-swap (c *ℤ mon m) (d *ℤ mon m) (pev p) (pev q)
      ∙ ap (λ x. (c *ℤ mon m +ℤ pev p) +ℤ (d *ℤ x +ℤ pev q)) (mcmp_eq m n t))
      (ap (λ x. d *ℤ mon n +ℤ x) (add_go_ok c m p f h q) ∙ +ℤ-left-comm (d *ℤ mon n) (c *ℤ mon m +ℤ pev p) (pev q))

  add_p_ok : (p q : Pol) → pev (add_p p q) ≡ pev p +ℤ pev q
  add_p_ok nil q = sym (+ℤ_idl (pev q))
  add_p_ok (tm c m p) q = add_go_ok c m p (add_p p) (add_p_ok p) q

  mul_t_ok : (c : ℤ) (m : List ℕ) (q : Pol) → pev (mul_t c m q) ≡ (c *ℤ mon m) *ℤ pev q
  mul_t_ok c m nil = sym (*ℤ-zero (c *ℤ mon m))
  mul_t_ok c m (tm d n q) = rw (mmul_ok m n, mul_t_ok c m q) (simp (*ℤ-add-r, *ℤ-assoc) (ap (λ x. c *ℤ x +ℤ c *ℤ (mon m *ℤ pev q)) (*ℤ-left-comm d (mon m) (mon n))))

  mul_p_ok : (p q : Pol) → pev (mul_p p q) ≡ pev p *ℤ pev q
  mul_p_ok nil q = sym (zero-*ℤ (pev q))
  mul_p_ok (tm c m p) q = add_p_ok (mul_t c m q) (mul_p p q) ∙ rw (mul_t_ok c m q, mul_p_ok p q) (sym (*ℤ-add-l (c *ℤ mon m) (pev p) (pev q)))

  neg_p_ok : (p : Pol) → pev (mul_t (negsuc 0) [] p) ≡ neg_ℤ (pev p)
  neg_p_ok p = mul_t_ok (negsuc 0) [] p ∙ *ℤ-neg-l (pos 1) (pev p) ∙ ap neg_ℤ (one-*ℤ (pev p))

  norm_ok : (a : Ex) → pev (norm a) ≡ ev ρ a
  norm_ok (cst c) = +ℤ_idr (c *ℤ pos 1) ∙ *ℤ_comm c (pos 1) ∙ one-*ℤ c
  norm_ok (var i) = +ℤ_idr (pos 1 *ℤ (at ρ i *ℤ pos 1)) ∙ one-*ℤ (at ρ i *ℤ pos 1) ∙ *ℤ_comm (at ρ i) (pos 1) ∙ one-*ℤ (at ρ i)
  norm_ok (a ⊕ b) = add_p_ok (norm a) (norm b) ∙ rw (norm_ok a, norm_ok b) refl
  norm_ok (a ⊝ b) = add_p_ok (norm a) (mul_t (negsuc 0) [] (norm b)) ∙ rw (neg_p_ok (norm b), norm_ok a, norm_ok b) refl
  norm_ok (a ⊗ b) = mul_p_ok (norm a) (norm b) ∙ rw (norm_ok a, norm_ok b) refl
  norm_ok (neg a) = neg_p_ok (norm a) ∙ ap neg_ℤ (norm_ok a)

  all_z_ok : (p : Pol) → T (all_z p) → pev p ≡ pos 0
  all_z_ok nil t = refl
  all_z_ok (tm (pos zero) m p) t = rw (zero-*ℤ (mon m), all_z_ok p t) refl
  all_z_ok (tm (pos (suc n)) m p) t = absurd t
  all_z_ok (tm (negsuc n) m p) t = absurd t

-- the difference of the two sides has no coefficient left
abbrev pub same : Ex → Ex → Bool
same a b = all_z (norm (a ⊝ b))

pub sub-zero→eq : (x y : ℤ) → x -ℤ y ≡ pos 0 → x ≡ y
sub-zero→eq x y h = sym (-ℤ-+ℤ_cancel x y) ∙ ap (λ z. z +ℤ y) h ∙ +ℤ_idl y

pub ring : (ρ : List ℤ) (a b : Ex) → T (same a b) → ev ρ a ≡ ev ρ b
ring ρ a b t = sub-zero→eq (ev ρ a) (ev ρ b) (sym (norm_ok ρ (a ⊝ b)) ∙ all_z_ok ρ (norm (a ⊝ b)) t)
