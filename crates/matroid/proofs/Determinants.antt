-- Laws of alternating sums and of determinants, of any size.
--
--   alt_lin, alt-neg, alt-zero     linear in D
--   alt_same, alt_none             the same where g is the same on the list; 0 where g is 0 on it
--   alt-alt                        two alternating sums over one list, exchanged, turn the sign
--   alt-over                       two over different lists may be exchanged
--   alternate k z                  z with the sign of place k: + - + ..; `alternate-zero`, `alternate_size`
--   alt_off, alt_at                the alternating sum of a unit vector: 0 off the list, and at a place of it D of the other members, with the sign of the place
--   Swaps F                        F turns its sign where two neighbours of its list are exchanged; `swaps_tail`: so it does past a head
--   repeated, swaps_apart          what swaps is 0 where a member stands twice; so where it is not 0 the members are different
--   to_front                       it is 0 where it is 0 with a member moved to the front
--   by_column                      a determinant by its first column
--   rows_swap, columns_swap        a determinant swaps, in its rows and in its columns
--   det_uneven                     it is 0 where there are not as many rows as columns
use mathlib.Core.Path.{◌≡◌, refl, sym, ◌∙◌, ap, ap₂, subst}
use mathlib.Core.List.Memᴰ
use mathlib.Core.List.{List, [], ◌∷◌, ◌++◌, Memᴰ}
use mathlib.Core.Logic.{⊎_elim}
use Prim.Native.Nat.{ℕ, zero, suc}
use lib.ListN.{length}
use lib.IntN.{ℤ, pos, neg_ℤ, nat_abs, ◌-ℤ◌, ◌*ℤ◌}
use Rattle.algebra.specs.Sign.{NZ}
use Rattle.algebra.specs.Sum.{unit}
use Rattle.algebra.proofs.ListLaws.{Apart, Other}
use Rattle.algebra.proofs.Ring.{cst, var, ◌⊝◌, ◌⊗◌, neg, ring}
use Rattle.algebra.proofs.SignLaws.{self-neg}
use Rattle.algebra.proofs.SizeLaws.{nat_abs-neg}
use Rattle.algebra.proofs.SumLaws.{unit_on, unit_off}
use Rattle.matroid.specs.Determinants.{alt, det}

-- ---- alternating sums

module _ {A : Type 0} where
  pub alt_lin : (x : ℤ) (D E : List A → ℤ) (s : List A) (g : A → ℤ) → alt (λ t. x *ℤ D t -ℤ E t) s g ≡ x *ℤ alt D s g -ℤ alt E s g
  alt_lin x D E [] g = ring (x ∷ []) (cst (pos 0)) (var 0 ⊗ cst (pos 0) ⊝ cst (pos 0)) tt
  alt_lin x D E (a ∷ s) g =
      ap (λ z. g a *ℤ (x *ℤ D s -ℤ E s) -ℤ z) (alt_lin x (λ t. D (a ∷ t)) (λ t. E (a ∷ t)) s g)
      ∙ ring (x ∷ g a ∷ D s ∷ E s ∷ alt (λ t. D (a ∷ t)) s g ∷ alt (λ t. E (a ∷ t)) s g ∷ [])
      (var 1 ⊗ (var 0 ⊗ var 2 ⊝ var 3) ⊝ (var 0 ⊗ var 4 ⊝ var 5)) (var 0 ⊗ (var 1 ⊗ var 2 ⊝ var 4) ⊝ (var 1 ⊗ var 3 ⊝ var 5)) tt

  pub alt-neg : (D : List A → ℤ) (s : List A) (g : A → ℤ) → alt (λ t. neg_ℤ (D t)) s g ≡ neg_ℤ (alt D s g)
  alt-neg D [] g = refl
  alt-neg D (a ∷ s) g =
      ap (λ z. g a *ℤ neg_ℤ (D s) -ℤ z) (alt-neg (λ t. D (a ∷ t)) s g)
      ∙ ring (g a ∷ D s ∷ alt (λ t. D (a ∷ t)) s g ∷ []) (var 0 ⊗ neg (var 1) ⊝ neg (var 2)) (neg (var 0 ⊗ var 1 ⊝ var 2)) tt

  pub alt-zero : (s : List A) (g : A → ℤ) → alt (λ t. pos 0) s g ≡ pos 0
  alt-zero [] g = refl
  alt-zero (a ∷ s) g = ap (λ z. g a *ℤ pos 0 -ℤ z) (alt-zero s g) ∙ ring (g a ∷ []) (var 0 ⊗ cst (pos 0) ⊝ cst (pos 0)) (cst (pos 0)) tt

  pub alt_same : (D : List A → ℤ) (s : List A) {g h : A → ℤ} → ((a : A) → Memᴰ a s → g a ≡ h a) → alt D s g ≡ alt D s h
  alt_same D [] e = refl
  alt_same D (a ∷ s) e = ap₂ (λ x y. x *ℤ D s -ℤ y) (e a (Memᴰ.head refl)) (alt_same (λ t. D (a ∷ t)) s (λ b m. e b (Memᴰ.tail m)))

  pub alt_none : (D : List A → ℤ) (s : List A) (g : A → ℤ) → ((a : A) → Memᴰ a s → g a ≡ pos 0) → alt D s g ≡ pos 0
  alt_none D [] g e = refl
  alt_none D (a ∷ s) g e =
      ap₂ (λ x y. x *ℤ D s -ℤ y) (e a (Memᴰ.head refl)) (alt_none (λ t. D (a ∷ t)) s g (λ b m. e b (Memᴰ.tail m)))
      ∙ ring (D s ∷ []) (cst (pos 0) ⊗ var 0 ⊝ cst (pos 0)) (cst (pos 0)) tt

  pub alt-alt : (D : List A → ℤ) (s : List A) (g h : A → ℤ) → alt (λ t. alt D t h) s g ≡ neg_ℤ (alt (λ t. alt D t g) s h)
  alt-alt D [] g h = refl
  alt-alt D (a ∷ s) g h =
      ap (λ z. g a *ℤ alt D s h -ℤ z) (alt_lin (h a) D (λ t. alt (λ u. D (a ∷ u)) t h) s g)
      ∙ ap (λ z. g a *ℤ alt D s h -ℤ (h a *ℤ alt D s g -ℤ z)) (alt-alt (λ t. D (a ∷ t)) s g h)
      ∙ ring (g a ∷ h a ∷ alt D s g ∷ alt D s h ∷ alt (λ t. alt (λ u. D (a ∷ u)) t g) s h ∷ [])
      (var 0 ⊗ var 3 ⊝ (var 1 ⊗ var 2 ⊝ neg (var 4))) (neg (var 1 ⊗ var 2 ⊝ (var 0 ⊗ var 3 ⊝ var 4))) tt
      ∙ ap (λ z. neg_ℤ (h a *ℤ alt D s g -ℤ z)) (sym (alt_lin (g a) D (λ t. alt (λ u. D (a ∷ u)) t g) s h))

pub alt-over : {A B : Type 0} (F : List A → List B → ℤ) (s : List A) (cs : List B) (g : A → ℤ) (h : B → ℤ) → alt (λ t. alt (λ u. F u t) s g) cs h ≡ alt (λ u. alt (F u) cs h) s g
alt-over F [] cs g h = alt-zero cs h
alt-over F (a ∷ s) cs g h = alt_lin (g a) (F s) (λ t. alt (λ u. F (a ∷ u) t) s g) cs h ∙ ap (λ z. g a *ℤ alt (F s) cs h -ℤ z) (alt-over (λ u. F (a ∷ u)) s cs g h)

-- ---- one place

abbrev pub alternate : ℕ → ℤ → ℤ
alternate zero z = z
alternate (suc k) z = neg_ℤ (alternate k z)

pub alternate-zero : (k : ℕ) {z : ℤ} → z ≡ pos 0 → alternate k z ≡ pos 0
alternate-zero zero e = e
alternate-zero (suc k) e = ap neg_ℤ (alternate-zero k e)

pub alternate_size : (k : ℕ) (z : ℤ) → nat_abs (alternate k z) ≡ nat_abs z
alternate_size zero z = refl
alternate_size (suc k) z = nat_abs-neg (alternate k z) ∙ alternate_size k z

pub alt_off : (D : List ℕ → ℤ) (s : List ℕ) (m : ℕ) → (Memᴰ m s → ⊥) → alt D s (λ i. unit i m) ≡ pos 0
alt_off D s m off = alt_none D s (λ i. unit i m) (λ i k. unit_off i m (λ e. off (Memᴰ.cast e k)))

pub alt_at : (D : List ℕ → ℤ) (p q : List ℕ) (m : ℕ) → (Memᴰ m (p ++ q) → ⊥) → alt D (p ++ m ∷ q) (λ i. unit i m) ≡ alternate (length p) (D (p ++ q))
alt_at D [] q m off = ap₂ (λ x y. x *ℤ D q -ℤ y) (unit_on m) (alt_off (λ t. D (m ∷ t)) q m off) ∙ ring (D q ∷ []) (cst (pos 1) ⊗ var 0 ⊝ cst (pos 0)) (var 0) tt
alt_at D (j ∷ p) q m off =
    ap₂ (λ x y. x *ℤ D (p ++ m ∷ q) -ℤ y) (unit_off j m (λ e. off (Memᴰ.head e))) (alt_at (λ t. D (j ∷ t)) p q m (λ k. off (Memᴰ.tail k)))
    ∙ ring (D (p ++ m ∷ q) ∷ alternate (length p) (D (j ∷ p ++ q)) ∷ []) (cst (pos 0) ⊗ var 0 ⊝ var 1) (neg (var 1)) tt

-- ---- what swaps

pub Swaps : {A : Type 0} → (List A → ℤ) → Type 0
Swaps {A} F = (p : List A) (a b : A) (s : List A) → F (p ++ a ∷ b ∷ s) ≡ neg_ℤ (F (p ++ b ∷ a ∷ s))

module _ {A : Type 0} where
  pub swaps_tail : (F : List A → ℤ) → Swaps F → (a : A) → Swaps (λ t. F (a ∷ t))
  unfolding Swaps
  swaps_tail F h a p = h (a ∷ p)

  pub repeated : (F : List A → ℤ) → Swaps F → (a : A) (s : List A) → Memᴰ a s → F (a ∷ s) ≡ pos 0
  unfolding Swaps
  repeated F h a [] m = absurd (Memᴰ.not-nil m)
  repeated F h a (b ∷ s) m =
      ⊎_elim (λ (e : a ≡ b). subst (λ (x : A). F (a ∷ x ∷ s) ≡ pos 0) e (self-neg (F (a ∷ a ∷ s)) (h [] a a s)))
      (λ k. h [] a b s ∙ ap neg_ℤ (repeated (λ t. F (b ∷ t)) (swaps_tail F h b) a s k)) (Memᴰ.cases_cons m)

  pub swaps_apart : (F : List A → ℤ) → Swaps F → (s : List A) → NZ (F s) → Apart Other s
  swaps_apart F h [] nz = tt
  swaps_apart F h (a ∷ s) nz = (λ b m e. nz (repeated F h a s (Memᴰ.cast e m)), swaps_apart (λ t. F (a ∷ t)) (swaps_tail F h a) s nz)

  pub to_front : (F : List A → ℤ) → Swaps F → (p : List A) (a : A) (s : List A) → F (a ∷ p ++ s) ≡ pos 0 → F (p ++ a ∷ s) ≡ pos 0
  unfolding Swaps
  to_front F h [] a s e = e
  to_front F h (b ∷ p) a s e = to_front (λ t. F (b ∷ t)) (swaps_tail F h b) p a s (h [] b a (p ++ s) ∙ ap neg_ℤ e)

-- ---- determinants

module _ (M : ℕ → ℕ → ℤ) where
  pub by_column : (s : List ℕ) (c : ℕ) (cs : List ℕ) → det M s (c ∷ cs) ≡ alt (λ t. det M t cs) s (λ i. M i c)
  by_column [] c cs = refl
  by_column (i ∷ s) c cs =
      ap (λ (D : List ℕ → ℤ). M i c *ℤ det M s cs -ℤ alt D cs (M i)) (λ k t. by_column s c t k)
      ∙ ap (λ z. M i c *ℤ det M s cs -ℤ z) (alt-over (det M) s cs (λ m. M m c) (M i))

  pub rows_swap : (cs : List ℕ) → Swaps (λ s. det M s cs)
  unfolding Swaps
  rows_swap cs [] a b s = alt-alt (det M s) cs (M a) (M b)
  rows_swap cs (i ∷ p) a b s = ap (λ (D : List ℕ → ℤ). alt D cs (M i)) (λ k t. rows_swap t p a b s k) ∙ alt-neg (det M (p ++ b ∷ a ∷ s)) cs (M i)

  pub columns_swap : (s : List ℕ) → Swaps (det M s)
  unfolding Swaps
  columns_swap s [] c e cs =
      by_column s c (e ∷ cs) ∙ ap (λ (D : List ℕ → ℤ). alt D s (λ i. M i c)) (λ k t. by_column t e cs k) ∙ alt-alt (λ t. det M t cs) s (λ i. M i c) (λ i. M i e)
      ∙ ap neg_ℤ (ap (λ (D : List ℕ → ℤ). alt D s (λ i. M i e)) (λ k t. sym (by_column t c cs) k) ∙ sym (by_column s e (c ∷ cs)))
  columns_swap s (d ∷ p) c e cs =
      by_column s d (p ++ c ∷ e ∷ cs) ∙ ap (λ (D : List ℕ → ℤ). alt D s (λ i. M i d)) (λ k t. columns_swap t p c e cs k) ∙ alt-neg (λ t. det M t (p ++ e ∷ c ∷ cs)) s (λ i. M i d)
      ∙ ap neg_ℤ (sym (by_column s d (p ++ e ∷ c ∷ cs)))

  pub det_uneven : (s cs : List ℕ) → (length s ≡ length cs → ⊥) → det M s cs ≡ pos 0
  det_uneven [] [] h = absurd (h refl)
  det_uneven [] (c ∷ cs) h = refl
  det_uneven (i ∷ s) cs h = short (det M s) cs (M i) (λ t e. det_uneven s t (λ q. h (ap suc q ∙ e)))
    where
      -- an alternating sum of which D is 0 on the lists of one member less
      short : (D : List ℕ → ℤ) (cs : List ℕ) (g : ℕ → ℤ) → ((t : List ℕ) → suc (length t) ≡ length cs → D t ≡ pos 0) → alt D cs g ≡ pos 0
      short D [] g z = refl
      short D (c ∷ cs) g z = ap₂ (λ x y. g c *ℤ x -ℤ y) (z cs refl) (short (λ t. D (c ∷ t)) cs g (λ t e. z (c ∷ t) (ap suc e))) ∙ ring (g c ∷ []) (var 0 ⊗ cst (pos 0) ⊝ cst (pos 0)) (cst (pos 0)) tt
