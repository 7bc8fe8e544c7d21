-- The two sides of a circuit, joined with the same points, have the same volume, in any dimension. Of points S that hold a circuit, the sets without one point of its plus side and those
-- without one of its minus side have the same sum of the sizes of their volumes. Such a set is a piece of the circuit, joined with the points of S off the circuit; it has a volume only where S
-- has one point more than a simplex.
--
--   size_without      the weight at a point of S has the size of the volume of the others
--   sides_same        numbers that sum to 0, by their signs
--   weights_inside    the weights of S live on the circuit
--   circuit_full      the points of S but one of the circuit have a volume whichever one it is, or in no case
--   side_volume t      the sum of the volumes of S without a point at which the circuit's sign passes t
--
-- Main theorem: `circuit_balanced`. Source 001, section 3.4.
use mathlib.Core.Path.{◌≡◌, refl, sym, ◌∙◌, ap, subst}
use mathlib.Core.Logic.{◌⊎◌, inl, inr, ⊎_elim}
use mathlib.Core.Bool.{Bool, true, false, cond}
use mathlib.Core.List.{List, [], ◌∷◌, ◌++◌, Memᴰ}
use Prim.Native.Nat.{ℕ, zero, suc, ◌+◌, ◌<◌}
use lib.ListN.{length}
use lib.IntN.{ℤ, pos, negsuc, nat_abs, ◌+ℤ◌}
use Rattle.algebra.specs.Loops.{tally}
use Rattle.algebra.specs.Sets.{On, Within, dropped}
use Rattle.algebra.specs.Sign.{Sign, minus, nought, plus, sign_of, opposite, is_minus, is_plus, NZ}
use Rattle.algebra.specs.Sum.{sum}
use Rattle.algebra.proofs.ListLaws.{Apart, Other, Split, split_at, middle, apart_middle}
use Rattle.algebra.proofs.LoopLaws.{tally_same}
use Rattle.algebra.proofs.Ring.{cst, var, ◌⊕◌, neg, ring}
use Rattle.algebra.proofs.SetTests.{mem_on, on_low, numbers_apart}
use Rattle.algebra.proofs.SizeLaws.{nat_abs-zero}
use Rattle.algebra.proofs.SignLaws.{zero_if, dec_nz, plus-nought, minus-nought, same_turned}
use Rattle.algebra.proofs.UnionLaws.{dropped-split}
use Rattle.matroid.specs.Configurations.{Configuration, volume}
use Rattle.matroid.specs.Dependencies.{Dependency}
use Rattle.matroid.specs.Circuits.{SignVector, Circuit, Alike, against}
use Rattle.matroid.proofs.Search.{Least, least}
use Rattle.matroid.proofs.Determinants.{alternate-zero, alternate_size}
use Rattle.matroid.proofs.Bases.{weights, weights_at, weights_on, weights_dependency}
use Rattle.matroid.proofs.CircuitLaws.{circuit_flat, circuit_like}

-- ---- numbers that sum to 0

abbrev on_side : (Sign → Bool) → (ℕ → ℤ) → ℕ → ℕ
on_side t g i = cond (t (sign_of (g i))) (nat_abs (g i)) 0

sides_total : (n : ℕ) (g : ℕ → ℤ) → pos (tally n (on_side is_plus g)) ≡ sum n g +ℤ pos (tally n (on_side is_minus g))
unfolding tally sign_of
sides_total zero g = refl
sides_total (suc n) g = go (g n) (sides_total n g)
  where
    below : ℤ
    below = pos (tally n (on_side is_minus g))

    go : (y : ℤ) → pos (tally n (on_side is_plus g)) ≡ sum n g +ℤ below
        → pos (tally n (on_side is_plus g) + cond (is_plus (sign_of y)) (nat_abs y) 0) ≡ (sum n g +ℤ y) +ℤ pos (tally n (on_side is_minus g) + cond (is_minus (sign_of y)) (nat_abs y) 0)
    go (pos zero) ih = ap (λ x. x +ℤ pos 0) ih ∙ ring (sum n g ∷ below ∷ []) (var 0 ⊕ var 1 ⊕ cst (pos 0)) (var 0 ⊕ cst (pos 0) ⊕ (var 1 ⊕ cst (pos 0))) tt
    go (pos (suc k)) ih = ap (λ x. x +ℤ pos (suc k)) ih ∙ ring (sum n g ∷ below ∷ pos (suc k) ∷ []) (var 0 ⊕ var 1 ⊕ var 2) (var 0 ⊕ var 2 ⊕ (var 1 ⊕ cst (pos 0))) tt
    go (negsuc k) ih = ap (λ x. x +ℤ pos 0) ih ∙ ring (sum n g ∷ below ∷ pos (suc k) ∷ []) (var 0 ⊕ var 1 ⊕ cst (pos 0)) (var 0 ⊕ neg (var 2) ⊕ (var 1 ⊕ var 2)) tt

sides_same : (n : ℕ) (g : ℕ → ℤ) → sum n g ≡ pos 0 → tally n (on_side is_plus g) ≡ tally n (on_side is_minus g)
sides_same n g e = ap nat_abs (sides_total n g ∙ ap (λ x. x +ℤ pos (tally n (on_side is_minus g))) e ∙ ring (pos (tally n (on_side is_minus g)) ∷ []) (cst (pos 0) ⊕ var 0) (var 0) tt)

-- ---- the circuit

module _ (n : ℕ) (P : Configuration) (X : SignVector) (c : Circuit n P X) (S : List ℕ) (w : Within 0 S n) (holds : (i : ℕ) → i < n → (X i ≡ nought → ⊥) → On S i) where
  once : (i : ℕ) (r : Split i S) → Memᴰ i (r.front ++ r.back) → ⊥
  once i r = apart_middle r.front i r.back (subst (Apart Other) r.is (numbers_apart S 0 n w))

  size_without : (i : ℕ) → On S i → nat_abs (weights P S i) ≡ nat_abs (volume P (dropped n i S))
  size_without i o =
      let r = split_at i S ((mem_on i S).1 o) in
      ap nat_abs (weights_at P S i r (once i r)) ∙ alternate_size (length r.front) (volume P (r.front ++ r.back)) ∙ ap (λ (s : List ℕ). nat_abs (volume P s)) (sym (dropped-split n i S w r))

  -- without a point outside the circuit the others still hold it, and so are flat
  weights_inside : (i : ℕ) → i < n → X i ≡ nought → weights P S i ≡ pos 0
  weights_inside i l e = zero_if (weights P S i) (λ nz. nz (at (split_at i S (weights_on P S i nz))))
    where
      at : Split i S → weights P S i ≡ pos 0
      at r = weights_at P S i r (once i r) ∙ alternate-zero (length r.front) (circuit_flat c (r.front ++ r.back)
          (λ m k nz. ⊎_elim (λ q. absurd (nz (ap X q ∙ e))) (λ y. y) (middle r.front r.back (subst (Memᴰ m) r.is ((mem_on m S).1 (holds m k nz))))))

  weighed : Dependency n P (weights P S)
  weighed = weights_dependency n P S (λ i m. (on_low S 0 n i w ((mem_on i S).0 m)).1)

  pub circuit_full : (v : ℕ) → v < n → (X v ≡ nought → ⊥) → NZ (volume P (dropped n v S)) → (u : ℕ) → u < n → (X u ≡ nought → ⊥) → NZ (volume P (dropped n u S))
  circuit_full v vl vz nz u ul uz e = uz (c.smallest (weights P S) weighed (record { at = v; low = vl; so = some }) weights_inside u ul (nat_abs-zero (weights P S u) (size_without u (holds u ul uz) ∙ ap nat_abs e)))
    where
      some : NZ (weights P S v)
      some q = nz (nat_abs-zero (volume P (dropped n v S)) (sym (size_without v (holds v vl vz)) ∙ ap nat_abs q))

  abbrev pub side_volume : (Sign → Bool) → ℕ
  side_volume t = tally n (λ i. cond (t (X i)) (nat_abs (volume P (dropped n i S))) 0)

  -- by the weights
  by_weights : (t : Sign → Bool) → t nought ≡ false → side_volume t ≡ tally n (λ i. cond (t (X i)) (nat_abs (weights P S i)) 0)
  by_weights t none = tally_same _ _ n (λ i l. at i l (X i) refl)
    where
      at : (i : ℕ) → i < n → (s : Sign) → X i ≡ s → cond (t s) (nat_abs (volume P (dropped n i S))) 0 ≡ cond (t s) (nat_abs (weights P S i)) 0
      at i l minus e = ap (λ (k : ℕ). cond (t minus) k 0) (sym (size_without i (holds i l (λ q. minus-nought (sym e ∙ q)))))
      at i l nought e = rw none refl
      at i l plus e = ap (λ (k : ℕ). cond (t plus) k 0) (sym (size_without i (holds i l (λ q. plus-nought (sym e ∙ q)))))

  pub circuit_balanced : side_volume is_plus ≡ side_volume is_minus
  unfolding opposite
  circuit_balanced = by_weights is_plus refl ∙ go (least n (λ i. NZ (g i)) (λ i. dec_nz (g i))) ∙ sym (by_weights is_minus refl)
    where
      g : ℕ → ℤ
      g = weights P S

      sized : (Sign → Bool) → ℕ
      sized t = tally n (λ i. cond (t (X i)) (nat_abs (g i)) 0)

      same : tally n (on_side is_plus g) ≡ tally n (on_side is_minus g)
      same = sides_same n g weighed.ones

      by_sign : (t u : Sign → Bool) → ((i : ℕ) → i < n → t (X i) ≡ u (sign_of (g i))) → sized t ≡ tally n (on_side u g)
      by_sign t u h = tally_same _ _ n (λ i l. ap (λ (b : Bool). cond b (nat_abs (g i)) 0) (h i l))

      alike : Alike n X (λ i. sign_of (g i)) ⊎ Alike n X (against (λ i. sign_of (g i))) → sized is_plus ≡ sized is_minus
      alike (inl a) = by_sign is_plus is_plus (λ i l. ap is_plus (a i l)) ∙ same ∙ sym (by_sign is_minus is_minus (λ i l. ap is_minus (a i l)))
      alike (inr a) = by_sign is_plus is_minus (λ i l. ap is_plus (a i l) ∙ same_turned plus (sign_of (g i))) ∙ sym same ∙ sym (by_sign is_minus is_plus (λ i l. ap is_minus (a i l) ∙ same_turned minus (sign_of (g i))))

      go : Least n (λ i. NZ (g i)) ⊎ ((i : ℕ) → i < n → NZ (g i) → ⊥) → sized is_plus ≡ sized is_minus
      go (inl r) = alike (circuit_like n P X c g weighed (record { at = r.here; low = r.low; so = r.so }) weights_inside)
      go (inr h) = tally_same _ _ n (λ i l. let e = zero_if (g i) (h i l) in none (is_plus (X i)) e ∙ sym (none (is_minus (X i)) e))
        where
          none : (b : Bool) {z : ℤ} → z ≡ pos 0 → cond b (nat_abs z) 0 ≡ 0
          none true e = ap nat_abs e
          none false e = refl
