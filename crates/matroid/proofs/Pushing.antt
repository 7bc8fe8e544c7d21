-- Dependencies pushed along a circuit until one point of a side is free, in any dimension.
--
--   Signed n P X s      a dependency with the circuit's signs: positive on the side s, negative on the other; `signed`
--   which-side          a point of the circuit is on one of its sides
--   some_of_side        a point of a side with a property, or none has it
--   pushed w f r        f and the signed dependency combined so that the point of the side at which f is least against it is 0
--
-- Main theorems: `nothing_off`: where a member holds the other side of a supported circuit, a dependency that is positive off the circuit in the link alone and negative in the
-- member alone is 0 off the circuit; `other_inside`: a dependency that separates the circuit and a member of the link from a set, while what lacks a point of the side is not separated from it,
-- is negative on the other side.
use mathlib.Core.Path.{◌≡◌, sym, ◌∙◌, ap, subst}
use mathlib.Core.Logic.{◌⊎◌, inl, inr, ⊎_elim, ◌↔◌}
use mathlib.Core.List.{List, [], ◌∷◌}
use Prim.Native.Nat.{ℕ, ◌<◌}
use lib.IntN.{ℤ, pos, neg_ℤ, ◌+ℤ◌, ◌*ℤ◌}
use Rattle.algebra.specs.Sets.{On, Within}
use Rattle.algebra.specs.Sign.{Side, Sign, minus, nought, plus, opposite, Pos, NN, Neg, NP, Tri, below, at-nought, above}
use Rattle.algebra.proofs.Ring.{cst, var, ◌⊕◌, ◌⊝◌, ◌⊗◌, neg, ring}
use Rattle.algebra.proofs.SignLaws.{tri, dec_pos, zero_if, pos_cast, nn_cast, pos-mul, pos_nn_add, pos_nn, nn-zero, pos-zero, neg_nn, pos_of_mul, neg_of_mul, zero_of_mul}
use Rattle.algebra.proofs.SignLaws.{pos-sign_of, neg-sign_of, zero-sign_of, sign_of_pos, sign_of-neg, sign_of-zero, opposite-opposite}
use Rattle.matroid.specs.Configurations.{Configuration}
use Rattle.matroid.specs.Dependencies.{Dependency, Separated}
use Rattle.matroid.specs.Circuits.{SignVector, Circuit, against}
use Rattle.matroid.specs.Triangulations.{Family, Triangulation}
use Rattle.matroid.specs.Flips.{Supports}
use Rattle.matroid.proofs.Search.{dec_both, Least, least, Min, minimum}
use Rattle.matroid.proofs.Dependent.{dep_lin}
use Rattle.matroid.proofs.CircuitLaws.{circuit-against}
use Rattle.matroid.proofs.TriangulationLaws.{members_apart}
use Rattle.matroid.proofs.FlipLaws.{Linked, Holds, some-side}
use Rattle.matroid.proofs.FlipSets.{whole, joined, on_whole, on-joined, joined_old}

-- ---- the circuit's dependency, seen from a side

record Signed (n : ℕ) (P : Configuration) (X : SignVector) (s : Sign) : Type 0 where
  by : ℕ → ℤ
  dependency : Dependency n P by
  on-side : (i : ℕ) → i < n → (X i ≡ s) ↔ Pos (by i)
  on_other : (i : ℕ) → i < n → (X i ≡ opposite s) ↔ Neg (by i)
  off : (i : ℕ) → i < n → (X i ≡ nought) ↔ (by i ≡ pos 0)

module _ {n : ℕ} {P : Configuration} {X : SignVector} where
  signed_plus : Circuit n P X → Signed n P X plus
  unfolding opposite
  signed_plus z = record {
    by = z.by;
    dependency = z.dependency;
    on-side = λ i l. (λ e. pos-sign_of (z.by i) (sym (z.signs i l) ∙ e), λ p. z.signs i l ∙ sign_of_pos (z.by i) p);
    on_other = λ i l. (λ e. neg-sign_of (z.by i) (sym (z.signs i l) ∙ e), λ p. z.signs i l ∙ sign_of-neg (z.by i) p);
    off = λ i l. (λ e. zero-sign_of (z.by i) (sym (z.signs i l) ∙ e), λ e. z.signs i l ∙ sign_of-zero (z.by i) e);
  }

  signed_minus : Signed n P (against X) plus → Signed n P X minus
  unfolding opposite
  signed_minus w = record {
    by = w.by;
    dependency = w.dependency;
    on-side = λ i l. turned i minus (w.on-side i l);
    on_other = λ i l. turned i plus (w.on_other i l);
    off = λ i l. turned i nought (w.off i l);
  }
    where
      turned : (i : ℕ) (q : Sign) {A : Type 0} → (against X i ≡ opposite q) ↔ A → (X i ≡ q) ↔ A
      turned i q h = (λ e. h.0 (ap opposite e), λ a. sym (opposite-opposite (X i)) ∙ ap opposite (h.1 a) ∙ opposite-opposite q)

signed : {n : ℕ} {P : Configuration} {X : SignVector} {s : Sign} → Circuit n P X → Side s → Signed n P X s
signed {n} {P} {X} z (inl e) = subst (Signed n P X) (sym e) (signed_plus z)
signed {n} {P} {X} z (inr e) = subst (Signed n P X) (sym e) (signed_minus (signed_plus (circuit-against z)))

-- ---- the push

module _ {n : ℕ} {P : Configuration} {X : SignVector} {s : Sign} (w : Signed n P X s) (f : ℕ → ℤ) where
  abbrev Lowest : Type 0
  Lowest = Min f w.by (λ i. Pos (w.by i)) n

  module _ (r : Lowest) where
    abbrev pushed : ℕ → ℤ
    pushed i = w.by r.at *ℤ f i +ℤ neg_ℤ (f r.at) *ℤ w.by i

    pushed_dependency : Dependency n P f → Dependency n P pushed
    pushed_dependency h = dep_lin n P (w.by r.at) (neg_ℤ (f r.at)) f w.by h w.dependency

    pushed_at : pushed r.at ≡ pos 0
    pushed_at = ring (w.by r.at ∷ f r.at ∷ []) (var 0 ⊗ var 1 ⊕ neg (var 1) ⊗ var 0) (cst (pos 0)) tt

    pushed-side : (i : ℕ) → i < n → Pos (w.by i) → NN (pushed i)
    pushed-side i l p = nn_cast (ring (f i ∷ w.by r.at ∷ f r.at ∷ w.by i ∷ []) (var 0 ⊗ var 1 ⊝ var 2 ⊗ var 3) (var 1 ⊗ var 0 ⊕ neg (var 2) ⊗ var 3) tt) (r.least_of i l p)

    -- off the circuit only f counts
    pushed_off : (i : ℕ) → w.by i ≡ pos 0 → pushed i ≡ w.by r.at *ℤ f i
    pushed_off i e = ap (λ z. w.by r.at *ℤ f i +ℤ neg_ℤ (f r.at) *ℤ z) e ∙ ring (w.by r.at ∷ f i ∷ f r.at ∷ []) (var 0 ⊗ var 1 ⊕ neg (var 2) ⊗ cst (pos 0)) (var 0 ⊗ var 1) tt

    off-neg : (i : ℕ) → w.by i ≡ pos 0 → Neg (pushed i) → Neg (f i)
    off-neg i e p = neg_of_mul (f i) r.is (pos_cast (ap neg_ℤ (pushed_off i e)) p)

    -- on the other side f is below the push, where it is positive on the side
    other-neg : (i : ℕ) → Pos (f r.at) → Neg (w.by i) → NP (pushed i) → Neg (f i)
    other-neg i fp q p =
        pos_of_mul r.is (pos_cast
        (ring (w.by r.at ∷ f i ∷ f r.at ∷ w.by i ∷ []) (var 2 ⊗ neg (var 3) ⊕ neg (var 0 ⊗ var 1 ⊕ neg (var 2) ⊗ var 3)) (var 0 ⊗ neg (var 1)) tt)
        (pos_nn_add (pos-mul fp q) p))

    -- what the push leaves positive lacks the lowest point
    pushed-left : (c : List ℕ) → Within 0 c n → ((i : ℕ) → i < n → X i ≡ nought → Pos (f i) → On c i) → (i : ℕ) → i < n → Pos (pushed i) → On (joined n X r.at c) i
    pushed-left c v h i l p = (on-joined n X r.at c v i l).1 (λ e. h i l e (pos_of_mul r.is (pos_cast (pushed_off i ((w.off i l).0 e)) p)), λ e. pos-zero p (ap pushed e ∙ pushed_at))

module _ {n : ℕ} {P : Configuration} {X : SignVector} {s : Sign} (z : Circuit n P X) (d : Side s) where
  W : Signed n P X s
  W = signed z d

  pub which-side : (i : ℕ) → i < n → (X i ≡ nought → ⊥) → (X i ≡ s) ⊎ (X i ≡ opposite s)
  which-side i l nz = go (tri (W.by i))
    where
      go : Tri (W.by i) → (X i ≡ s) ⊎ (X i ≡ opposite s)
      go (above p) = inl ((W.on-side i l).1 p)
      go (at-nought e) = absurd (nz ((W.off i l).1 e))
      go (below p) = inr ((W.on_other i l).1 p)

  pub some_of_side : (Q : ℕ → Type 0) → ((v : ℕ) → Dec (Q v)) → ((v : ℕ) × (v < n) × (X v ≡ s) × Q v) ⊎ ((v : ℕ) → v < n → X v ≡ s → Q v → ⊥)
  some_of_side Q dec = go (least n (λ v. Pos (W.by v) × Q v) (λ v. dec_both (dec_pos (W.by v)) (dec v)))
    where
      go : Least n (λ v. Pos (W.by v) × Q v) ⊎ ((v : ℕ) → v < n → Pos (W.by v) × Q v → ⊥) → ((v : ℕ) × (v < n) × (X v ≡ s) × Q v) ⊎ ((v : ℕ) → v < n → X v ≡ s → Q v → ⊥)
      go (inl r) = inl (r.here, r.low, (W.on-side r.here r.low).1 r.so.0, r.so.1)
      go (inr none) = inr (λ v l e q. none v l ((W.on-side v l).0 e, q))

  lowest : (f : ℕ → ℤ) → Lowest W f
  lowest f = let (v, l, e) = some-side z s d in ⊎_elim (λ r. r) (λ none. absurd (none v l ((W.on-side v l).0 e))) (minimum f W.by (λ i. Pos (W.by i)) (λ i. dec_pos (W.by i)) (λ i p. p) n)

  pub nothing_off : {T : Family} → Triangulation n P T → Supports n T X s → (t : List ℕ) → T t → Holds n X s t → (c : List ℕ) → Linked n T X s c → (f : ℕ → ℤ) → Dependency n P f
      → ((i : ℕ) → i < n → X i ≡ nought → Pos (f i) → On c i) → ((i : ℕ) → i < n → X i ≡ nought → Neg (f i) → On t i) → (x : ℕ) → x < n → X x ≡ nought → f x ≡ pos 0
  nothing_off {T} g h t m holds c l f k into_c into_t x xl xo = zero_if (f x) (λ nz. members_apart g (joined n X r.at c) t (joined_old g z d h r.at r.low ((W.on-side r.at r.low).1 r.is) c l) m (record {
    by = pushed W f r;
    dependency = pushed_dependency W f r k;
    somewhere = record { at = x; low = xl; so = λ e. nz (zero_of_mul (λ y. pos-zero r.is y) (sym (pushed_off W f r x ((W.off x xl).0 xo)) ∙ e)) };
    left = pushed-left W f r c l.2.0 into_c;
    right = λ i il p. right i il p (tri (W.by i));
  }))
    where
      r : Lowest W f
      r = lowest f

      right : (i : ℕ) → i < n → Neg (pushed W f r i) → Tri (W.by i) → On t i
      right i il p (above q) = neg_nn p (pushed-side W f r i il q)
      right i il p (at-nought e) = into_t i il ((W.off i il).1 e) (off-neg W f r i e p)
      right i il p (below q) = holds i il ((W.on_other i il).1 q)

  pub other_inside : (c : List ℕ) → Within 0 c n → (S : ℕ → Type 0) → ((v : ℕ) → v < n → X v ≡ s → Separated n P (On (joined n X v c)) S → ⊥)
      → (k : Separated n P (On (whole n X c)) S) → (i : ℕ) → i < n → X i ≡ opposite s → Neg (k.by i)
  other_inside c v S apart k i il e = go (dec_pos (f r.at))
    where
      f : ℕ → ℤ
      f = k.by

      r : Lowest W f
      r = lowest f

      none : Separated n P (On (joined n X r.at c)) S → ⊥
      none = apart r.at r.low ((W.on-side r.at r.low).1 r.is)

      into_c : (j : ℕ) → j < n → Pos (f j) → X j ≡ nought → On c j
      into_c j jl p = (on_whole n X c v j jl).0 (k.left j jl p)

      right : Pos (f r.at) → (j : ℕ) → j < n → Neg (pushed W f r j) → Tri (W.by j) → Neg (f j)
      right fp j jl p (above q) = neg_nn p (pushed-side W f r j jl q)
      right fp j jl p (at-nought q) = off-neg W f r j q p
      right fp j jl p (below q) = other-neg W f r j fp q (pos_nn p)

      -- the push is 0 everywhere
      flat : Pos (f r.at) → pushed W f r i ≡ pos 0
      flat fp = zero_if (pushed W f r i) (λ nz. none (record {
        by = pushed W f r;
        dependency = pushed_dependency W f r k.dependency;
        somewhere = record { at = i; low = il; so = nz };
        left = pushed-left W f r c v (λ j jl y p. into_c j jl p y);
        right = λ j jl p. k.right j jl (right fp j jl p (tri (W.by j)));
      }))

      -- f itself, where it is not positive at the lowest point
      go : Dec (Pos (f r.at)) → Neg (f i)
      go (no np) = absurd (none (record {
        by = f;
        dependency = k.dependency;
        somewhere = k.somewhere;
        left = λ j jl p. (on-joined n X r.at c v j jl).1 (into_c j jl p, λ y. np (pos_cast (ap f y) p));
        right = k.right;
      }))
      go (yes fp) = other-neg W f r i fp ((W.on_other i il).0 e) (nn-zero (ap neg_ℤ (flat fp)))
