-- Laws of circuits, in any dimension.
--
--   circuit_alike       a circuit is known by its signs below n
--   circuit-against     every sign turned is a circuit again
--   support n X         the points of a circuit, as a list: `support_within`, `on_support`
--   circuit_off         its weights are 0 off its support; `support_off`
--   circuit_flat        points that hold a whole circuit are flat
--   circuit_like        a circuit is known by its support, up to the sign: a dependency inside it has its signs, or all of them turned
use mathlib.Core.Path.{◌≡◌, sym, ◌∙◌, ap}
use mathlib.Core.Logic.{◌⊎◌, inl, inr}
use mathlib.Core.Bool.{not}
use mathlib.Core.List.{List, [], ◌∷◌, Memᴰ}
use Prim.Native.Nat.{ℕ, ◌<◌}
use lib.IntN.{ℤ, pos, neg_ℤ, ◌+ℤ◌, ◌*ℤ◌, neg_ℤ-neg_ℤ}
use Rattle.algebra.specs.Answer.{Reflects}
use Rattle.algebra.specs.Loops.{picks}
use Rattle.algebra.specs.Sets.{is_on, Within}
use Rattle.algebra.specs.Sign.{nought, sign_of, opposite, is_nought, NZ, Tri, below, at-nought, above}
use Rattle.algebra.proofs.AnswerLaws.{reflects_true, reflects-not, reflects-and, reflects_ltb, is-nought}
use Rattle.algebra.proofs.SetTests.{mem_on, is_on-picks, picks_within}
use Rattle.algebra.proofs.IntLaws.{*ℤ-neg-l, *ℤ-neg-r}
use Rattle.algebra.proofs.Ring.{cst, var, ◌⊕◌, ◌⊝◌, ◌⊗◌, neg, ring, sub-zero→eq}
use Rattle.algebra.proofs.SignLaws.{tri, both_zero, zero_if, sign_of-zero, zero-sign_of, sign_of-opposite, nought-opposite, scaled_sign}
use Rattle.matroid.specs.Configurations.{Configuration, volume}
use Rattle.matroid.specs.Dependencies.{Dependency, Somewhere}
use Rattle.matroid.specs.Circuits.{SignVector, Circuit, Alike, against}
use Rattle.matroid.proofs.Dependent.{dep_lin, dep-neg, somewhere-neg, somewhere_nowhere}
use Rattle.matroid.proofs.Bases.{independent}

-- ---- the support

pub support : ℕ → SignVector → List ℕ
support n X = picks n (λ i. not (is_nought (X i)))

module _ (n : ℕ) (X : SignVector) where
  pub support_within : Within 0 (support n X) n
  unfolding support
  support_within = picks_within _ n

  pub on_support : (i : ℕ) → Reflects ((i < n) × (X i ≡ nought → ⊥)) (is_on i (support n X))
  unfolding support
  on_support i = rw (is_on-picks (λ j. not (is_nought (X j))) n i) (reflects-and (reflects_ltb i n) (reflects-not (is-nought (X i))))

-- ---- circuits

module _ {n : ℕ} {P : Configuration} where
  pub circuit_alike : {X Y : SignVector} → Alike n X Y → Circuit n P X → Circuit n P Y
  circuit_alike e c = record {
    by = c.by;
    dependency = c.dependency;
    somewhere = c.somewhere;
    signs = λ i l. sym (e i l) ∙ c.signs i l;
    smallest = λ g h s off i l z. sym (e i l) ∙ c.smallest g h s (λ m k q. off m k (sym (e m k) ∙ q)) i l z;
  }

  pub circuit-against : {X : SignVector} → Circuit n P X → Circuit n P (against X)
  circuit-against {X} c = record {
    by = λ i. neg_ℤ (c.by i);
    dependency = dep-neg n P c.by c.dependency;
    somewhere = somewhere-neg n c.by c.somewhere;
    signs = λ i l. ap opposite (c.signs i l) ∙ sym (sign_of-opposite (c.by i));
    smallest = λ g h s off i l z. nought-opposite (X i) (c.smallest g h s (λ m k q. off m k (nought-opposite (X m) q)) i l z);
  }

  pub circuit_off : {X : SignVector} (c : Circuit n P X) (i : ℕ) → i < n → X i ≡ nought → c.by i ≡ pos 0
  circuit_off c i l e = zero-sign_of (c.by i) (sym (c.signs i l) ∙ e)

  pub support_off : {X : SignVector} (c : Circuit n P X) (i : ℕ) → i < n → (Memᴰ i (support n X) → ⊥) → c.by i ≡ pos 0
  support_off {X} c i l o = zero_if (c.by i) (λ z. o ((mem_on i (support n X)).1 (reflects_true (on_support n X i) (l, λ e. z (circuit_off c i l e)))))

  pub circuit_flat : {X : SignVector} → Circuit n P X → (s : List ℕ) → ((i : ℕ) → i < n → (X i ≡ nought → ⊥) → Memᴰ i s) → volume P s ≡ pos 0
  circuit_flat c s holds = zero_if (volume P s) (λ nz. somewhere_nowhere c.somewhere
      (independent n P s nz c.by c.dependency (λ m l o. zero_if (c.by m) (λ z. o (holds m l (λ e. z (circuit_off c m l e)))))))

pub circuit_like : (n : ℕ) (P : Configuration) (X : SignVector) → Circuit n P X → (g : ℕ → ℤ) → Dependency n P g → Somewhere n g → ((i : ℕ) → i < n → X i ≡ nought → g i ≡ pos 0)
    → Alike n X (λ i. sign_of (g i)) ⊎ Alike n X (against (λ i. sign_of (g i)))
circuit_like n P X c g h s off = go (tri (f j)) (tri (g j))
  where
    f : ℕ → ℤ
    f = c.by

    j : ℕ
    j = s.at

    -- 0 at j, which is on the support, and so 0 everywhere
    both : ℕ → ℤ
    both m = g j *ℤ f m +ℤ neg_ℤ (f j) *ℤ g m

    both_off : (m : ℕ) → m < n → X m ≡ nought → both m ≡ pos 0
    both_off m l e = both_zero (g j) (neg_ℤ (f j)) (circuit_off c m l e) (off m l e)

    on_j : X j ≡ nought → ⊥
    on_j e = s.so (off j s.low e)

    ratio : (m : ℕ) → m < n → g j *ℤ f m ≡ f j *ℤ g m
    ratio m l = sub-zero→eq (g j *ℤ f m) (f j *ℤ g m) (ring (g j ∷ f m ∷ f j ∷ g m ∷ []) (var 0 ⊗ var 1 ⊝ var 2 ⊗ var 3) (var 0 ⊗ var 1 ⊕ neg (var 2) ⊗ var 3) tt ∙ zero_if (both m) none)
      where
        none : NZ (both m) → ⊥
        none nz = on_j (c.smallest both (dep_lin n P (g j) (neg_ℤ (f j)) f g c.dependency h) (record { at = m; low = l; so = nz }) both_off j s.low
            (ring (f j ∷ g j ∷ []) (var 1 ⊗ var 0 ⊕ neg (var 0) ⊗ var 1) (cst (pos 0)) tt))

    go : Tri (f j) → Tri (g j) → Alike n X (λ i. sign_of (g i)) ⊎ Alike n X (against (λ i. sign_of (g i)))
    go (at-nought e) q = absurd (on_j (c.signs j s.low ∙ sign_of-zero (f j) e))
    go (below p) (at-nought e) = absurd (s.so e)
    go (above p) (at-nought e) = absurd (s.so e)
    go (above p) (above q) = inl (λ m l. c.signs m l ∙ scaled_sign (f m) (g m) q p (ratio m l))
    go (below p) (below q) = inl (λ m l. c.signs m l ∙ scaled_sign (f m) (g m) q p (*ℤ-neg-l (g j) (f m) ∙ ap neg_ℤ (ratio m l) ∙ sym (*ℤ-neg-l (f j) (g m))))
    go (above p) (below q) = inr (λ m l. c.signs m l ∙ scaled_sign (f m) (neg_ℤ (g m)) q p (*ℤ-neg-l (g j) (f m) ∙ ap neg_ℤ (ratio m l) ∙ sym (*ℤ-neg-r (f j) (g m))) ∙ sign_of-opposite (g m))
    go (below p) (above q) = inr (λ m l. c.signs m l ∙ scaled_sign (f m) (neg_ℤ (g m)) q p (ratio m l ∙ sym (*ℤ-neg-l (f j) (neg_ℤ (g m)) ∙ ap neg_ℤ (*ℤ-neg-r (f j) (g m)) ∙ neg_ℤ-neg_ℤ (f j *ℤ g m))) ∙ sign_of-opposite (g m))
