-- Laws of triangulations, in any dimension.
--
--   Shut n P T e s         e is a border face, or a face of another member of T than s: the union property of one face
--   triangulation_spans    the points of a triangulation span their space
--   members_apart          no two members are separated, nor is one from itself
--   lone_border            a face of one member alone is a border face
--   face_drops             a face is the simplex without one of its points
use mathlib.Core.Path.{◌≡◌, subst}
use mathlib.Core.Logic.{◌⊎◌, inl, inr, ⊎_elim}
use mathlib.Core.HLevel.{dec→stable}
use mathlib.Core.List.{List}
use Prim.Native.Nat.{ℕ, ◌<◌}
use native.Mathlib.Omega.{arith}
use lib.ListN.{length}
use Rattle.algebra.specs.Sets.{On, Within, dropped}
use Rattle.algebra.proofs.SetTests.{dec_on, on_low, subset-length, subset_same, dropped_within}
use Rattle.algebra.proofs.UnionLaws.{on_without, dropped-length}
use Rattle.matroid.specs.Configurations.{Configuration, rank, Spans}
use Rattle.matroid.specs.Dependencies.{Separated}
use Rattle.matroid.specs.Triangulations.{Family, Face, Border, Triangulation}
use Rattle.matroid.proofs.Search.{dec_both, dec-not, Least, least}
use Rattle.matroid.proofs.Crossing.{crossing_iff_separated}

abbrev pub Shut : ℕ → Configuration → Family → List ℕ → List ℕ → Type 0
Shut n P T e s = Border n P e ⊎ ((t : List ℕ) × T t × (t ≡ s → ⊥) × Face n P e t)

module _ {n : ℕ} {P : Configuration} {T : Family} (g : Triangulation n P T) where
  pub triangulation_spans : Spans n P
  triangulation_spans = let (s, m) = g.some in (s, g.simplices s m)

  pub members_apart : (s t : List ℕ) → T s → T t → Separated n P (On s) (On t) → ⊥
  members_apart s t m k c = g.ip s t m k ((crossing_iff_separated n P triangulation_spans (On s) (On t)).1 c)

  pub lone_border : (s : List ℕ) → T s → (e : List ℕ) → Face n P e s → ((t : List ℕ) → T t → Face n P e t → t ≡ s) → Border n P e
  lone_border s m e f lone = ⊎_elim (λ b. b) (λ (t, k, other, h). absurd (other (lone t k h))) (g.up s m e f)

pub face_drops : (n : ℕ) (P : Configuration) (e s : List ℕ) → Within 0 s n → length s ≡ rank P → Face n P e s → (x : ℕ) × On s x × (e ≡ dropped n x s)
face_drops n P e s w size f = go (least n (λ i. On s i × (On e i → ⊥)) (λ i. dec_both (dec_on i s) (dec-not (dec_on i e))))
  where
    go : Least n (λ i. On s i × (On e i → ⊥)) ⊎ ((i : ℕ) → i < n → On s i × (On e i → ⊥) → ⊥) → (x : ℕ) × On s x × (e ≡ dropped n x s)
    go (inl r) =
        let x = r.here in (
          x,
          r.so.0,
          subset_same e (dropped n x s) n f.0 (dropped_within n x s) (λ i o. (on_without n x s w i).1 (f.2 i o, λ q. r.so.1 (subst (On e) q o)))
              (omega (arith, size, f.1, dropped-length n x s w r.so.0)),
        )
    go (inr none) = absurd (omega (arith, size, f.1, subset-length s e n w f.0 (λ i o. dec→stable (dec_on i e) (λ k. none i (on_low s 0 n i w o).1 (o, k)))))
