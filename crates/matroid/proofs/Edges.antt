-- In the plane a face is an edge: a pair of points.
--
--   pair_face     two points of s, in order, are a face of it
--   face_pair     the points of such a face are points of s
--   face_is       every face is such a pair; `each_face`: so what each pair has, each face has
use mathlib.Core.Path.{◌≡◌, refl, sym, subst}
use mathlib.Core.List.{List, [], ◌∷◌}
use Prim.Native.Nat.{ℕ, suc, ◌<◌}
use native.Mathlib.Omega.{arith}
use lib.ListN.{length}
use Rattle.algebra.specs.Sets.{On}
use Rattle.algebra.proofs.SetTests.{on_none, on_head, on_tail, on_cases}
use Rattle.matroid.specs.Points.{Points, plane}
use Rattle.matroid.specs.Triangulations.{Face}

module _ (n : ℕ) (P : Points) where
  pub pair_face : (s : List ℕ) (i j : ℕ) → i < j → j < n → On s i → On s j → Face n (plane P) (i ∷ j ∷ []) s
  pair_face s i j h l a b = (
    (omega arith, omega arith, (omega arith, l, tt)),
    refl,
    λ k o. on_cases k i (j ∷ []) o (λ e. subst (On s) (sym e) a) (λ o. on_cases k j [] o (λ e. subst (On s) (sym e) b) (λ o. absurd (on_none k o))),
  )

  pub face_pair : (s : List ℕ) (i j : ℕ) → Face n (plane P) (i ∷ j ∷ []) s → On s i × On s j
  face_pair s i j f = (f.2 i (on_head i (j ∷ [])), f.2 j (on_tail j i (j ∷ []) (on_head j [])))

  pub face_is : (e s : List ℕ) → Face n (plane P) e s → (i : ℕ) × (j : ℕ) × (i < j) × (j < n) × (e ≡ i ∷ j ∷ [])
  face_is [] s f = absurd (let k : 1 ≡ 3 = f.1 in omega arith)
  face_is (i ∷ []) s f = absurd (let k : 2 ≡ 3 = f.1 in omega arith)
  face_is (i ∷ j ∷ []) s f = (i, j, let k = f.0.2.0 in omega arith, f.0.2.1, refl)
  face_is (i ∷ j ∷ k ∷ e) s f = absurd (let h : suc (length (i ∷ j ∷ k ∷ e)) ≡ 3 = f.1 in omega arith)

  pub each_face : (Q : List ℕ → Type 0) (s : List ℕ) → ((i j : ℕ) → i < j → j < n → On s i → On s j → Q (i ∷ j ∷ [])) → (e : List ℕ) → Face n (plane P) e s → Q e
  each_face Q s h e f =
      let (i, j, ij, jn, q) = face_is e s f in
      let (a, b) = face_pair s i j (subst (λ (u : List ℕ). Face n (plane P) u s) q f) in
      subst Q (sym q) (h i j ij jn a b)
