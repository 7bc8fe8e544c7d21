-- The star that a flip in the plane takes out is complete: a member that holds the other side of the supported circuit is in it.
--
--   star-member     a member that has no points but the circuit's and those of one member of the link is in the star; in any dimension
--   star-four       so it is in the plane where the link is empty, as for a circuit of four points
--   star_line       and where it has single points, as for three points on a line
--
-- Main theorem: `star_complete`.
use mathlib.Core.Path.{◌≡◌, refl, sym, ◌∙◌, ap, subst}
use mathlib.Core.Logic.{◌⊎◌, inl, inr, ⊎_elim}
use mathlib.Core.HLevel.{dec→stable}
use mathlib.Core.List.{List, [], ◌∷◌}
use Prim.Native.Nat.{ℕ, ◌<◌}
use native.Mathlib.Omega.{arith}
use native.Mathlib.Decide.{ℕ_discrete}
use Rattle.algebra.specs.Sets.{On}
use Rattle.algebra.specs.Sign.{Side, Sign, nought}
use Rattle.algebra.proofs.AnswerLaws.{reflects_true, reflects_dec, is-nought}
use Rattle.algebra.proofs.UnionLaws.{on_one}
use Rattle.algebra.proofs.SetTests.{dec_on, on_low, on_none, subset_same}
use Rattle.algebra.proofs.TrioLaws.{Among, on_triple}
use Rattle.matroid.specs.Configurations.{Configuration, Simplex}
use Rattle.matroid.specs.Points.{Points, plane, Distinct}
use Rattle.matroid.specs.Circuits.{SignVector, Circuit}
use Rattle.matroid.specs.Triangulations.{Family, Triangulation}
use Rattle.matroid.specs.Flips.{Supports, Star}
use Rattle.matroid.proofs.Search.{dec_both, dec-not, Least, least}
use Rattle.matroid.proofs.Borders.{simplex-three}
use Rattle.matroid.proofs.FlipLaws.{Linked, Holds, some-side, no_whole}
use Rattle.matroid.proofs.FlipSets.{joined, on-joined, Complete, star_in, joined_old}
use Rattle.matroid.proofs.Pushing.{which-side, some_of_side}
use Rattle.matroid.proofs.Apexes.{Ends, link_few, nothing_across, ends_of, apex_apart, point_linked}

module _ {n : ℕ} {P : Configuration} {T : Family} {X : SignVector} {s : Sign} (g : Triangulation n P T) (z : Circuit n P X) (d : Side s) (h : Supports n T X s) where
  star-member : (t : List ℕ) → T t → Holds n X s t → (c : List ℕ) → Linked n T X s c → ((i : ℕ) → i < n → On t i → X i ≡ nought → On c i) → Star n T X s s t
  star-member t m holds c l only = ⊎_elim (λ (v, vl, e, off). lacks v vl e off)
      (λ none. absurd (no_whole g z t m (λ i il nz. ⊎_elim (λ e. dec→stable (dec_on i t) (none i il e)) (holds i il) (which-side z d i il nz)))) (some_of_side z d (λ v. On t v → ⊥) (λ v. dec-not (dec_on v t)))
    where
      lacks : (v : ℕ) → v < n → X v ≡ s → (On t v → ⊥) → Star n T X s s t
      lacks v vl e off =
          let a = g.simplices t m in
          let b = g.simplices (joined n X v c) (joined_old g z d h v vl e c l) in
          let on : (i : ℕ) → On t i → On (joined n X v c) i = λ i o. let il = (on_low t 0 n i a.within o).1 in (on-joined n X v c l.2.0 i il).1 (only i il o, λ q. off (subst (On t) q o)) in
          subst (Star n T X s s) (sym (subset_same t (joined n X v c) n a.within b.within on (a.size ∙ sym b.size))) (star_in g z d (record { lacks = v; low = vl; side = e; link = c; linked = l }))

module _ {n : ℕ} {P : Points} {T : Family} {X : SignVector} {s : Sign} (ds : Distinct n P) (g : Triangulation n (plane P) T) (z : Circuit n (plane P) X) (d : Side s) (h : Supports n T X s) where
  module _ (t : List ℕ) (m : T t) (holds : Holds n X s t) where
    -- the three points of a member of the star are off a line
    star-four : Linked n T X s [] → Star n T X s s t
    star-four l =
        let (a, b, c, ab, bc, cn, is, nz) = simplex-three n P o x in
        let on : (i : ℕ) → Among a b c i → X i ≡ nought → ⊥ = λ i k. circuit i (subst (λ (u : List ℕ). On u i) (sym is) (reflects_true (on_triple a b c i) k)) in
        star-member g z d h t m holds [] l (λ i il y io. absurd (nothing_across ds g z d h t m holds [] l a b c (omega arith) (omega arith) cn (on a (inl refl)) (on b (inr (inl refl))) nz
        (λ e. absurd (on c (inr (inr refl)) e)) i y io (λ q. on c (inr (inr refl)) (ap X (sym q) ∙ io)) (λ e. absurd (on c (inr (inr refl)) e))))
      where
        v : ℕ
        v = (some-side z s d).0

        o : List ℕ
        o = joined n X v []

        x : Simplex n (plane P) o
        x = g.simplices o (joined_old g z d h v (some-side z s d).1 (some-side z s d).2 [] l)

        circuit : (i : ℕ) → On o i → X i ≡ nought → ⊥
        circuit i y e = on_none i (((on-joined n X v [] tt i (on_low o 0 n i x.within y).1).0 y).0 e)

    star_line : (k : ℕ) → Linked n T X s (k ∷ []) → Star n T X s s t
    star_line k l = go (least n (λ i. On t i × (X i ≡ nought)) (λ i. dec_both (dec_on i t) (reflects_dec (is-nought (X i)))))
      where
        go : Least n (λ i. On t i × (X i ≡ nought)) ⊎ ((i : ℕ) → i < n → On t i × (X i ≡ nought) → ⊥) → Star n T X s s t
        go (inr none) = star-member g z d h t m holds (k ∷ []) l (λ i il y e. absurd (none i il (y, e)))
        go (inl r) = star-member g z d h t m holds (x ∷ []) lx
            (λ i il y e. reflects_true (on_one x i) (dec→stable (ℕ_discrete i x) (λ ix. apex_apart ds g z d h L x lx t m holds i y e ix (λ _. r.so.0))))
          where
            L : Ends n X s
            L = ends_of ds g z d h k l

            x : ℕ
            x = r.here

            lx : Linked n T X s (x ∷ [])
            lx = point_linked ds g z d h L k l t m holds x r.so.0 r.so.1

    by_link : (c : List ℕ) → Linked n T X s c → Star n T X s s t
    by_link [] l = star-four l
    by_link (k ∷ []) l = star_line k l
    by_link (k ∷ k' ∷ c) l = absurd (link_few ds g z d h k k' c l)

  pub star_complete : Complete n T X s
  star_complete t m holds = let (p, c, k, l) = h.some in by_link t m holds c (p, k, l)
