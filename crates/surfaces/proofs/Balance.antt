-- The exchange along a circuit keeps the sum of the double areas, one cone at a time: the pieces of the plus side and those of the minus side, each joined
-- with the same further shots to a triple. It is matroid's `circuit_balanced`, read for the plane.
--
--   cone_balanced      the pieces of the two sides of a circuit, joined with c, have the same sum of double areas
--
-- Source: document 01, "Flips", "The square with its centre".
use Rattle.std.specs.Prelude.{◌≡◌, ℕ, ◌+◌, ◌<◌, Bool, true, false, cond, List, length, ℤ, nat_abs}
use mathlib.Core.Path.{refl, sym, ◌∙◌, ap, subst}
use mathlib.Core.Logic.{inl, inr, ⊎_elim}
use native.Mathlib.Omega.{arith}
use Rattle.algebra.specs.Loops.{sum_of}
use Rattle.algebra.specs.Sets.{is_on, On, union, dropped, Within}
use Rattle.algebra.specs.Sign.{Sign, minus, nought, plus, is_minus, is_plus}
use Rattle.algebra.proofs.AnswerLaws.{reflects_agree, reflects_iff, is-plus, is-minus}
use Rattle.algebra.proofs.LoopLaws.{sum-map, tally_same}
use Rattle.algebra.proofs.SetLaws.{sum_within}
use Rattle.algebra.proofs.SetTests.{reflects_on, union_within, dropped_within}
use Rattle.algebra.proofs.UnionLaws.{set_known, on_either, on_without, union_apart, dropped-length}
use Rattle.matroid.specs.Configurations.{volume}
use Rattle.matroid.proofs.Balance.{side_volume, circuit_balanced}
use Rattle.shots.specs.Coordinates.{patch_of}
use Rattle.shots.specs.Patch.{count_of}
use Rattle.shots.specs.Tests.{refusal_of}
use Rattle.circuits.specs.Sides.{TwoSides, sign_in}
use Rattle.circuits.specs.Numbering.{circuits_of}
use Rattle.circuits.specs.Calls.{circuit_at}
use Rattle.circuits.proofs.Agreement.{circuit_published}
use Rattle.surfaces.specs.Areas.{triple_area_of}
use Rattle.surfaces.specs.Flips.{support_of, pieces_of}
use Rattle.surfaces.proofs.AreaSums.{size-volume}
use Rattle.surfaces.proofs.Agreement.{Proper, side_of, side_sign, side_within, side_inside, support_within, on_support, numbered}

module _ (l : List ℤ) where
  abbrev n : ℕ
  n = count_of l

  module _ (ok : refusal_of l ≡ 0) (z : ℕ) (zl : z < length (circuits_of l)) (c : List ℕ) (v : Within 0 c n) (four : length (support_of n (circuit_at l z)) + length c ≡ 4)
      (off : (i : ℕ) → On (support_of n (circuit_at l z)) i → On c i → ⊥) where
    abbrev Z : TwoSides
    Z = circuit_at l z

    abbrev S : List ℕ
    S = support_of n (circuit_at l z)

    -- the shots of the circuit and c
    abbrev T : List ℕ
    T = union n (support_of n (circuit_at l z)) c

    proper : Proper n (circuit_at l z)
    proper = numbered l z zl

    on-T : (i : ℕ) → (sign_in (circuit_at l z) i ≡ nought → ⊥) → On (union n (support_of n (circuit_at l z)) c) i
    on-T i nz = (on_either n S c (support_within proper) v i).1 (inl ((on_support proper i).1 nz))

    -- all of them without a shot of the circuit: its piece, joined with c
    cone : (i : ℕ) → On S i → dropped n i T ≡ union n (dropped n i S) c
    cone i o = set_known n (dropped n i T) (union n (dropped n i S) c) (dropped_within n i T) (union_within n (dropped n i S) c) (λ j h.
        let a = on_without n i T (union_within n S c) j in let b = on_either n S c (support_within proper) v j in let d = on_either n (dropped n i S) c (dropped_within n i S) v j in let e = on_without n i S (support_within proper) j in
        (λ p. let q = a.0 p in d.1 (⊎_elim (λ x. inl (e.1 (x, q.1))) inr (b.0 q.0)), λ p. a.1 (⊎_elim (λ x. (b.1 (inl (e.0 x).0), (e.0 x).1)) (λ x. (b.1 (inr x), λ y. off i o (subst (On c) y x))) (d.0 p))))

    cone_size : (i : ℕ) → On S i → triple_area_of l (union n (dropped n i S) c) ≡ nat_abs (volume (patch_of l) (dropped n i T))
    cone_size i o =
        size-volume l (union n (dropped n i S) c) (let x = union_apart n (dropped n i S) c (dropped_within n i S) v (λ j p q. off j ((on_without n i S (support_within proper) j).0 p).0 q) in
        let y = dropped-length n i S (support_within proper) o in omega (arith, four))
        ∙ ap (λ (s : List ℕ). nat_abs (volume (patch_of l) s)) (sym (cone i o))

    -- the pieces of one side, as a sum over all shots
    side-sum : (s : Sign) (t : Sign → Bool) → ((i : ℕ) → is_on i (side_of Z s) ≡ t (sign_in Z i))
        → sum_of (λ p. triple_area_of l (union n p c)) (pieces_of n Z (side_of Z s)) ≡ side_volume n (patch_of l) (sign_in Z) (circuit_published l ok z zl) T (union_within n S c) (λ i k. on-T i) t
    unfolding pieces_of
    side-sum s t h =
        sum-map (λ p. triple_area_of l (union n p c)) (λ i. dropped n i S) (side_of Z s) ∙ sum_within (λ i. triple_area_of l (union n (dropped n i S) c)) (side_of Z s) n (side_within proper s)
        ∙ tally_same _ _ n (λ i k. at i (is_on i (side_of Z s)) refl ∙ ap (λ (b : Bool). cond b (nat_abs (volume (patch_of l) (dropped n i T))) 0) (h i))
      where
        at : (i : ℕ) (b : Bool) → is_on i (side_of Z s) ≡ b → cond b (triple_area_of l (union n (dropped n i S) c)) 0 ≡ cond b (nat_abs (volume (patch_of l) (dropped n i T))) 0
        at i true e = cone_size i (side_inside proper s i e)
        at i false e = refl

    pub cone_balanced : sum_of (λ p. triple_area_of l (union n p c)) (pieces_of n Z Z.plus) ≡ sum_of (λ p. triple_area_of l (union n p c)) (pieces_of n Z Z.minus)
    cone_balanced =
        side-sum plus is_plus (λ i. reflects_agree (reflects_iff (side_sign proper plus (inl refl) i) (reflects_on i Z.plus)) (is-plus (sign_in Z i)))
        ∙ circuit_balanced n (patch_of l) (sign_in Z) (circuit_published l ok z zl) T (union_within n S c) (λ i k. on-T i)
        ∙ sym (side-sum minus is_minus (λ i. reflects_agree (reflects_iff (side_sign proper minus (inr refl) i) (reflects_on i Z.minus)) (is-minus (sign_in Z i))))
