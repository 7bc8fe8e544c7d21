-- The simplices of a flip by their points, in any dimension: all of the circuit and of a member of the link, but one point of the circuit.
--
--   whole n X c           the circuit's points and those of c: `on_whole`
--   joined n X v c        the same without v: `joined_part`, `on-joined`; `joined_other`: without another point
--   InStar n T X s q      a member of the star: the point of the side q that it lacks, and its member of the link of the side s
--   points r              its points, as a list: `star_out`, `star_in`
--   PutIn n T X s         what the flip of the side s puts in: a point of the other side is lacking
--   Complete n T X s      the star that the flip of the side s takes out is complete: each member that holds the other side is in it
--
--   linked_off            a member of the link has no point of the circuit
--   joins_known           a piece joined with a member of the link, as a list
--   joined_old            what lacks a point of the supported side was there
--   link-length           the circuit and a member of the link have one point more than a simplex
--   new_simplex           what the flip puts in is a simplex
--   each_after            what the kept and the new members have, each member of the result has
use mathlib.Core.Path.{◌≡◌, sym, ◌∙◌, ap, subst}
use mathlib.Core.Logic.{◌⊎◌, inl, inr, ⊎_elim, ◌↔◌}
use mathlib.Core.List.{List}
use Prim.Native.Nat.{ℕ, suc, ◌+◌, ◌<◌}
use native.Mathlib.Omega.{arith}
use lib.ListN.{length}
use Rattle.algebra.specs.Sets.{On, Within, union, dropped}
use Rattle.algebra.specs.Sign.{Side, Sign, nought, opposite}
use Rattle.algebra.proofs.AnswerLaws.{reflects_yes, reflects_true, reflects_stable, reflects_dec, is-nought}
use Rattle.algebra.proofs.UnionLaws.{set_known, on_either, union_apart, on_without, dropped-length}
use Rattle.algebra.proofs.SetTests.{on_low, union_within, dropped_within}
use Rattle.algebra.proofs.SignLaws.{zero-sign_of, sign_of-zero, other-side}
use Rattle.matroid.specs.Configurations.{Configuration, rank, volume, Simplex}
use Rattle.matroid.specs.Circuits.{SignVector, Circuit}
use Rattle.matroid.specs.Triangulations.{Family, Triangulation}
use Rattle.matroid.specs.Flips.{Piece, Joins, Supports, Star, Flip}
use Rattle.matroid.proofs.CircuitLaws.{support, support_within, on_support}
use Rattle.matroid.proofs.Balance.{circuit_full}
use Rattle.matroid.proofs.FlipLaws.{piece_of, piece_on, piece-of, Linked, Holds, side-nought, some-side, union-joins, link_off}

module _ (n : ℕ) (X : SignVector) where
  abbrev pub whole : List ℕ → List ℕ
  whole c = union n (support n X) c

  abbrev pub joined : ℕ → List ℕ → List ℕ
  joined v c = dropped n v (whole c)

  pub on_whole : (c : List ℕ) → Within 0 c n → (i : ℕ) → i < n → On (whole c) i ↔ (X i ≡ nought → On c i)
  on_whole c w i l = (λ o e. ⊎_elim (λ y. absurd ((reflects_yes (on_support n X i) y).1 e)) (λ y. y) (either.0 o), λ h. either.1 (into h (reflects_dec (is-nought (X i)))))
    where
      either : On (whole c) i ↔ (On (support n X) i ⊎ On c i)
      either = on_either n (support n X) c (support_within n X) w i

      into : (X i ≡ nought → On c i) → Dec (X i ≡ nought) → On (support n X) i ⊎ On c i
      into h (yes e) = inr (h e)
      into h (no nz) = inl (reflects_true (on_support n X i) (l, nz))

  pub joined_part : (v : ℕ) (c : List ℕ) (i : ℕ) → On (joined v c) i ↔ (On (whole c) i × (i ≡ v → ⊥))
  joined_part v c = on_without n v (whole c) (union_within n (support n X) c)

  pub on-joined : (v : ℕ) (c : List ℕ) → Within 0 c n → (i : ℕ) → i < n → On (joined v c) i ↔ ((X i ≡ nought → On c i) × (i ≡ v → ⊥))
  on-joined v c w i l =
      let on = joined_part v c i in
      (λ o. let (y, ne) = on.0 o in ((on_whole c w i l).0 y, ne), λ (h, ne). on.1 ((on_whole c w i l).1 h, ne))

  pub joined_other : (u v : ℕ) (c : List ℕ) (i : ℕ) → On (joined u c) i → (i ≡ v → ⊥) → On (joined v c) i
  joined_other u v c i o ne = (joined_part v c i).1 (((joined_part u c i).0 o).0, ne)

  -- the circuit is in the whole, which is one point longer than what lacks a point of it
  circuit_on : (c : List ℕ) → Within 0 c n → (i : ℕ) → i < n → (X i ≡ nought → ⊥) → On (whole c) i
  circuit_on c w i l nz = (on_whole c w i l).1 (λ e. absurd (nz e))

  whole_length : (c : List ℕ) → Within 0 c n → (v : ℕ) → v < n → (X v ≡ nought → ⊥) → length (whole c) ≡ length (joined v c) + 1
  whole_length c w v l nz = dropped-length n v (whole c) (union_within n (support n X) c) (circuit_on c w v l nz)

-- one point of the circuit is exchanged for another
joined_simplex : (n : ℕ) (P : Configuration) (X : SignVector) → Circuit n P X → (c : List ℕ) → Within 0 c n → (v : ℕ) → v < n → (X v ≡ nought → ⊥) → Simplex n P (joined n X v c)
    → (u : ℕ) → u < n → (X u ≡ nought → ⊥) → Simplex n P (joined n X u c)
joined_simplex n P X z c w v vl vz x u ul uz = record {
  within = dropped_within n u (whole n X c);
  size = omega (arith, whole_length n X c w v vl vz, whole_length n X c w u ul uz, x.size);
  full = λ e. circuit_full n P X z (whole n X c) (union_within n (support n X) c) (circuit_on n X c w) v vl vz (λ y. x.full (sign_of-zero (volume P (joined n X v c)) y)) u ul uz (zero-sign_of (volume P (joined n X u c)) e);
}

-- ---- members of a star

pub record InStar (n : ℕ) (T : Family) (X : SignVector) (s q : Sign) : Type 0 where
  pub lacks : ℕ
  pub low : lacks < n
  pub side : X lacks ≡ q
  pub link : List ℕ
  pub linked : Linked n T X s link

abbrev pub points : {n : ℕ} {T : Family} {X : SignVector} {s q : Sign} → InStar n T X s q → List ℕ
points {n} {T} {X} r = joined n X r.lacks r.link

abbrev pub PutIn : ℕ → Family → SignVector → Sign → Type 0
PutIn n T X s = InStar n T X s (opposite s)

abbrev pub Complete : ℕ → Family → SignVector → Sign → Type 0
Complete n T X s = (t : List ℕ) → T t → Holds n X s t → Star n T X s s t

-- ---- one triangulation

module _ {n : ℕ} {P : Configuration} {T : Family} {X : SignVector} {s : Sign} (g : Triangulation n P T) (z : Circuit n P X) where
  pub linked_off : (c : List ℕ) → Linked n T X s c → (i : ℕ) → i < n → On c i → X i ≡ nought
  linked_off c l i il o = reflects_stable (is-nought (X i)) (λ k. link_off g z l.0 c l.1 l.2 i il k o)

  pub joins_known : {q : Sign} → Side q → (b c t : List ℕ) (k : Piece n X q b) → Linked n T X s c → Within 0 t n → Joins b c t → t ≡ joined n X k.0 c
  joins_known d b c t k l w j = set_known n t (joined n X k.0 c) w (dropped_within n k.0 (whole n X c)) (λ i il. (out i il, into i il))
    where
      on : (i : ℕ) → i < n → On (joined n X k.0 c) i ↔ ((X i ≡ nought → On c i) × (i ≡ k.0 → ⊥))
      on = on-joined n X k.0 c l.2.0

      out : (i : ℕ) → i < n → On t i → On (joined n X k.0 c) i
      out i il o = (on i il).1 (⊎_elim (λ y. let (nz, ne) = (k.4 i il).0 y in (λ e. absurd (nz e), ne)) (λ y. (λ _. y, λ e. side-nought d (ap X e ∙ k.2) (linked_off c l i il y))) ((j.0 i).0 o))

      into : (i : ℕ) → i < n → On (joined n X k.0 c) i → On t i
      into i il o = let (h, ne) = (on i il).0 o in (j.0 i).1 (at h ne (reflects_dec (is-nought (X i))))
        where
          at : (X i ≡ nought → On c i) → (i ≡ k.0 → ⊥) → Dec (X i ≡ nought) → On b i ⊎ On c i
          at h ne (yes e) = inr (h e)
          at h ne (no nz) = inl ((k.4 i il).1 (nz, ne))

  pub star_out : {q : Sign} → Side q → (t : List ℕ) → Star n T X s q t → (r : InStar n T X s q) × (t ≡ points r)
  star_out d t x =
      let (w, (p, c, b, k, l, k', j)) = x in
      (record { lacks = k'.0; low = k'.1; side = k'.2; link = c; linked = (p, k, l) }, joins_known d b c t k' (p, k, l) w j)

  pub star_in : {q : Sign} → Side q → (r : InStar n T X s q) → Star n T X s q (points r)
  star_in {q} d r =
      let (p, k, l) = r.linked in
      let piece = piece-of n X q r.lacks r.low r.side in
      let b = piece_of n X r.lacks in
      let joins = union-joins n b r.link piece.3 l.0 (λ i o o'. let il = (on_low b 0 n i piece.3 o).1 in ((piece_on n X r.lacks i il).0 o).0 (linked_off r.link r.linked i il o')) in
      subst (Star n T X s q) (joins_known d b r.link (union n b r.link) piece r.linked (union_within n b r.link) joins) (union_within n b r.link, (p, r.link, b, k, l, piece, joins))

  module _ (d : Side s) (h : Supports n T X s) where
    pub joined_old : (v : ℕ) → v < n → X v ≡ s → (c : List ℕ) → Linked n T X s c → T (joined n X v c)
    joined_old v vl e c l =
        let piece = piece-of n X s v vl e in
        let (w, (u, m, j)) = h.same l.0 (piece_of n X v) c l.1 piece l.2 in
        subst T (joins_known d (piece_of n X v) c u piece l (g.simplices u m).within j) m

    pub link-length : (c : List ℕ) → Linked n T X s c → length (support n X) + length c ≡ suc (rank P)
    link-length c l =
        let (v, vl, e) = some-side z s d in
        let a = union_apart n (support n X) c (support_within n X) l.2.0 (λ i y o. let (il, nz) = reflects_yes (on_support n X i) y in nz (linked_off c l i il o)) in
        omega (arith, a, whole_length n X c l.2.0 v vl (side-nought d e), (g.simplices (joined n X v c) (joined_old v vl e c l)).size)

    pub new_simplex : (r : PutIn n T X s) → Simplex n P (points r)
    new_simplex r =
        let (v, vl, e) = some-side z s d in
        joined_simplex n P X z r.link r.linked.2.0 v vl (side-nought d e) (g.simplices (joined n X v r.link) (joined_old v vl e r.link r.linked))
        r.lacks r.low (side-nought (other-side s d) r.side)

  module _ {T' : Family} (d : Side s) (f : Flip n T X s T') where
    pub each_after : (Q : List ℕ → Type 0) → ((t : List ℕ) → T t → (Star n T X s s t → ⊥) → Q t) → ((r : PutIn n T X s) → Q (points r)) → (t : List ℕ) → T' t → Q t
    each_after Q kept new t m = ⊎_elim (λ (k, out). kept t k out) (λ k. let (r, e) = star_out (other-side s d) t k in subst Q (sym e) (new r)) ((f.exchanged t).0 m)
