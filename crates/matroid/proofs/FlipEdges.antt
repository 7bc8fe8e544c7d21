-- The edges of a flip's new triangles that leave out the point of the link, in the plane.
--
-- Main theorem: `link_shut`: the new triangle with the other point of the link has the edge, or the line of the circuit is on the border. The other edges: FlipFaces.
use mathlib.Core.Path.{◌≡◌, refl, sym, ◌∙◌, subst}
use mathlib.Core.Logic.{inl, ⊎_elim}
use mathlib.Core.List.{List, [], ◌∷◌}
use Prim.Native.Nat.{ℕ, ◌<◌}
use lib.IntN.{pos}
use Rattle.algebra.specs.Sets.{On, dropped}
use Rattle.algebra.specs.Sign.{Side, Sign, nought}
use Rattle.algebra.proofs.AnswerLaws.{reflects_yes}
use Rattle.algebra.proofs.SetTests.{on_none, on_low, dropped_within}
use Rattle.algebra.proofs.UnionLaws.{on_one, on_without}
use Rattle.matroid.specs.Points.{Points, plane, Distinct, turn}
use Rattle.matroid.specs.Circuits.{SignVector, Circuit}
use Rattle.matroid.specs.Triangulations.{Family, Face, Border, Triangulation}
use Rattle.matroid.specs.Flips.{Flip}
use Rattle.matroid.proofs.Edges.{each_face}
use Rattle.matroid.proofs.Borders.{border-along}
use Rattle.matroid.proofs.TriangulationLaws.{Shut}
use Rattle.matroid.proofs.FlipLaws.{piece_of, Linked}
use Rattle.matroid.proofs.FlipSets.{whole, joined, joined_part, on-joined, points, PutIn}
use Rattle.matroid.proofs.FlipFaces.{LinkShut, shut_by, comes}
use Rattle.matroid.proofs.Apexes.{Ends, link_few, ends_of, line_flat, other_apex}

module _ {n : ℕ} {P : Points} {T T' : Family} {X : SignVector} {s : Sign} (ds : Distinct n P) (g : Triangulation n (plane P) T) (z : Circuit n (plane P) X) (d : Side s) (f : Flip n T X s T') where
  module _ (r : PutIn n T X s) (x : ℕ) (on : On (points r) x) (off : X x ≡ nought) (h : Face n (plane P) (dropped n x (points r)) (points r)) where
    abbrev e : List ℕ
    e = dropped n x (points r)

    low : (i : ℕ) → On e i → i < n
    low i o = (on_low e 0 n i h.0 o).1

    xn : x < n
    xn = (on_low (points r) 0 n x (dropped_within n r.lacks (whole n X r.link)) on).1

    module _ (k : ℕ) (is : r.link ≡ k ∷ []) where
      on_link : (i : ℕ) → i < n → On (points r) i → X i ≡ nought → i ≡ k
      on_link i il o q = reflects_yes (on_one k i) (subst (λ (c : List ℕ). On c i) is (((on-joined n X r.lacks r.link r.linked.2.0 i il).0 o).0 q))

      -- the edge is on the circuit
      edge_circuit : (i : ℕ) → On e i → (X i ≡ nought → ⊥) × (i ≡ r.lacks → ⊥)
      edge_circuit i o =
          let (y, ne) = (on_without n x (points r) (dropped_within n r.lacks (whole n X r.link)) i).0 o in
          (λ q. ne (on_link i (low i o) y q ∙ sym (on_link x xn on off)), ((joined_part n X r.lacks r.link i).0 y).1)

      border : (L : Ends n X s) → Border n (plane P) (piece_of n X L.lacks) → Border n (plane P) e
      border L b = each_face n P (Border n (plane P)) e (λ i j ij jn oi oj. border-along n P L.p L.q i j (λ q. ds L.p L.q L.order L.low (sym q)) (flat i oi) (flat j oj) (subst (Border n (plane P)) L.is b)) e
          (h.0, h.1, λ i o. o)
        where
          flat : (i : ℕ) → On e i → turn (P L.p) (P L.q) (P i) ≡ pos 0
          flat i o = line_flat ds g z d f.supported L i (low i o) (edge_circuit i o).0

      other : (k' : ℕ) → Linked n T X s (k' ∷ []) → (k' ≡ k → ⊥) → Shut n (plane P) T' e (points r)
      other k' l ne = shut_by n (plane P) T' e (points r) (joined n X r.lacks (k' ∷ [])) x h on
          (comes g z d f (record { lacks = r.lacks; low = r.low; side = r.side; link = k' ∷ []; linked = l }))
          (λ i o. let (nz, w) = edge_circuit i o in (on-joined n X r.lacks (k' ∷ []) l.2.0 i (low i o)).1 (λ q. absurd (nz q), w))
          (λ o. ne (sym (reflects_yes (on_one k' x) (((on-joined n X r.lacks (k' ∷ []) l.2.0 x xn).0 o).0 off)) ∙ on_link x xn on off))

    by : (c : List ℕ) → r.link ≡ c → Shut n (plane P) T' e (points r)
    by [] is = absurd (on_none x (subst (λ (c : List ℕ). On c x) is (((on-joined n X r.lacks r.link r.linked.2.0 x xn).0 on).0 off)))
    by (k ∷ []) is =
        let l : Linked n T X s (k ∷ []) = subst (Linked n T X s) is r.linked in
        let L = ends_of ds g z d f.supported k l in
        ⊎_elim (λ b. inl (border k is L b)) (λ (k', l', ne, _). other k is k' l' ne) (other_apex ds g z d f.supported L k l)
    by (k ∷ k' ∷ c) is = absurd (link_few ds g z d f.supported k k' c (subst (Linked n T X s) is r.linked))

  pub link_shut : LinkShut n (plane P) T X s T'
  link_shut r x on off h = by r x on off h r.link refl
