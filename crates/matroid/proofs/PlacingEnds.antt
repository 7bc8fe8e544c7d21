-- The first triangle, and the end of the placing.
--
--   OfThree a b c R        R is the one triple of a, b, c, in every order
--   Shows n R T            the family T has the trios of R
--   placed_first           three points off a line and their triple: what Outlines.Placed says holds of them
--
-- Main theorem: `placed_triangulation`: where it holds of all points, the family is a triangulation of them.
use mathlib.Core.Path.{◌≡◌, refl, sym, ◌∙◌, ap, subst}
use mathlib.Core.Logic.{inl, inr, ⊎_elim, ◌↔◌}
use mathlib.Core.Bool.{true, Bool-discrete}
use mathlib.Core.HLevel.{dec→stable}
use mathlib.Core.List.{List, [], ◌∷◌}
use Prim.Native.Nat.{ℕ, ◌<◌}
use native.Mathlib.Omega.{arith}
use native.Mathlib.Decide.{ℕ_discrete}
use lib.ListN.{length}
use lib.IntN.{pos}
use Rattle.algebra.specs.Sets.{On, Within}
use Rattle.algebra.specs.Sign.{NN, NZ, Tri, below, at-nought, above}
use Rattle.algebra.proofs.AnswerLaws.{reflects_yes, reflects_true}
use Rattle.algebra.proofs.SignLaws.{tri, nn-zero, neg_nn, nn-shared, square_nn, neg-zero, zero-sign_of}
use Rattle.algebra.proofs.TrioLaws.{Among, trio, on_triple, on_trio, among_swap, among_cycle, SameThree, same_swap, same_cycle, trio-three, any_order}
use Rattle.matroid.specs.Configurations.{chirotope, Flat, Simplex, Spans}
use Rattle.matroid.specs.Points.{Points, plane}
use Rattle.matroid.specs.Dependencies.{Separated}
use Rattle.matroid.specs.Circuits.{Crossing}
use Rattle.matroid.specs.Triangulations.{Family, Border, Triangulation}
use Rattle.matroid.proofs.Search.{dec_both, dec-not, some_below}
use Rattle.matroid.proofs.Turns.{chirotope-turn, turn_cycle, turn_swap_first, turn-first, turn_last, turn_ends}
use Rattle.matroid.proofs.Dependent.{somewhere_nowhere, separated_more}
use Rattle.matroid.proofs.Planar.{three_nowhere}
use Rattle.matroid.proofs.Crossing.{crossing_iff_separated}
use Rattle.matroid.proofs.TriangulationLaws.{Shut}
use Rattle.matroid.proofs.Edges.{pair_face, each_face}
use Rattle.matroid.proofs.Sides.{turn_at, sides, sides_first, sides_second}
use Rattle.matroid.proofs.Borders.{border_sides}
use Rattle.matroid.proofs.Outlines.{TripleSet, Has, Lone, Placed, last_two, used_third, first_third, second_third}

-- ---- the first triangle

abbrev pub OfThree : ℕ → ℕ → ℕ → TripleSet → Type 0
OfThree a b c R = (x y z : ℕ) → Has R x y z ↔ SameThree a b c x y z

module _ (n : ℕ) (P : Points) (a b c : ℕ) (an : a < n) (bn : b < n) (cn : c < n) (off : NZ (turn_at P a b c)) {R : TripleSet} (o : OfThree a b c R) where
  full-first : (x y z : ℕ) → SameThree a b c x y z → NZ (turn_at P x y z)
  full-first x y z h = any_order (λ i j k. NZ (turn_at P i j k))
      (λ i j k q e. q (neg-zero (turn_at P i j k) (sym (turn_swap_first (P i) (P j) (P k)) ∙ e))) (λ i j k q e. q (turn_cycle (P i) (P j) (P k) ∙ e))
      a b c (λ e. off (ap (λ (i : ℕ). turn_at P i b c) e ∙ turn-first (P b) (P c))) (λ e. off (ap (λ (i : ℕ). turn_at P i b c) e ∙ turn_ends (P c) (P b))) (λ e. off (ap (λ (i : ℕ). turn_at P a i c) e ∙ turn_last (P a) (P c)))
      x y z ((h a).1 (inl refl)) ((h b).1 (inr (inl refl))) ((h c).1 (inr (inr refl))) off

  -- three points off a line carry no dependency
  apart-first : {S T : ℕ → Type 0} → ((i : ℕ) → S i → Among a b c i) → ((i : ℕ) → T i → Among a b c i) → Separated n (plane P) S T → ⊥
  apart-first s t k = somewhere_nowhere k.somewhere (three_nowhere n P k.by k.dependency a b c off (λ i l x y z. go i l (⊎_elim x (⊎_elim y z)) (tri (k.by i))))
    where
      go : (i : ℕ) → i < n → (Among a b c i → ⊥) → Tri (k.by i) → k.by i ≡ pos 0
      go i l none (below h) = absurd (none (t i (k.right i l h)))
      go i l none (at-nought e) = e
      go i l none (above h) = absurd (none (s i (k.left i l h)))

  outer-first : (x y z i : ℕ) → Among x y z i → NN (sides P x y z i)
  outer-first x y z i (inl e) = nn-zero (sides_first P x y z i e)
  outer-first x y z i (inr (inl e)) = nn-zero (sides_second P x y z i e)
  outer-first x y z i (inr (inr e)) = rw e (square_nn (turn_at P x y z))

  low_first : (x : ℕ) → Among a b c x → x < n
  low_first x (inl e) = rw e an
  low_first x (inr (inl e)) = rw e bn
  low_first x (inr (inr e)) = rw e cn

  pub placed_first : Placed n P (Among a b c) R
  placed_first = record {
    low = low_first;
    some = (a, b, c, (o a b c).1 (λ i. (λ k. k, λ k. k)));
    swap = λ x y z h. (o y x z).1 (same_swap a b c x y z ((o x y z).0 h));
    cycle = λ x y z h. (o y z x).1 (same_cycle a b c x y z ((o x y z).0 h));
    used = λ x y z h. ((o x y z).0 h x).0 (inl refl);
    full = λ x y z h. full-first x y z ((o x y z).0 h);
    apart = λ x y z u v w h k. apart-first (λ i. ((o x y z).0 h i).0) (λ i. ((o u v w).0 k i).0);
    outer = λ x y z i h k. outer-first x y z i (((o x y z).0 h.0 i).1 k);
  }

-- ---- the end

abbrev pub Shows : ℕ → TripleSet → Family → Type 0
Shows n R T = ((s : List ℕ) → T s → Within 0 s n × (length s ≡ 3)) × ((a b c : ℕ) → Has R a b c ↔ T (trio n a b c))

module _ {n : ℕ} {P : Points} {R : TripleSet} {T : Family} (g : Placed n P (λ x. x < n) R) (shows : Shows n R T) where
  -- a member is a triple of R
  three : (s : List ℕ) → T s → (a : ℕ) × (b : ℕ) × (c : ℕ) × (s ≡ a ∷ b ∷ c ∷ []) × Has R a b c × (a < b) × (b < c)
  three s k =
      let (w, e) = shows.0 s k in
      let (a, b, c, ab, bc, _, is, trio-is) = trio-three n s w e in
      (a, b, c, is, (shows.1 a b c).1 (subst T trio-is k), ab, bc)

  member_points : {s : List ℕ} (a b c : ℕ) → s ≡ a ∷ b ∷ c ∷ [] → (x : ℕ) → On s x → Among a b c x
  member_points a b c e x o = reflects_yes (on_triple a b c x) (subst (λ (u : List ℕ). On u x) e o)

  member_simplex : (s : List ℕ) → T s → Simplex n (plane P) s
  member_simplex s k = record { within = (shows.0 s k).0; size = (shows.0 s k).1; full = full }
    where
      full : Flat (plane P) s → ⊥
      full z = let (a, b, c, is, h, _, _) = three s k in g.full a b c h (zero-sign_of (turn_at P a b c) (sym (chirotope-turn P a b c) ∙ ap (chirotope (plane P)) (sym is) ∙ z))

  one-member : (s : List ℕ) × T s
  one-member = let (a, b, c, h) = g.some in (trio n a b c, (shows.1 a b c).0 h)

  no-crossing : (s t : List ℕ) → T s → T t → Crossing n (plane P) (On s) (On t) → ⊥
  no-crossing s t k k' x =
      let (a, b, c, is, h, _, _) = three s k in
      let (a', b', c', is', h', _, _) = three t k' in
      g.apart a b c a' b' c' h h' (separated_more ((crossing_iff_separated n (plane P) spans (On s) (On t)).0 x) (λ i _. member_points a b c is i) (λ i _. member_points a' b' c' is' i))
    where
      spans : Spans n (plane P)
      spans = (one-member.0, member_simplex one-member.0 one-member.1)

  -- an edge of the outline is a border pair
  outline_border : (i j k : ℕ) → Lone R i j k → Border n (plane P) (i ∷ j ∷ [])
  outline_border i j k h = (border_sides n P i j).1 (λ p q pn qn o. neg_nn o (nn-shared (turn_at P i j k) (turn_at P i j p) (turn_at P i j q) (g.full i j k h.0) (g.outer i j k p h pn) (g.outer i j k q h qn)))

  -- the third point of an edge of a triple
  edge_third : (a b c i j : ℕ) → Has R a b c → a < b → b < c → i < j → Among a b c i → Among a b c j → (k : ℕ) × Has R i j k × ((x : ℕ) → Among a b c x → Among i j k x)
  edge_third a b c i j h ab bc ij (inl p) (inr (inl q)) = (c, rw (p, q) h, rw (p, q) (λ x o. o))
  edge_third a b c i j h ab bc ij (inl p) (inr (inr q)) = (b, rw (p, q) (last_two g a b c h), rw (p, q) (λ x o. among_cycle b a c x (among_swap a b c x o)))
  edge_third a b c i j h ab bc ij (inr (inl p)) (inr (inr q)) = (a, rw (p, q) (g.cycle a b c h), rw (p, q) (among_cycle a b c))
  edge_third a b c i j h ab bc ij (inl p) (inl q) = absurd (omega arith)
  edge_third a b c i j h ab bc ij (inr (inl p)) (inl q) = absurd (omega arith)
  edge_third a b c i j h ab bc ij (inr (inl p)) (inr (inl q)) = absurd (omega arith)
  edge_third a b c i j h ab bc ij (inr (inr p)) (inl q) = absurd (omega arith)
  edge_third a b c i j h ab bc ij (inr (inr p)) (inr (inl q)) = absurd (omega arith)
  edge_third a b c i j h ab bc ij (inr (inr p)) (inr (inr q)) = absurd (omega arith)

  edge_shut : (s : List ℕ) → T s → (i j : ℕ) → i < j → j < n → On s i → On s j → Shut n (plane P) T (i ∷ j ∷ []) s
  edge_shut s k i j ij jn oi oj =
      let (a, b, c, is, h, ab, bc) = three s k in
      let (v, hv, among) = edge_third a b c i j h ab bc ij (member_points a b c is i oi) (member_points a b c is j oj) in
      go v hv (λ x o. among x (member_points a b c is x o)) (some_below n (λ d. (d ≡ v → ⊥) × Has R i j d) (λ d. dec_both (dec-not (ℕ_discrete d v)) (Bool-discrete (R i j d) true)))
    where
      go : (v : ℕ) → Has R i j v → ((x : ℕ) → On s x → Among i j v x) → Dec ((d : ℕ) × (d < n) × ((d ≡ v → ⊥) × Has R i j d)) → Shut n (plane P) T (i ∷ j ∷ []) s
      go v h inside (yes (d, dn, (ne, hd))) = inr (
        trio n i j d,
        (shows.1 i j d).0 hd,
        λ e. ⊎_elim (first_third g i j d hd) (⊎_elim (second_third g i j d hd) ne) (inside d (subst (λ (u : List ℕ). On u d) e (reflects_true (on_trio n i j d d) (dn, inr (inr refl))))),
        pair_face n P (trio n i j d) i j ij jn (reflects_true (on_trio n i j d i) (g.used i j d hd, inl refl)) (reflects_true (on_trio n i j d j) (jn, inr (inl refl))),
      )
      go v h inside (no none) = inl (outline_border i j v (h, λ d hd. dec→stable (ℕ_discrete d v) (λ ne. none (d, used_third g i j d hd, (ne, hd)))))

  pub placed_triangulation : Triangulation n (plane P) T
  placed_triangulation = record {
    simplices = member_simplex;
    some = one-member;
    ip = no-crossing;
    up = λ s k. each_face n P (λ e. Shut n (plane P) T e s) s (edge_shut s k);
  }
