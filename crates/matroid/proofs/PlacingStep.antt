-- One more point is placed: what held of the points so far (Outlines.Placed) holds of them and that point.
--
--   Grown P R m R'    R' are the triples of R, and those of m with each edge that it sees
--
-- Main theorem: `placed_on`. No two triples are separated: proofs/PlacingCrossing. The outline: an old edge that stays in it was not seen; at each end of a row of seen
-- edges it goes on with an edge that m does not see (Corners.outline_corner).
use mathlib.Core.Path.{◌≡◌, refl, sym, ◌∙◌, ap}
use mathlib.Core.Logic.{◌⊎◌, inl, inr, ◌↔◌}
use Prim.Native.Nat.{ℕ, ◌<◌}
use lib.IntN.{neg_ℤ, neg_ℤ-neg_ℤ}
use Rattle.algebra.specs.Sign.{NN, NZ}
use Rattle.algebra.proofs.SignLaws.{nn_cast, nn-zero, np_of, factor_r}
use Rattle.matroid.specs.Points.{Points}
use Rattle.matroid.proofs.Turns.{turn_cycle}
use Rattle.matroid.proofs.Sides.{turn_at, sides, sides_swap, sides_first}
use Rattle.matroid.proofs.Corners.{outline_corner}
use Rattle.matroid.proofs.Outlines.{TripleSet, Has, Lone, Placed, used_second, used_third, second-edge}
use Rattle.matroid.proofs.PlacingCrossing.{Sees, SeenTriple, After, sees_turned, seen_swap, seen_cycle, after_apart}

abbrev pub Grown : Points → TripleSet → ℕ → TripleSet → Type 0
Grown P R m R' = (a b c : ℕ) → Has R' a b c ↔ After P R m a b c

module _ {n : ℕ} {P : Points} {A : ℕ → Type 0} {R : TripleSet} (g : Placed n P A R) (m : ℕ) (mn : m < n) (fresh : A m → ⊥) where
  unseen : (a b v : ℕ) → Lone R a b v → (Sees P R m a b → ⊥) → NN (sides P a b v m)
  unseen a b v h f = nn_cast (neg_ℤ-neg_ℤ (sides P a b v m)) (np_of (neg_ℤ (sides P a b v m)) (λ s. f (v, h, s)))

  -- the end of a row of seen edges
  corner : (a b : ℕ) → Sees P R m a b → ((y : ℕ) → Sees P R m a y → y ≡ b) → (x : ℕ) → A x → NN (sides P m a b x)
  corner a b (v, h, s) only x ax =
      let (b', v', ne, h') = second-edge g a b v h in
      outline_corner P a b b' v v' m x s
      (g.outer a b v b' h (used_second g a b' v' h'.0)) (g.outer a b v v' h (used_third g a b' v' h'.0)) (g.outer a b v x h ax)
      (g.full a b' v' h'.0) (unseen a b' v' h' (λ k. ne (only b' k))) (g.outer a b' v' b h' (used_second g a b v h.0)) (g.outer a b' v' x h' ax)

  module _ {R' : TripleSet} (grown : Grown P R m R') where
    -- ---- a triple of R, or of m and an edge that it sees

    kept : (a b c : ℕ) → Has R a b c → Has R' a b c
    kept a b c h = (grown a b c).1 (inl h)

    put : (a b c : ℕ) → SeenTriple P R m a b c → Has R' a b c
    put a b c s = (grown a b c).1 (inr s)

    swap_on : (a b c : ℕ) → After P R m a b c → Has R' b a c
    swap_on a b c (inl h) = kept b a c (g.swap a b c h)
    swap_on a b c (inr s) = put b a c (seen_swap g m a b c s)

    cycle_on : (a b c : ℕ) → After P R m a b c → Has R' b c a
    cycle_on a b c (inl h) = kept b c a (g.cycle a b c h)
    cycle_on a b c (inr s) = put b c a (seen_cycle g m a b c s)

    used_on : (a b c : ℕ) → After P R m a b c → A a ⊎ (a ≡ m)
    used_on a b c (inl h) = inl (g.used a b c h)
    used_on a b c (inr (inl (e, _))) = inr e
    used_on a b c (inr (inr (inl (_, (v, h, _))))) = inl (used_second g c a v h.0)
    used_on a b c (inr (inr (inr (_, (v, h, _))))) = inl (g.used a b v h.0)

    full_on : (a b c : ℕ) → After P R m a b c → NZ (turn_at P a b c)
    full_on a b c (inl h) z = g.full a b c h z
    full_on a b c (inr (inl (e, (v, _, s)))) z = factor_r (turn_at P b c v) (turn_at P b c m) s (ap (turn_at P b c) (sym e) ∙ sym (turn_cycle (P a) (P b) (P c)) ∙ z)
    full_on a b c (inr (inr (inl (e, (v, _, s))))) z = factor_r (turn_at P c a v) (turn_at P c a m) s (ap (turn_at P c a) (sym e) ∙ turn_cycle (P c) (P a) (P b) ∙ z)
    full_on a b c (inr (inr (inr (e, (v, _, s))))) z = factor_r (turn_at P a b v) (turn_at P a b m) s (ap (turn_at P a b) (sym e) ∙ z)

    -- ---- the new outline

    -- an edge that was there is in one triple of R, too
    was_lone : (a b c : ℕ) → Lone R' a b c → Has R a b c → Lone R a b c
    was_lone a b c k h = (h, λ d q. k.1 d (kept a b d q))

    -- an edge of m
    outer_new : (a c x : ℕ) → Sees P R m a c → ((y : ℕ) → Has R' m a y → y ≡ c) → A x ⊎ (x ≡ m) → NN (sides P m a c x)
    outer_new a c x s only (inl ax) = corner a c s (λ y k. only y (put m a y (inl (refl, k)))) x ax
    outer_new a c x s only (inr e) = nn-zero (sides_first P m a c x e)

    outer_on : (a b c x : ℕ) → Lone R' a b c → After P R m a b c → A x ⊎ (x ≡ m) → NN (sides P a b c x)
    outer_on a b c x k (inl h) (inl ax) = g.outer a b c x (was_lone a b c k h) ax
    outer_on a b c x k (inl h) (inr e) = rw e (unseen a b c (was_lone a b c k h) (λ s. fresh (rw (k.1 m (put a b m (inr (inr (refl, s))))) (used_third g a b c h))))
    outer_on a b c x k (inr (inl (e, s))) ax = rw e (outer_new b c x s (λ y q. k.1 y (rw e q)) ax)
    outer_on a b c x k (inr (inr (inl (e, s)))) ax = rw e (nn_cast (sides_swap P m a c x) (outer_new a c x (sees_turned g m c a s) (λ y q. k.1 y (rw e (swap_on m a y ((grown m a y).0 q)))) ax))
    outer_on a b c x k (inr (inr (inr (e, (v, h, _))))) ax = absurd (fresh (rw (sym e ∙ sym (k.1 v (kept a b v h.0))) (used_third g a b v h.0)))

    low_on : (a : ℕ) → A a ⊎ (a ≡ m) → a < n
    low_on a (inl k) = g.low a k
    low_on a (inr e) = rw e mn

    pub placed_on : Placed n P (λ x. A x ⊎ (x ≡ m)) R'
    placed_on = record {
      low = low_on;
      some = let (a, b, c, h) = g.some in (a, b, c, kept a b c h);
      swap = λ a b c h. swap_on a b c ((grown a b c).0 h);
      cycle = λ a b c h. cycle_on a b c ((grown a b c).0 h);
      used = λ a b c h. used_on a b c ((grown a b c).0 h);
      full = λ a b c h. full_on a b c ((grown a b c).0 h);
      apart = λ a b c d e f h k. after_apart g m mn fresh a b c d e f ((grown a b c).0 h) ((grown d e f).0 k);
      outer = λ a b c x h. outer_on a b c x h ((grown a b c).0 h.0);
    }
