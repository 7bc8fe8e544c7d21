-- Placing a shot joins it to every edge of the outline that it sees: the step of the code is that of matroid's PlacingStep.
--
--   opposed_decided    `opposed` decides that two numbers have opposite signs
--   third-listed       `third_in` as a set of triples: those whose trio is a triple of the list
--   visible_decided    `visible` decides that a shot sees an edge of the outline (matroid, PlacingCrossing.Sees)
--
-- Main theorem: `shot-grown` (matroid, PlacingStep.Grown).
use Rattle.std.specs.Prelude.{◌≡◌, ℕ, ◌<◌, ◌⊎◌, ◌↔◌, List, ℤ, ◌*ℤ◌}
use mathlib.Core.Path.{refl, sym, subst}
use mathlib.Core.Logic.{inl, inr}
use native.Mathlib.Omega.{arith}
use native.Mathlib.Decide.{dec_lt}
use Rattle.algebra.specs.Answer.{Reflects, holds, fails}
use Rattle.algebra.specs.Sign.{sign_of, opposite, Neg, Tri, below, at-nought, above}
use Rattle.algebra.specs.Words.{Words}
use Rattle.algebra.proofs.AnswerLaws.{reflects_yes, reflects_true, reflects_iff}
use Rattle.algebra.proofs.SignLaws.{tri, pos-mul, pos_neg_mul, neg_pos_mul, neg-mul, pos_nn, neg_nn, factor_l, factor_r, sign_of_pos, sign_of-neg, sign_of-zero}
use Rattle.algebra.proofs.TrioLaws.{trio, among_swap, among_cycle, trio_same, trio_holds, SameThree, any_order}
use Rattle.matroid.specs.Points.{Points}
use Rattle.matroid.proofs.Sides.{turn_at, sides}
use Rattle.matroid.proofs.Outlines.{TripleSet, Has, Placed, used_second, used_third, first_second}
use Rattle.matroid.proofs.PlacingCrossing.{Sees, SeenTriple, After, sees_turned, seen_swap, seen_cycle}
use Rattle.matroid.proofs.PlacingStep.{Grown}
use Rattle.shots.specs.Coordinates.{point_of, area_of}
use Rattle.shots.specs.Patch.{count_of, orient_of}
use Rattle.shots.specs.Tests.{refusal_of}
use Rattle.triples.specs.Sizes.{word_count}
use Rattle.lists.specs.Lines.{Listed}
use Rattle.surfaces.specs.Placing.{third_in, opposed, visible, place_shot}
use Rattle.surfaces.proofs.ByEdges.{LoneAcross, visible_lone, visible_apart, third_decided}
use Rattle.surfaces.proofs.PlacedLists.{VisibleTriple, shot-listed}

opposed_decided : (x y : ℤ) → Reflects (Neg (x *ℤ y)) (opposed (sign_of x) (sign_of y))
unfolding opposite
opposed_decided x y = go (tri x) (tri y)
  where
    go : Tri x → Tri y → Reflects (Neg (x *ℤ y)) (opposed (sign_of x) (sign_of y))
    go (at-nought e) _ = rw (sign_of-zero x e) (fails (λ h. factor_l x y h e))
    go (above p) (at-nought e) = rw (sign_of_pos x p, sign_of-zero y e) (fails (λ h. factor_r x y h e))
    go (below p) (at-nought e) = rw (sign_of-neg x p, sign_of-zero y e) (fails (λ h. factor_r x y h e))
    go (above p) (above q) = rw (sign_of_pos x p, sign_of_pos y q) (fails (λ h. neg_nn h (pos_nn (pos-mul p q))))
    go (below p) (below q) = rw (sign_of-neg x p, sign_of-neg y q) (fails (λ h. neg_nn h (pos_nn (neg-mul x y p q))))
    go (above p) (below q) = rw (sign_of_pos x p, sign_of-neg y q) (holds (pos_neg_mul y p q))
    go (below p) (above q) = rw (sign_of-neg x p, sign_of_pos y q) (holds (neg_pos_mul x p q))

-- ---- a list as a set of triples

module _ (n : ℕ) (w : List ℕ) where
  pub third-listed : (x y z : ℕ) → Has (third_in n w) x y z ↔ Listed n w (trio n x y z)
  third-listed x y z = (reflects_yes (third_decided n w x y z), reflects_true (third_decided n w x y z))

  third_same : (x y z a b c : ℕ) → SameThree a b c x y z → Has (third_in n w) x y z → Has (third_in n w) a b c
  third_same x y z a b c h e = (third-listed a b c).1 (subst (Listed n w) (trio_same n x y z a b c h) ((third-listed x y z).0 e))

  third_swap : (x y z : ℕ) → Has (third_in n w) x y z → Has (third_in n w) y x z
  third_swap x y z = third_same x y z y x z (λ i. (among_swap x y z i, among_swap y x z i))

  third_cycle : (x y z : ℕ) → Has (third_in n w) x y z → Has (third_in n w) y z x
  third_cycle x y z = third_same x y z y z x (λ i. (among_cycle x y z i, λ o. among_cycle z x y i (among_cycle y z x i o)))

-- ---- one shot

module _ (l : List ℤ) (ok : refusal_of l ≡ 0) (w : List ℕ) (v : Words word_count w) (m : ℕ) (mn : m < count_of l) where
  abbrev n : ℕ
  n = count_of l

  abbrev P : Points
  P = point_of l

  abbrev R : TripleSet
  R = third_in n w

  -- the list when m is placed
  abbrev w' : List ℕ
  w' = place_shot l w m

  abbrev R' : TripleSet
  R' = third_in n w'

  module _ {A : ℕ → Type 0} (g : Placed n P A R) where
    visible_decided : (i j : ℕ) → Reflects (Sees P R m i j) (visible l w m i j)
    unfolding orient_of area_of
    visible_decided i j = reflects_iff (out, into) (visible_lone l w m i j)
      where
        across : (u : ℕ) → Reflects (Neg (sides P i j u m)) (opposed (orient_of l i j u) (orient_of l i j m))
        across u = opposed_decided (turn_at P i j u) (turn_at P i j m)

        out : (u : ℕ) × (u < n) × LoneAcross l w m i j u → Sees P R m i j
        out (u, _, ((h, lone), s)) = (u, (h, λ d q. lone d (g.low d (used_third g i j d q)) q), reflects_yes (across u) s)

        into : Sees P R m i j → (u : ℕ) × (u < n) × LoneAcross l w m i j u
        into (u, (h, lone), s) = (u, g.low u (used_third g i j u h), ((h, λ d _. lone d), reflects_true (across u) s))

    put_up : (i j : ℕ) → i < j → Sees P R m i j → Has R' i j m
    put_up i j ij s = (third-listed n w' i j m).1 ((shot-listed l ok w v m mn (trio n i j m)).1
        (inr (j, g.low j (used_second g i j s.0 s.1.0), (i, ij, (reflects_true (visible_decided i j) s, refl)))))

    put : (i j : ℕ) → Sees P R m i j → Has R' i j m
    put i j s = go (dec_lt i j)
      where
        go : Dec (i < j) → Has R' i j m
        go (yes h) = put_up i j h s
        go (no h) = let ne = first_second g i j s.0 s.1.0 in third_swap n w' j i m (put_up j i (omega arith) (sees_turned g m i j s))

    pub shot-grown : Grown P R m R'
    shot-grown x y z = (λ e. out ((shot-listed l ok w v m mn (trio n x y z)).0 ((third-listed n w' x y z).0 e)), into)
      where
        out : Listed n w (trio n x y z) ⊎ VisibleTriple l w m (trio n x y z) → After P R m x y z
        out (inl e) = inl ((third-listed n w x y z).1 e)
        out (inr (j, jn, (i, ij, (s, q)))) =
            let (mi, mj) = visible_apart l w m i j s in
            let (a, b, c) = trio_holds n i j m x y z (omega arith) jn mn q in
            inr (any_order (SeenTriple P R m) (seen_swap g m) (seen_cycle g m) i j m (λ e. omega arith) (λ e. mi (sym e)) (λ e. mj (sym e)) x y z a b c (inr (inr (refl, reflects_yes (visible_decided i j) s))))

        into : After P R m x y z → Has R' x y z
        into (inl e) = (third-listed n w' x y z).1 ((shot-listed l ok w v m mn (trio n x y z)).1 (inl ((third-listed n w x y z).0 e)))
        into (inr (inl (e, s))) = third_cycle n w' z x y (third_cycle n w' y z x (rw e (put y z s)))
        into (inr (inr (inl (e, s)))) = third_cycle n w' z x y (rw e (put z x s))
        into (inr (inr (inr (e, s)))) = rw e (put x y s)
