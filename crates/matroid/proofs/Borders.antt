-- Border pairs and triangles of the plane, by their turns.
--
--   border_sides     a pair is a border pair exactly if no two points are on opposite sides of it
--   far              how far a point is along a pair; `turn_along`: by it a turn about two points on the line of a pair is one about the pair
--   border-along     with a border pair each pair on its line is one
--   simplex-three    a triangle has three points, off a line; `simplex_turns`: in whatever order
use mathlib.Core.Path.{◌≡◌, sym, ◌∙◌, ap, subst}
use mathlib.Core.Logic.{◌↔◌}
use mathlib.Core.List.{List, [], ◌∷◌}
use Prim.Native.Nat.{ℕ, ◌<◌}
use lib.IntN.{ℤ, pos, neg_ℤ, ◌+ℤ◌, ◌-ℤ◌, ◌*ℤ◌, +ℤ_idr}
use Rattle.algebra.specs.Sets.{On}
use Rattle.algebra.specs.Sign.{NZ, Neg, Tri, below, at-nought, above}
use Rattle.algebra.proofs.AnswerLaws.{reflects_yes}
use Rattle.algebra.proofs.IntLaws.{*ℤ-neg-l}
use Rattle.algebra.proofs.Ring.{Ex, ◌⊕◌, ◌⊝◌, ◌⊗◌, neg, ring}
use Rattle.algebra.proofs.SignLaws.{tri, zero-mul, both_zero, pos_cast, pos_neg_mul, pos_of_mul, neg_of_mul, zero_of_mul, square_pos, square-mul, factor_l, sign_of_pos, sign_of-neg, sign_of-zero, pos-sign_of, neg-sign_of}
use Rattle.algebra.proofs.TrioLaws.{Among, on_triple, trio-three, any_order}
use Rattle.matroid.specs.Configurations.{chirotope, Simplex}
use Rattle.matroid.specs.Points.{Points, plane, dot}
use Rattle.matroid.specs.Triangulations.{Border}
use Rattle.matroid.proofs.Turns.{coordinates, D, O, chirotope-turn, turn_cycle, turn_swap_first, dot-zero}
use Rattle.matroid.proofs.Sides.{turn_at, sides}

-- ---- border pairs

module _ (P : Points) where
  abbrev pub far : (p q m : ℕ) → ℤ
  far p q m = dot (P p) (P m) (P q)

  pub turn_along : (p q i j m : ℕ) → turn_at P p q i ≡ pos 0 → turn_at P p q j ≡ pos 0 → far p q q *ℤ turn_at P i j m ≡ (far p q j -ℤ far p q i) *ℤ turn_at P p q m
  turn_along p q i j m ei ej =
      ring (coordinates (P p ∷ P q ∷ P i ∷ P j ∷ P m ∷ [])) (O 0 1 1 ⊗ D 2 3 4) (F 3 ⊗ D 0 1 4 ⊕ ((F 4 ⊝ F 3) ⊗ D 0 1 2 ⊕ neg (F 4) ⊗ D 0 1 3)) tt
      ∙ ap (λ z. gap j *ℤ turn_at P p q m +ℤ z) (both_zero (gap m -ℤ gap j) (neg_ℤ (gap m)) ei ej) ∙ +ℤ_idr (gap j *ℤ turn_at P p q m)
    where
      gap : ℕ → ℤ
      gap k = far p q k -ℤ far p q i

      F : ℕ → Ex
      F k = O 0 k 1 ⊝ O 0 2 1

module _ (n : ℕ) (P : Points) where
  pub border_sides : (i j : ℕ) → Border n (plane P) (i ∷ j ∷ []) ↔ ((k l : ℕ) → k < n → l < n → Neg (sides P i j k l) → ⊥)
  border_sides i j = (λ b k l kn ln h. out b k l kn ln h (tri (τ k)), λ h ((k, kn, ek), (l, ln, el)). h k l kn ln (pos_neg_mul (τ l) (pos-sign_of (τ k) (sym (chirotope-turn P i j k) ∙ ek)) (neg-sign_of (τ l) (sym (chirotope-turn P i j l) ∙ el))))
    where
      τ : ℕ → ℤ
      τ = turn_at P i j

      out : Border n (plane P) (i ∷ j ∷ []) → (k l : ℕ) → k < n → l < n → Neg (sides P i j k l) → Tri (τ k) → ⊥
      out b k l kn ln h (above p) = b ((k, kn, chirotope-turn P i j k ∙ sign_of_pos (τ k) p), (l, ln, chirotope-turn P i j l ∙ sign_of-neg (τ l) (neg_of_mul (τ l) p h)))
      out b k l kn ln h (at-nought e) = factor_l (τ k) (τ l) h e
      out b k l kn ln h (below p) = b ((l, ln, chirotope-turn P i j l ∙ sign_of_pos (τ l) (pos_of_mul p (pos_cast (sym (*ℤ-neg-l (τ k) (τ l))) h))), (k, kn, chirotope-turn P i j k ∙ sign_of-neg (τ k) p))

  pub border-along : (p q i j : ℕ) → (P q ≡ P p → ⊥) → turn_at P p q i ≡ pos 0 → turn_at P p q j ≡ pos 0 → Border n (plane P) (p ∷ q ∷ []) → Border n (plane P) (i ∷ j ∷ [])
  border-along p q i j ne ei ej b = (border_sides i j).1 (λ k l kn ln h. (border_sides p q).0 b k l kn ln (neg_of_mul (sides P p q k l) (square_pos gap (gap_off k l h)) (pos_cast (ap neg_ℤ (squared k l)) (pos_neg_mul (sides P i j k l) (square_pos long long_off) h))))
    where
      long : ℤ
      long = far P p q q

      long_off : NZ long
      long_off z = ne (dot-zero (P p) (P q) z)

      -- from i to j
      gap : ℤ
      gap = far P p q j -ℤ far P p q i

      about : (m : ℕ) → long *ℤ turn_at P i j m ≡ gap *ℤ turn_at P p q m
      about m = turn_along P p q i j m ei ej

      squared : (k l : ℕ) → long *ℤ long *ℤ sides P i j k l ≡ gap *ℤ gap *ℤ sides P p q k l
      squared k l = square-mul long (turn_at P i j k) (turn_at P i j l) ∙ (λ r. about k r *ℤ about l r) ∙ sym (square-mul gap (turn_at P p q k) (turn_at P p q l))

      gap_off : (k l : ℕ) → Neg (sides P i j k l) → NZ gap
      gap_off k l h z = factor_l (turn_at P i j k) (turn_at P i j l) h (zero_of_mul long_off (about k ∙ zero-mul (turn_at P p q k) z))

-- ---- triangles

pub simplex-three : (n : ℕ) (P : Points) (s : List ℕ) → Simplex n (plane P) s → (a : ℕ) × (b : ℕ) × (c : ℕ) × (a < b) × (b < c) × (c < n) × (s ≡ a ∷ b ∷ c ∷ []) × NZ (turn_at P a b c)
simplex-three n P s x =
    let (a, b, c, ab, bc, cn, is, _) = trio-three n s x.within x.size in
    (a, b, c, ab, bc, cn, is, λ e. x.full (ap (chirotope (plane P)) is ∙ chirotope-turn P a b c ∙ sign_of-zero (turn_at P a b c) e))

pub simplex_turns : (n : ℕ) (P : Points) (s : List ℕ) → Simplex n (plane P) s → (a b c : ℕ) → (a ≡ b → ⊥) → (a ≡ c → ⊥) → (b ≡ c → ⊥) → On s a → On s b → On s c → NZ (turn_at P a b c)
simplex_turns n P s x a b c ab ac bc oa ob oc e =
    let (i, j, k, _, _, _, is, nz) = simplex-three n P s x in
    let at : (m : ℕ) → On s m → Among i j k m = λ m o. reflects_yes (on_triple i j k m) (subst (λ (t : List ℕ). On t m) is o) in
    nz (any_order (λ u v w. turn_at P u v w ≡ pos 0) (λ u v w q. turn_swap_first (P u) (P v) (P w) ∙ ap neg_ℤ q) (λ u v w q. sym (turn_cycle (P u) (P v) (P w)) ∙ q)
    a b c ab ac bc i j k (at a oa) (at b ob) (at c oc) e)
