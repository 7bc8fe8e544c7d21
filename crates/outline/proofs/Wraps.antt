-- The chains as they are found are chains of edges: Wrapped, from the first shot of all.
--
--   inner_sign        the sign of what is on the inner side: plus, on the left, for the south chain; minus, on the right, for the north chain
--   first_of_all     `first_of` is before every other shot
--   next_best        of the shots ahead none is on the outer side of p and `next_of`, and it is p only where none is ahead
--   chain_wrapped    the chain from the first shot goes along edges, to the last shot of all
use mathlib.Core.Path.{◌≡◌, refl, sym, ◌∙◌, ap, subst}
use mathlib.Core.Logic.{◌⊎◌, inl, inr, ⊎_elim}
use mathlib.Core.Bool.{Bool, true, false, cond, ◌&&◌, true≢false, false≢true}
use mathlib.Core.List.{List, [], ◌∷◌}
use Prim.Native.Nat.{ℕ, zero, suc, ◌≤◌, ◌<◌}
use native.Mathlib.Omega.{arith}
use native.Mathlib.Decide.{ℕ_discrete}
use native.Mathlib.Nat.{not-suc-le-zero}
use lib.IntN.{ℤ, pos, neg_ℤ, ◌*ℤ◌}
use Rattle.algebra.specs.Answer.{Reflects}
use Rattle.algebra.specs.Loops.{fold}
use Rattle.algebra.specs.Sign.{Sign, minus, nought, plus, sign_of, opposite, value, Pos, NN, NP, NZ}
use Rattle.algebra.proofs.AnswerLaws.{reflects_iff, reflects_yes, reflects_no, reflects_true, reflects_false}
use Rattle.algebra.proofs.LoopLaws.{last}
use Rattle.algebra.proofs.SignLaws.{value_plus, value_minus, pos_cast, nn_cast, pos_nn, nn-zero, mul-zero, pos-add, pos-zero, pos_of_nn, np_of, pos-sign_of, neg-sign_of, zero-sign_of, sign_of-zero, sign_of-opposite, plus-nought, minus-nought}
use Rattle.matroid.proofs.Turns.{turn-first}
use Rattle.matroid.proofs.Search.{cnt, cnt_lt, cnt_below}
use Rattle.matroid.proofs.Wrapping.{ahead, ahead_self, ahead_back, ahead-add, not_back, swung, Best, best_none, best_passed, best_kept, best_taken, Edge, edge-first, edge_behind}
use Rattle.matroid.proofs.ChainLaws.{FirstOf, Wrapped}
use Rattle.shots.specs.Coordinates.{point_of, area_of}
use Rattle.shots.specs.Patch.{count_of, orient_of, before_of}
use Rattle.shots.specs.Tests.{refusal_of}
use Rattle.shots.proofs.Orders.{eastward, before_ahead, ahead_apart, before_decided}
use Rattle.shots.proofs.Patch.{patch_few}
use Rattle.outline.specs.Wrapping.{first_of, outer_of, passes_of, next_of, chain_from, chain_of}
use Rattle.outline.proofs.ChainSteps.{chain_at_last, chain_goes_on}

abbrev pub inner_sign : Bool → Sign
inner_sign false = plus
inner_sign true = minus

module _ (l : List ℤ) (h : refusal_of l ≡ 0) where
  abbrev n : ℕ
  n = count_of l

  abbrev way : ℕ → ℕ → ℤ
  way = ahead (point_of l) eastward

  before_says : (i j : ℕ) → Reflects (Pos (way i j)) (before_of l i j)
  before_says i j = reflects_iff (before_ahead l h i j) (before_decided l i j)

  not_ahead : (i j : ℕ) → before_of l i j ≡ false → NN (way j i)
  not_ahead i j e = nn_cast (ahead_back (point_of l) eastward i j) (np_of (way i j) (reflects_no (before_says i j) e))

  -- ---- the first shot

  abbrev earlier : ℕ → ℕ → ℕ
  earlier k q = cond (before_of l k q) k q

  first_so_far : (m : ℕ) → m ≤ n → 0 < n → (fold earlier 0 m < n) × ((k : ℕ) → k < m → (k ≡ fold earlier 0 m → ⊥) → Pos (way (fold earlier 0 m) k))
  unfolding fold
  first_so_far zero _ o = (o, λ k l. absurd (not-suc-le-zero l))
  first_so_far (suc m) ml o = go (fold earlier 0 m) (first_so_far m (omega arith) o) (before_of l m (fold earlier 0 m)) (before_says m (fold earlier 0 m))
    where
      go : (q : ℕ) → (q < n) × ((k : ℕ) → k < m → (k ≡ q → ⊥) → Pos (way q k)) → (t : Bool) → Reflects (Pos (way m q)) t
          → (cond t m q < n) × ((k : ℕ) → k < suc m → (k ≡ cond t m q → ⊥) → Pos (way (cond t m q) k))
      go q (qn, all) true r = (omega arith, λ k kl ne. ⊎_elim (λ j. on k j (ℕ_discrete k q)) (λ e. absurd (ne e)) (last k m kl))
        where
          on : (k : ℕ) → k < m → Dec (k ≡ q) → Pos (way m k)
          on k j (yes e) = pos_cast (ap (way m) (sym e)) (reflects_yes r refl)
          on k j (no ne) = pos_cast (ahead-add (point_of l) eastward m q k) (pos-add (reflects_yes r refl) (all k j ne))
      go q (qn, all) false r = (qn, λ k kl ne. ⊎_elim (λ j. all k j ne) (λ e. behind k e ne) (last k m kl))
        where
          behind : (k : ℕ) → k ≡ m → (k ≡ q → ⊥) → Pos (way q k)
          behind k e ne = pos_of_nn (way q k) (nn_cast (ap (way q) (sym e)) (nn_cast (ahead_back (point_of l) eastward m q) (np_of (way m q) (reflects_no r refl))))
              (λ z. ne (sym (ahead_apart l h q k qn (omega arith) z)))

  pub first_of_all : FirstOf n (point_of l) eastward (ahead_apart l h) (first_of l)
  unfolding first_of
  first_of_all = first_so_far n (omega arith) (omega (arith, (patch_few l h).0))

  -- ---- the shot behind another one

  -- what is on the outer side of the north chain is so of the south chain, with its sign turned
  outer_turned : (b f : Bool) (z : ℤ) → outer_of b f (sign_of z) ≡ outer_of false f (sign_of (value (inner_sign b) *ℤ z))
  unfolding value opposite
  outer_turned false f z = ap (λ (x : ℤ). outer_of false f (sign_of x)) (sym (value_plus z))
  outer_turned true f z = go (sign_of z) ∙ ap (outer_of false f) (sym (sign_of-opposite z) ∙ ap sign_of (sym (value_minus z)))
    where
      go : (s : Sign) → outer_of true f s ≡ outer_of false f (opposite s)
      go minus = refl
      go nought = refl
      go plus = refl

  out : (w : ℤ) (f : Bool) (s : Sign) → sign_of w ≡ s → outer_of false f s ≡ true → NP w × (w ≡ pos 0 → f ≡ true)
  out w f minus e t = (pos_nn (neg-sign_of w e), λ z. minus-nought (sym e ∙ sign_of-zero w z))
  out w f nought e t = (nn-zero (ap neg_ℤ (zero-sign_of w e)), λ _. t)
  out w f plus e t = absurd (false≢true t)

  in_or_on : (w : ℤ) (f : Bool) (s : Sign) → sign_of w ≡ s → outer_of false f s ≡ false → NN w × (w ≡ pos 0 → f ≡ false)
  in_or_on w f minus e t = absurd (true≢false t)
  in_or_on w f nought e t = (nn-zero (zero-sign_of w e), λ _. t)
  in_or_on w f plus e t = (pos_nn (pos-sign_of w e), λ z. plus-nought (sym e ∙ sign_of-zero w z))

  module _ (b : Bool) where
    abbrev s : ℤ
    s = value (inner_sign b)

    abbrev T : ℕ → ℕ → ℕ → ℤ
    T = swung (point_of l) eastward s

    module _ (p : ℕ) (pn : p < n) where
      abbrev better : ℕ → ℕ → ℕ
      better k q = cond (passes_of l b p q k) k q

      abbrev BestOf : ℕ → ℕ → Type 0
      BestOf m q = ((q ≡ p) ⊎ Pos (way p q)) × (q < n) × Best (point_of l) eastward s p q m

      so_far : (m : ℕ) → m ≤ n → BestOf m (fold better p m)
      unfolding fold passes_of orient_of area_of
      so_far zero _ = (inl refl, pn, best_none (point_of l) eastward s p p)
      so_far (suc m) ml = go (fold better p m) (so_far m (omega arith)) (before_of l p m) (before_says p m) (outer_of b (before_of l (fold better p m) m) (orient_of l p (fold better p m) m)) refl
        where
          go : (q : ℕ) → BestOf m q → (a : Bool) → Reflects (Pos (way p m)) a → (o : Bool) → outer_of b (before_of l q m) (orient_of l p q m) ≡ o → BestOf (suc m) (cond (a && o) m q)
          go q (i, qn, best) false r o e = (i, qn, best_passed (point_of l) eastward s p q m best (reflects_no r refl))
          go q (i, qn, best) true r true e =
              let (np, far) = out (T p q m) (before_of l q m) _ refl (sym (outer_turned b (before_of l q m) (area_of l p q m)) ∙ e) in
              (inr (reflects_yes r refl), omega arith, best_taken (point_of l) eastward s p q m best i (reflects_yes r refl) np (λ z. reflects_yes (before_says q m) (far z)))
          go q (i, qn, best) true r false e =
              let (nn, near) = in_or_on (T p q m) (before_of l q m) _ refl (sym (outer_turned b (before_of l q m) (area_of l p q m)) ∙ e) in
              (i, qn, best_kept (point_of l) eastward s p q m best nn (λ z. not_ahead q m (near z)))

      pub next_best : BestOf n (next_of l b p)
      unfolding next_of
      next_best = so_far n (omega arith)

    -- ---- the whole chain

    -- 1 at the shots ahead of p
    abbrev after : ℕ → ℕ → ℤ
    after p k = cond (before_of l p k) (pos 1) (pos 0)

    after_none : (p k : ℕ) → (Pos (way p k) → ⊥) → after p k ≡ pos 0
    after_none p k f = ap (λ (t : Bool). cond t (pos 1) (pos 0)) (reflects_false (before_says p k) f)

    after_some : (p k : ℕ) → Pos (way p k) → NZ (after p k)
    after_some p k f z = pos-zero (record { by = 0; is = refl }) (ap (λ (t : Bool). cond t (pos 1) (pos 0)) (sym (reflects_true (before_says p k) f)) ∙ z)

    not_self : (p : ℕ) → Pos (way p p) → ⊥
    not_self p f = pos-zero f (ahead_self (point_of l) eastward p)

    fewer : (p q : ℕ) → q < n → Pos (way p q) → cnt n (after q) < cnt n (after p)
    fewer p q qn f = cnt_lt n q (after q) (after p)
        (λ k kn z. after_none q k (λ g. after_some p k (pos_cast (ahead-add (point_of l) eastward p q k) (pos-add f g)) z)) qn (after_none q q (not_self q)) (after_some p q f)

    -- p, and what is behind it, with an edge to it
    abbrev Chained : ℕ → ℕ → Type 0
    Chained m p = (c : List ℕ) × (chain_from l b m p ≡ p ∷ c) × Wrapped n (point_of l) eastward (ahead_apart l h) s p c

    abbrev Goes : ℕ → Type 0
    Goes p = (q : ℕ) → q < n → Pos (way p q) → Best (point_of l) eastward s p q n → Edge (point_of l) eastward s n p q

    wraps : (m p : ℕ) → p < n → Goes p → cnt n (after p) < m → Chained m p
    wraps zero p pn edge lt = absurd (not-suc-le-zero lt)
    wraps (suc m) p pn edge lt = go (wraps m) (next_of l b p) refl (next_best p pn) (ℕ_discrete (next_of l b p) p)
      where
        go : ((q : ℕ) → q < n → Goes q → cnt n (after q) < m → Chained m q) → (q : ℕ) → next_of l b p ≡ q → BestOf p pn n q → Dec (next_of l b p ≡ p) → Chained (suc m) p
        go on q e (i, qn, best) (yes z) = (
          [],
          chain_at_last l b m p z,
          λ k kn f.
              not_back (point_of l) eastward p k f (subst (λ (j : ℕ). NN (way k j)) (sym e ∙ z) ((best k kn f).1 (ap (λ (j : ℕ). T p j k) (sym e ∙ z) ∙ mul-zero s (turn-first (point_of l p) (point_of l k))))),
        )
        go on q e (i, qn, best) (no ne) =
            let f : Pos (way p q) = ⊎_elim (λ z. absurd (ne (e ∙ z))) (λ f. f) i in
            let (c, is, w) = on q qn (λ r. edge_behind (point_of l) eastward s n p q r (edge q qn f best)) (let k = fewer p q qn f in omega arith) in
            (q ∷ c, chain_goes_on l b m p ne ∙ ap (λ (t : List ℕ). p ∷ t) (ap (chain_from l b m) e ∙ is), (edge q qn f best, w))

    pub chain_wrapped : (c : List ℕ) × (chain_of l b ≡ first_of l ∷ c) × Wrapped n (point_of l) eastward (ahead_apart l h) s (first_of l) c
    unfolding chain_of
    chain_wrapped = let (pn, first) = first_of_all in
        wraps n (first_of l) pn (λ q qn f. edge-first (point_of l) eastward s n (first_of l) q pn qn first f) (cnt_below n (first_of l) (after (first_of l)) pn (after_none (first_of l) (first_of l) (not_self (first_of l))))
