-- Sides are the published ones, and `border` counts them (document 02, E1).
--
--   side_says             in an accepted patch a pair passes the test of a side exactly when it is one
--   pair_on_one_side      a border pair of an accepted patch is on exactly one side
--   border_counts_sides   `border` gives a number exactly when the patch is accepted and some list of that length holds each side once, and nothing else
use mathlib.Core.Path.{◌≡◌, refl, sym, ◌∙◌, ap, subst}
use mathlib.Core.Logic.{◌↔◌}
use mathlib.Core.Bool.{Bool, true, false, cond}
use mathlib.Core.List.Memᴰ
use mathlib.Core.List.{List, [], ◌∷◌, Memᴰ}
use Prim.Native.Nat.{ℕ, ◌+◌, ◌<◌}
use native.Mathlib.Omega.{arith}
use lib.ListN.{length}
use lib.IntN.{ℤ}
use Rattle.algebra.specs.Answer.{Reflects, gives, Clear}
use Rattle.algebra.specs.Loops.{tally, over}
use Rattle.algebra.specs.Sign.{nought}
use Rattle.algebra.proofs.AnswerLaws.{reflects_iff, reflects_yes, reflects_true, reflects_stable, reflects-not, reflects-and, reflects_eqb, is-nought}
use Rattle.algebra.proofs.ListLaws.{two_parts, Apart, Other, exactly_apart, exactly-length, kept, kept_in, kept_out, kept_apart}
use Rattle.algebra.proofs.LoopLaws.{reflects-any, reflects_test}
use Rattle.algebra.proofs.OverLaws.{over_in, over_out, over_apart, over_sized}
use Rattle.algebra.proofs.SignLaws.{sign_of-zero, zero-sign_of}
use Rattle.matroid.specs.Borders.{Side, OnSide}
use Rattle.matroid.specs.Points.{Between}
use Rattle.matroid.specs.Triangulations.{Border}
use Rattle.matroid.proofs.SideLaws.{border_on_one_side}
use Rattle.shots.specs.Coordinates.{point_of, patch_of, area_of}
use Rattle.shots.specs.Patch.{count_of, orient_of, between_of, outside_at, some_outside, side_pair_of}
use Rattle.shots.specs.Tests.{refusal_of}
use Rattle.shots.specs.Lines.{shot_lines, SidePairs}
use Rattle.shots.specs.Calls.{sides_of, border_call_of}
use Rattle.shots.proofs.Borders.{border_decided}
use Rattle.shots.proofs.Orientations.{orient_cycle, between_says}
use Rattle.shots.proofs.Patch.{patch_distinct}
use Rattle.shots.proofs.Promises.{border_gives, shots_kept}

module _ (l : List ℤ) where
  abbrev n : ℕ
  n = count_of l

  module _ (i j : ℕ) where
    -- what `outside_at` asks of shot k
    Outside : ℕ → Type 0
    Outside k = (k ≡ i → ⊥) × ((k ≡ j → ⊥) × ((orient_of l i j k ≡ nought) × (between_of l k i j ≡ true → ⊥)))

    outside_decided : (k : ℕ) → Reflects (Outside k) (outside_at l i j k)
    unfolding Outside outside_at
    outside_decided k =
        reflects-and (reflects-not (reflects_eqb k i)) (reflects-and (reflects-not (reflects_eqb k j)) (reflects-and (is-nought (orient_of l i j k)) (reflects-not (reflects_test (between_of l k i j)))))

    module _ (h : refusal_of l ≡ 0) (jn : j < n) where
      between : (k : ℕ) → k < n → (k ≡ j → ⊥) → orient_of l i j k ≡ nought → (between_of l k i j ≡ true) ↔ Between (point_of l k) (point_of l i) (point_of l j)
      between k kn kj z = between_says l h k i j kn jn kj (orient_cycle l k i j ∙ z)

      side_decided : Reflects (Side n (point_of l) i j) (side_pair_of l i j)
      unfolding side_pair_of some_outside Outside orient_of area_of
      side_decided = reflects_iff (
        λ (b, none). record {
          border = b;
          between = λ k kn ki kj z.
              let o = sign_of-zero (area_of l i j k) z in
              (between k kn kj o).0 (reflects_stable (reflects_test (between_of l k i j)) (λ nb. none (k, kn, (ki, (kj, (o, nb))))));
        },
        λ s. (s.border, λ (k, kn, (ki, (kj, (o, nb)))). nb ((between k kn kj o).1 (s.between k kn ki kj (zero-sign_of (area_of l i j k) o)))),
      ) (reflects-and (border_decided l i j) (reflects-not (reflects-any Outside (outside_at l i j) n (λ k _. outside_decided k))))

      pub side_says : (side_pair_of l i j ≡ true) ↔ Side n (point_of l) i j
      side_says = (λ t. reflects_yes side_decided t, λ s. reflects_true side_decided s)

  pub pair_on_one_side : refusal_of l ≡ 0 → (p q : ℕ) → p < q → q < n → Border n (patch_of l) (p ∷ q ∷ [])
      → (i : ℕ) × (j : ℕ) × OnSide n (point_of l) p q i j × ((i' j' : ℕ) → OnSide n (point_of l) p q i' j' → (i' ≡ i) × (j' ≡ j))
  pair_on_one_side h p q pq qn = border_on_one_side n (point_of l) (patch_distinct l h) p q (omega arith) qn (omega arith)

  -- ---- all of them, as `border` goes through them

  one : ℕ → ℕ → List (List ℕ)
  one j i = kept (λ _. side_pair_of l i j) ((i ∷ j ∷ []) ∷ [])

  with : ℕ → List (List ℕ)
  with j = over (one j) 0 j

  pairs : List (List ℕ)
  pairs = over with 0 n

  with_out : (j : ℕ) {e : List ℕ} → Memᴰ e (with j) → (i : ℕ) × (e ≡ i ∷ j ∷ []) × (i < j) × (side_pair_of l i j ≡ true)
  unfolding with one
  with_out j {e} m =
      let (i, _, h, k) = over_out (one j) 0 j m in
      let (p, t) = kept_out (λ _. side_pair_of l i j) e ((i ∷ j ∷ []) ∷ []) k in
      (i, Memᴰ.eq_of_singleton p, h, t)

  less : {i j : ℕ} → i < j → i ≡ j → ⊥
  less h e = omega arith

  with_apart : (j : ℕ) → Apart Other (with j)
  unfolding with one
  with_apart j =
      over_apart (one j) Other 0 j (λ i _ _. kept_apart (λ _. side_pair_of l i j) ((i ∷ j ∷ []) ∷ []) (λ y m. absurd (Memᴰ.not-nil m), tt))
      (λ i i' _ h _ x y m m' e. less h (two_parts (sym (is i x m) ∙ e ∙ is i' y m')).0)
    where
      is : (i : ℕ) (x : List ℕ) → Memᴰ x (one j i) → x ≡ i ∷ j ∷ []
      is i x m = Memᴰ.eq_of_singleton (kept_out (λ _. side_pair_of l i j) x ((i ∷ j ∷ []) ∷ []) m).0

  pairs_apart : Apart Other pairs
  unfolding pairs
  pairs_apart = over_apart with Other 0 n (λ j _ _. with_apart j) (λ j j' _ h _ x y m m' e. less h (two_parts (sym (with_out j m).1 ∙ e ∙ (with_out j' m').1)).1)

  pairs_count : length pairs ≡ tally n (sides_of l)
  unfolding pairs with one sides_of tally
  pairs_count = over_sized with (λ k. tally k (sides_of l)) n refl (λ j _. ap (λ (x : ℕ). tally j (sides_of l) + x) (sym (sized j)))
    where
      size : (i j : ℕ) (b : Bool) → cond b 1 0 ≡ length (kept (λ _. b) ((i ∷ j ∷ []) ∷ []))
      size i j true = refl
      size i j false = refl

      sized : (j : ℕ) → length (with j) ≡ sides_of l j
      sized j = over_sized (one j) (λ k. tally k (λ i. cond (side_pair_of l i j) 1 0)) j refl (λ i _. ap (λ (x : ℕ). tally i (λ i. cond (side_pair_of l i j) 1 0) + x) (size i j (side_pair_of l i j)))

  all_pairs : refusal_of l ≡ 0 → SidePairs l pairs
  unfolding pairs with one
  all_pairs a = exactly_apart pairs (λ e. (
    λ m. let (j, _, jn, k) = over_out with 0 n m in
        let (i, q, h, t) = with_out j k in
        (i, j, q, h, jn, (side_says i j a jn).0 t),
    λ (i, j, q, h, jn, s). subst (λ (x : List ℕ). Memᴰ x pairs) (sym q)
        (over_in with 0 n j (omega arith) jn (over_in (one j) 0 j i (omega arith) h
        (kept_in (λ _. side_pair_of l i j) (i ∷ j ∷ []) ((i ∷ j ∷ []) ∷ []) (Memᴰ.head refl) ((side_says i j a jn).1 s)))),
  )) pairs_apart

  pub border_counts_sides : (v : ℕ) → (border_call_of l ≡ gives v) ↔ (Clear (shot_lines l) × ((ps : List (List ℕ)) × SidePairs l ps × (length ps ≡ v)))
  border_counts_sides v = (
    λ e. let (c, q) = (border_gives l v).0 e in (c, (pairs, all_pairs ((shots_kept l).0 c), pairs_count ∙ q)),
    λ (c, (ps, a, q)). (border_gives l v).1 (c, sym pairs_count ∙ exactly-length (all_pairs ((shots_kept l).0 c)) a ∙ q),
  )
