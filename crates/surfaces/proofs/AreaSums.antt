-- The double area of a list over an accepted patch is the sum of the sizes of what `orientation` gives for its triples (document 02, E6).
--
--   Triple n t         t is a triple of the first n shots
--   pick-sum           a sum over different triples, as one over all ranks
--   size-volume        the double area of a triple is the size of its volume
--   triple_called      `orientation` gives the volume of a triple of the list
--   area_sum_says      `area_sum_of` is that sum, and no other number is
use Rattle.std.specs.Prelude.{◌≡◌, ℕ, ◌+◌, ◌<◌, Bool, true, false, cond, ◌||◌, ◌↔◌, List, [], ◌∷◌, map, length, ℤ, nat_abs}
use mathlib.Core.Path.{refl, sym, ◌∙◌, ap, subst}
use mathlib.Core.List.Memᴰ
use mathlib.Core.List.{Memᴰ}
use native.Mathlib.Omega.{arith}
use borrow.Author.Tests.{lt-ltb, ltb-true}
use Rattle.algebra.specs.Answer.{gives, Clear, Reflects}
use Rattle.algebra.specs.Loops.{tally, sum_of, any_of, picks}
use Rattle.algebra.specs.Sets.{same_list, Within}
use Rattle.algebra.specs.Words.{member}
use Rattle.algebra.proofs.AnswerLaws.{reflects_yes, reflects_true, reflects_false, reflects_iff, reflects_agree}
use Rattle.algebra.proofs.ListLaws.{Apart, Other, apart_at, apart-map, places_apart}
use Rattle.algebra.proofs.LoopLaws.{and_parts, reflects-any_of, reflects_test, sum-map, sum_same, sum-picks, tally_same, tally-add, tally-zero, tally_single}
use Rattle.algebra.proofs.SetTests.{reflects_same, mem_on, numbers_apart, is_on-picks, picks_within}
use Rattle.matroid.specs.Configurations.{volume}
use Rattle.matroid.proofs.Turns.{turn_is_volume}
use Rattle.shots.specs.Coordinates.{point_of, patch_of, area_of}
use Rattle.shots.specs.Patch.{count_of}
use Rattle.shots.specs.Lines.{shot_lines}
use Rattle.shots.specs.Calls.{orientation_of}
use Rattle.shots.proofs.Promises.{orientation_gives, orientation_clear}
use Rattle.shots.proofs.Orientations.{orientation_agrees}
use Rattle.triples.specs.Ranks.{triple_count, triple_at, rank_of}
use Rattle.triples.proofs.RankLaws.{triple_at_within, triple_shots, rank_of_triple, triple_of_rank}
use Rattle.lists.specs.Lines.{Listed}
use Rattle.lists.proofs.Agreement.{listed_triple, listed_at}
use Rattle.surfaces.specs.Areas.{triple_area_of, area_sum_of, SumOfSizes}

-- ---- lists of distinct triples

abbrev pub Triple : ℕ → List ℕ → Type 0
Triple n t = Within 0 t n × (length t ≡ 3)

module _ (n : ℕ) (f : List ℕ → ℕ) where
  -- the triple t alone
  pick_one : (t : List ℕ) → Triple n t → tally (triple_count n) (λ r. cond (same_list (triple_at n r) t) (f (triple_at n r)) 0) ≡ f t
  pick_one t (w, e) =
      let (l, q) = triple_of_rank n t w e in
      tally_single (λ r. cond (same_list (triple_at n r) t) (f (triple_at n r)) 0) (triple_count n) (rank_of n t) l
      (λ r k ne. ap (λ (b : Bool). cond b (f (triple_at n r)) 0) (reflects_false (reflects_same (triple_at n r) t) (λ u. ne (sym (rank_of_triple n r k) ∙ ap (rank_of n) u))))
      ∙ ap (λ (b : Bool). cond b (f (triple_at n (rank_of n t))) 0) (reflects_true (reflects_same (triple_at n (rank_of n t)) t) q) ∙ ap f q

  pub pick-sum : (ts : List (List ℕ)) → ((t : List ℕ) → Memᴰ t ts → Triple n t) → Apart Other ts → tally (triple_count n) (λ r. cond (any_of (same_list (triple_at n r)) ts) (f (triple_at n r)) 0) ≡ sum_of f ts
  unfolding any_of
  pick-sum [] h p = tally-zero (λ r. cond false (f (triple_at n r)) 0) (triple_count n) (λ i l. refl)
  pick-sum (t ∷ ts) h p =
      tally_same _ _ (triple_count n) (λ r l. parts r (same_list (triple_at n r) t) (any_of (same_list (triple_at n r)) ts) (reflects_same (triple_at n r) t) (found r))
      ∙ tally-add (λ r. cond (same_list (triple_at n r) t) (f (triple_at n r)) 0) (λ r. cond (any_of (same_list (triple_at n r)) ts) (f (triple_at n r)) 0) (triple_count n)
      ∙ (λ k. pick_one t (h t (Memᴰ.head refl)) k + pick-sum ts (λ s m. h s (Memᴰ.tail m)) p.1 k)
    where
      found : (r : ℕ) → Reflects ((s : List ℕ) × Memᴰ s ts × (triple_at n r ≡ s)) (any_of (same_list (triple_at n r)) ts)
      found r = reflects-any_of (λ s. triple_at n r ≡ s) (same_list (triple_at n r)) ts (λ s m. reflects_same (triple_at n r) s)

      -- not both
      parts : (r : ℕ) (a b : Bool) → Reflects (triple_at n r ≡ t) a → Reflects ((s : List ℕ) × Memᴰ s ts × (triple_at n r ≡ s)) b
          → cond (a || b) (f (triple_at n r)) 0 ≡ cond a (f (triple_at n r)) 0 + cond b (f (triple_at n r)) 0
      parts r true true u v = let (s, m, e) = reflects_yes v refl in absurd (p.0 s m (sym (reflects_yes u refl) ∙ e))
      parts r true false u v = omega arith
      parts r false true u v = omega arith
      parts r false false u v = refl

-- ---- what the call gives for a triple

pub size-volume : (l : List ℤ) (t : List ℕ) → length t ≡ 3 → triple_area_of l t ≡ nat_abs (volume (patch_of l) t)
unfolding triple_area_of area_of
size-volume l [] e = absurd (omega arith)
size-volume l (i ∷ []) e = absurd (omega arith)
size-volume l (i ∷ j ∷ []) e = absurd (omega arith)
size-volume l (i ∷ j ∷ k ∷ []) e = ap nat_abs (turn_is_volume (point_of l) i j k)
size-volume l (i ∷ j ∷ k ∷ h ∷ t) e = absurd (omega arith)

-- ---- the sum

module _ (l : List ℤ) (patch : Clear (shot_lines l)) (w : List ℕ) where
  abbrev n : ℕ
  n = count_of l

  triple_called : (t : List ℕ) → Listed (count_of l) w t → (i : ℕ) × (j : ℕ) × (k : ℕ) × (t ≡ i ∷ j ∷ k ∷ []) × (orientation_of l i j k ≡ gives (volume (patch_of l) t))
  triple_called t m = go t m.3 (listed_triple n w t m).1
    where
      go : (s : List ℕ) → triple_at n m.0 ≡ s → length s ≡ 3 → (i : ℕ) × (j : ℕ) × (k : ℕ) × (s ≡ i ∷ j ∷ k ∷ []) × (orientation_of l i j k ≡ gives (volume (patch_of l) s))
      go [] e z = absurd (omega arith)
      go (i ∷ []) e z = absurd (omega arith)
      go (i ∷ j ∷ []) e z = absurd (omega arith)
      go (i ∷ j ∷ k ∷ []) e z = (i, j, k, refl, (orientation_agrees l i j k _).1 ((orientation_clear l i j k).1 (patch, triple_shots n m.0 m.1 (sym e)), refl))
      go (i ∷ j ∷ k ∷ h ∷ s) e z = absurd (omega arith)

  -- the triples of the list, in the order of their ranks
  ranks : List ℕ
  ranks = picks (triple_count n) (member w)

  rank_in : (r : ℕ) → Memᴰ r ranks ↔ ((r < triple_count n) × (member w r ≡ true))
  unfolding ranks
  rank_in r = (
    λ m. let (a, b) = and_parts _ _ (sym (is_on-picks (member w) (triple_count n) r) ∙ (mem_on r ranks).0 m) in (ltb-true r (triple_count n) a, b),
    λ (a, b). (mem_on r ranks).1 (is_on-picks (member w) (triple_count n) r ∙ rw (lt-ltb r (triple_count n) a) b),
  )

  sizes : SumOfSizes l w (area_sum_of l w)
  unfolding ranks area_sum_of
  sizes = record {
    triples = map (triple_at n) ranks;
    each = λ t. (
      λ m. let (r, k, e) = Memᴰ.of_map (triple_at n) ranks m in let (a, b) = (rank_in r).0 k in (r, a, b, e),
      λ (r, a, b, e). subst (λ (s : List ℕ). Memᴰ s (map (triple_at n) ranks)) e (Memᴰ.map (triple_at n) ((rank_in r).1 (a, b))),
    );
    once = λ p q h k. apart_at Other (map (triple_at n) ranks) [] p q
        (apart-map (triple_at n) ranks (numbers_apart ranks 0 (triple_count n) (picks_within (member w) (triple_count n))) (λ r s a b e. sym (rank_of_triple n r ((rank_in r).0 a).0) ∙ ap (rank_of n) e ∙ rank_of_triple n s ((rank_in s).0 b).0)) h k;
    signed = volume (patch_of l);
    called = λ t m. let (r, k, e) = Memᴰ.of_map (triple_at n) ranks m in let (a, b) = (rank_in r).0 k in triple_called t (r, a, b, e);
    total = sym (sum-map (λ t. nat_abs (volume (patch_of l) t)) (triple_at n) ranks
        ∙ sum_same _ _ ranks (λ r m. sym (size-volume l (triple_at n r) (triple_at_within n r ((rank_in r).0 m).0).1))
        ∙ sum-picks (λ r. triple_area_of l (triple_at n r)) (member w) (triple_count n));
  }

  module _ {v : ℕ} (s : SumOfSizes l w v) where
    in_list : (r : ℕ) → r < triple_count n → any_of (same_list (triple_at n r)) s.triples ≡ member w r
    in_list r h = reflects_agree (reflects-any_of (λ t. triple_at n r ≡ t) (same_list (triple_at n r)) s.triples (λ t m. reflects_same (triple_at n r) t)) (reflects_iff (
      λ m. (triple_at n r, (s.each (triple_at n r)).1 ((listed_at n w r h).1 m), refl),
      λ (t, m, e). (listed_at n w r h).0 (subst (Listed n w) (sym e) ((s.each t).0 m)),
    ) (reflects_test (member w r)))

    sizes_one : area_sum_of l w ≡ v
    unfolding area_sum_of triple_area_of
    sizes_one =
        tally_same _ _ (triple_count n) (λ r h. ap (λ (b : Bool). cond b (triple_area_of l (triple_at n r)) 0) (sym (in_list r h)))
        ∙ pick-sum n (triple_area_of l) s.triples (λ t m. listed_triple n w t ((s.each t).0 m)) (places_apart [] s.triples s.once)
        ∙ sum_same _ _ s.triples (λ t m. let (i, j, k, e, o) = s.called t m in ap (triple_area_of l) e ∙ ap nat_abs ((orientation_gives l i j k (s.signed t)).0 o).1)
        ∙ sym s.total

  pub area_sum_says : (v : ℕ) → SumOfSizes l w v ↔ (area_sum_of l w ≡ v)
  area_sum_says v = (λ s. sizes_one s, λ e. subst (SumOfSizes l w) e sizes)
