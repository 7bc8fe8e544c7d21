-- The lists on the way to a placing surface, as sets of triples.
--
--   begin-listed             the list that begins has the triple of the first three shots, and no other
--   VisibleTriple l w m t    t is the triple of m and an edge that is visible from it
--   shot-listed              placing a shot puts in these triples, and no other
--   placed_past              the surface has nothing past the last rank
use Rattle.std.specs.Prelude.{◌≡◌, ℕ, zero, suc, ◌<◌, ◌≤◌, Bool, true, false, cond, ◌||◌, eqb, ◌⊎◌, ◌↔◌, List, [], ◌∷◌, replicate, ℤ}
use mathlib.Core.Path.{refl, sym, ◌∙◌, ap, subst}
use mathlib.Core.Logic.{inl, inr, ⊎_elim}
use mathlib.Core.Bool.{true≢false, false≢true}
use native.Mathlib.Omega.{arith}
use native.Mathlib.Nat.{not-suc-le-zero}
use Rattle.algebra.specs.Answer.{Reflects}
use Rattle.algebra.specs.Loops.{fold}
use Rattle.algebra.specs.Words.{Words, member, put_in}
use Rattle.algebra.proofs.AnswerLaws.{reflects_yes, reflects_true, reflects-or, reflects_eqb}
use Rattle.algebra.proofs.LoopLaws.{last, reflects_test}
use Rattle.algebra.proofs.UnionLaws.{third_last}
use Rattle.algebra.proofs.WordLaws.{member-put}
use Rattle.algebra.proofs.TrioLaws.{trio}
use Rattle.shots.specs.Patch.{count_of}
use Rattle.shots.specs.Tests.{refusal_of}
use Rattle.shots.proofs.Patch.{patch_few}
use Rattle.triples.specs.Sizes.{word_count}
use Rattle.triples.specs.Ranks.{triple_count, triple_at, rank_of}
use Rattle.triples.proofs.RankLaws.{triple_of_rank, rank_room}
use Rattle.triples.proofs.SiftLaws.{none_words, none-member}
use Rattle.lists.specs.Lines.{Listed, PastLast}
use Rattle.surfaces.specs.Placing.{first_off, begin_of, visible, with_edge, with_edges, place_shot, place_next, placed_of}
use Rattle.surfaces.proofs.ByEdges.{first_off_low, visible_apart, corner_ranked}
use Rattle.surfaces.proofs.PlacedWords.{fold_words, with_edge_words, with_edges_words, so_far_words}

-- ---- lists that a loop builds

-- the list t has the members of u, and those of which N holds
abbrev Added : List ℕ → List ℕ → (ℕ → Type 0) → Type 0
Added u t N = (r : ℕ) → (member t r ≡ true) ↔ ((member u r ≡ true) ⊎ N r)

module _ (f : ℕ → List ℕ → List ℕ) (N : ℕ → ℕ → Type 0) where
  -- one turn more
  added_more : (u t : List ℕ) (k : ℕ) → Added u t (λ r. (i : ℕ) × (i < k) × N i r) → Added t (f k t) (N k) → Added u (f k t) (λ r. (i : ℕ) × (i < suc k) × N i r)
  added_more u t k before step r = (λ e. ⊎_elim (λ h. ⊎_elim inl (λ (i, l, q). inr (i, omega arith, q)) ((before r).0 h)) (λ q. inr (k, omega arith, q)) ((step r).0 e), into)
    where
      into : (member u r ≡ true) ⊎ ((i : ℕ) × (i < suc k) × N i r) → member (f k t) r ≡ true
      into (inl e) = (step r).1 (inl ((before r).1 (inl e)))
      into (inr (i, l, q)) = (step r).1 (⊎_elim (λ j. inl ((before r).1 (inr (i, j, q)))) (λ e. inr (subst (λ (j : ℕ). N j r) e q)) (last i k l))

  fold_added : ((i : ℕ) (t : List ℕ) → Words word_count t → Words word_count (f i t)) → (u : List ℕ) → Words word_count u → (k : ℕ)
      → ((i : ℕ) (t : List ℕ) → i < k → Words word_count t → Added t (f i t) (N i)) → Added u (fold f u k) (λ r. (i : ℕ) × (i < k) × N i r)
  unfolding fold
  fold_added kept u v zero h = λ r. (inl, ⊎_elim (λ e. e) (λ (_, l, _). absurd (not-suc-le-zero l)))
  fold_added kept u v (suc k) h = added_more u (fold f u k) k (fold_added kept u v k (λ i t l. h i t (omega arith))) (h k (fold f u k) (omega arith) (fold_words f kept u k v))

abbrev pub VisibleTriple : List ℤ → List ℕ → ℕ → List ℕ → Type 0
VisibleTriple l w m t = (j : ℕ) × (j < count_of l) × ((i : ℕ) × (i < j) × ((visible l w m i j ≡ true) × (trio (count_of l) i j m ≡ t)))

module _ (l : List ℤ) (ok : refusal_of l ≡ 0) where
  abbrev n : ℕ
  n = count_of l

  -- one triple put in
  put_added : (u : List ℕ) (x : ℕ) → Words word_count u → x < triple_count n → Added u (put_in u x) (λ r. r ≡ x)
  put_added u x v low r = (reflects_yes put, reflects_true put)
    where
      put : Reflects ((member u r ≡ true) ⊎ (r ≡ x)) (member (put_in u x) r)
      put = rw (member-put word_count u x r v (rank_room n x (patch_few l ok).1 refl low)) (reflects-or (reflects_test (member u r)) (reflects_eqb r x))

  -- no rank past the last
  abbrev Low : List ℕ → Type 0
  Low w = (r : ℕ) → member w r ≡ true → r < triple_count n

  -- ---- the beginning

  abbrev first_three : List ℕ
  first_three = 0 ∷ 1 ∷ first_off l ∷ []

  begin_ranked : (rank_of n first_three < triple_count n) × (triple_at n (rank_of n first_three) ≡ first_three)
  begin_ranked = let (a, b) = first_off_low l ok in triple_of_rank n first_three (omega arith, omega arith, (omega arith, omega arith, (omega arith, b, tt))) refl

  begin-member : (r : ℕ) → (member (begin_of l) r ≡ true) ↔ (r ≡ rank_of n first_three)
  unfolding begin_of
  begin-member r =
      let (out, into) = put_added (replicate word_count 0) (rank_of n first_three) (none_words word_count) begin_ranked.0 r in
      (λ e. ⊎_elim (λ h. absurd (false≢true (sym (none-member word_count r) ∙ h))) (λ q. q) (out e), λ q. into (inr q))

  pub begin-listed : (t : List ℕ) → Listed n (begin_of l) t ↔ (trio n 0 1 (first_off l) ≡ t)
  begin-listed t = (
    λ (r, _, h, is). first_trio ∙ sym begin_ranked.1 ∙ ap (triple_at n) (sym ((begin-member r).0 h)) ∙ is,
    λ e. (rank_of n first_three, begin_ranked.0, (begin-member _).1 refl, begin_ranked.1 ∙ sym first_trio ∙ e),
  )
    where
      first_trio : trio n 0 1 (first_off l) ≡ first_three
      first_trio = let (a, b) = first_off_low l ok in third_last n 0 1 (first_off l) (omega arith) a b

  -- ---- one shot

  module _ (w : List ℕ) (v : Words word_count w) (m : ℕ) (mn : m < n) where
    -- r is the rank of m with a visible edge
    abbrev Put : ℕ → ℕ → ℕ → Type 0
    Put j i r = (visible l w m i j ≡ true) × (r ≡ rank_of n (trio n i j m))

    put_ranked : (i j : ℕ) → i < j → j < n → visible l w m i j ≡ true → (rank_of n (trio n i j m) < triple_count n) × (triple_at n (rank_of n (trio n i j m)) ≡ trio n i j m)
    put_ranked i j ij jn e = let (mi, mj) = visible_apart l w m i j e in corner_ranked n i j m ij jn mn mi mj

    edge_added : (j : ℕ) → j < n → (i : ℕ) (u : List ℕ) → i < j → Words word_count u → Added u (with_edge l w m j i u) (Put j i)
    unfolding with_edge
    edge_added j jn i u ij t = go (visible l w m i j) refl
      where
        go : (b : Bool) → visible l w m i j ≡ b → Added u (cond b (put_in u (rank_of n (trio n i j m))) u) (Put j i)
        go true e r = let (out, into) = put_added u (rank_of n (trio n i j m)) t (put_ranked i j ij jn e).0 r in (λ h. ⊎_elim inl (λ q. inr (e, q)) (out h), λ h. into (⊎_elim inl (λ q. inr q.1) h))
        go false e r = (inl, ⊎_elim (λ h. h) (λ q. absurd (true≢false (sym q.0 ∙ e))))

    shot_added : Added w (place_shot l w m) (λ r. (j : ℕ) × (j < n) × ((i : ℕ) × (i < j) × Put j i r))
    unfolding place_shot with_edges
    shot_added = fold_added (with_edges l w m) (λ j r. (i : ℕ) × (i < j) × Put j i r) (with_edges_words l w m) w v n
        (λ j u jn t. fold_added (with_edge l w m j) (Put j) (with_edge_words l w m j) u t j (edge_added j jn))

    pub shot-listed : (t : List ℕ) → Listed n (place_shot l w m) t ↔ (Listed n w t ⊎ VisibleTriple l w m t)
    shot-listed t = (out, into)
      where
        out : Listed n (place_shot l w m) t → Listed n w t ⊎ VisibleTriple l w m t
        out (r, low, h, is) = ⊎_elim (λ e. inl (r, low, e, is))
            (λ (j, jn, (i, ij, (s, q))). inr (j, jn, (i, ij, (s, sym (put_ranked i j ij jn s).1 ∙ ap (triple_at n) (sym q) ∙ is)))) ((shot_added r).0 h)

        into : Listed n w t ⊎ VisibleTriple l w m t → Listed n (place_shot l w m) t
        into (inl (r, low, h, is)) = (r, low, (shot_added r).1 (inl h), is)
        into (inr (j, jn, (i, ij, (s, q)))) = let (low, is) = put_ranked i j ij jn s in (rank_of n (trio n i j m), low, (shot_added _).1 (inr (j, jn, (i, ij, (s, refl)))), is ∙ q)

    next_low : Low w → Low (place_next l m w)
    unfolding place_next
    next_low h r = go (eqb m 0 || (eqb m 1 || eqb m (first_off l)))
      where
        go : (b : Bool) → member (cond b w (place_shot l w m)) r ≡ true → r < triple_count n
        go true e = h r e
        go false e = ⊎_elim (h r) (λ (j, jn, (i, ij, (s, q))). subst (λ (x : ℕ). x < triple_count n) (sym q) (put_ranked i j ij jn s).0) ((shot_added r).0 e)

  -- ---- every shot

  so_far_low : (m : ℕ) → m ≤ n → Low (fold (place_next l) (begin_of l) m)
  unfolding fold
  so_far_low zero h = λ r e. subst (λ (x : ℕ). x < triple_count n) (sym ((begin-member r).0 e)) begin_ranked.0
  so_far_low (suc m) h = next_low (fold (place_next l) (begin_of l) m) (so_far_words l m) m (omega arith) (so_far_low m (omega arith))

  pub placed_past : PastLast l (placed_of l) → ⊥
  unfolding placed_of
  placed_past (r, _, h, e) = let low = so_far_low n (omega arith) r e in omega arith
