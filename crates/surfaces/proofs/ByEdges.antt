-- How the code places a shot, by sets of triples in words: its sets and tests are those of specs/Placing. Shots i and j are an edge with i < j,
-- n is the number of shots, at most `shots_most`.
--
--   corner_ranked                       the triple of i, j and m has a rank
--   corner-rank                         the only triple that holds i, j and m is the one of them
--   corner-put                          a list joined with the triples that hold i, j and m has that triple put in
--   signs_fit, signs-opposed            the code's test of two signs is `opposed`
--   first_off_low                       the third of the first three shots comes after 0 and 1
--   begin_corner                        the triples that hold these three are the list that begins
--   LoneAcross l w m i j v              v is the only third shot of i and j, and m lies across the edge from it; `visible_lone`: `visible` decides that there is one
--   visible_apart                       no shot sees an edge of its own
--   third_decided                       `third_in` decides that three shots are a triple of the list
--   by_sees                             the code's test of an edge is `visible`
--   with_edge_yes, with_edge_no         a list with the triple of a visible edge, and without
use Rattle.std.specs.Prelude.{◌≡◌, ℕ, zero, suc, ◌*◌, ◌<◌, ◌≤◌, Bool, true, false, not, ◌&&◌, ◌||◌, eqb, ◌⊎◌, List, [], ◌∷◌, length, replicate, ℤ, pos, ◌*ℤ◌}
use mathlib.Core.Path.{refl, sym, ◌∙◌, ap, subst}
use mathlib.Core.Logic.{inl, inr, ⊎_elim}
use mathlib.Core.Bool.{true≢false, false≢true}
use native.Mathlib.Omega.{arith}
use native.Mathlib.Decide.{dec_lt}
use borrow.Author.Tests.{eqb-true, eq-eqb}
use lib.Signed.{lt_z}
use mir.Syntax.{w8}
use mir.Val.{SFits, to_z, of_z}
use Rattle.algebra.specs.Answer.{Reflects}
use Rattle.algebra.specs.Loops.{any, first}
use Rattle.algebra.specs.Sets.{is_on, On, Within}
use Rattle.algebra.specs.Sign.{Sign, minus, nought, plus, opposite, value, is_nought, same_sign}
use Rattle.algebra.specs.Words.{word_bits, Words, member, put_in, both_of, either_of, meets_of, alone_of}
use Rattle.algebra.proofs.SignLaws.{zero-sign_of}
use Rattle.algebra.proofs.AnswerLaws.{reflects_yes, reflects_true, reflects_agree, reflects_iff, reflects-not, reflects-and, reflects_eqb}
use Rattle.algebra.proofs.LoopLaws.{and_parts, any_some, any_no, reflects-any, reflects_test, reflects_alone, first_passes, first_least}
use Rattle.algebra.proofs.SetTests.{reflects_on, union_within, on_low, subset-length, subset_same}
use Rattle.algebra.proofs.UnionLaws.{on_one, on_pair, union_apart, union_meets, third_last}
use Rattle.algebra.proofs.WordLaws.{words_same, sift_words, put_words, member-put, both_words, either_words, both-member, member_either, meets_reflects, alone_reflects}
use Rattle.algebra.proofs.TrioLaws.{Among, trio, on_trio, trio_holds}
use Rattle.matroid.specs.Points.{Collinear, turn}
use Rattle.matroid.proofs.Lines.{line_through}
use Rattle.shots.specs.Sizes.{shots_most}
use Rattle.shots.specs.Coordinates.{point_of, area_of}
use Rattle.shots.specs.Patch.{count_of, orient_of}
use Rattle.shots.specs.Tests.{refusal_of}
use Rattle.shots.proofs.Patch.{patch_few, patch_differ, patch_bent}
use Rattle.shots.proofs.Orientations.{orient_repeated}
use Rattle.triples.specs.Sizes.{word_count}
use Rattle.triples.specs.Ranks.{triple_count, triple_at, rank_of}
use Rattle.lists.specs.Lines.{Listed}
use Rattle.triples.specs.Sets.{holders_of}
use Rattle.triples.proofs.RankLaws.{triple_at_within, rank_of_triple, triple_of_rank}
use Rattle.triples.proofs.SiftLaws.{none_words, none-member}
use Rattle.lists.proofs.ByWords.{room, on_ranked, member_holders}
use Rattle.surfaces.specs.Placing.{first_off, begin_of, third_in, lone_third, opposed, visible, with_edge}
use Rattle.lists.proofs.Agreement.{listed_decided}

-- ---- the triple of three shots

pair_within : (n i j : ℕ) → i < j → j < n → Within 0 (i ∷ j ∷ []) n
pair_within n i j ij jn = (omega arith, omega arith, (omega arith, jn, tt))

one_within : (n v : ℕ) → v < n → Within 0 (v ∷ []) n
one_within n v vn = (omega arith, vn, tt)

corner_size : (n i j v : ℕ) → i < j → j < n → v < n → (v ≡ i → ⊥) → (v ≡ j → ⊥) → length (trio n i j v) ≡ 3
corner_size n i j v ij jn vn vi vj =
    union_apart n (i ∷ j ∷ []) (v ∷ []) (pair_within n i j ij jn) (one_within n v vn) (λ k o p. apart (reflects_yes (on_one v k) p) (reflects_yes (on_pair i j k) o))
  where
    apart : {k : ℕ} → k ≡ v → (k ≡ i) ⊎ (k ≡ j) → ⊥
    apart e (inl q) = vi (sym e ∙ q)
    apart e (inr q) = vj (sym e ∙ q)

module _ (n i j m : ℕ) (ij : i < j) (jn : j < n) (mn : m < n) (mi : m ≡ i → ⊥) (mj : m ≡ j → ⊥) where
  pub corner_ranked : (rank_of n (trio n i j m) < triple_count n) × (triple_at n (rank_of n (trio n i j m)) ≡ trio n i j m)
  corner_ranked = triple_of_rank n (trio n i j m) (union_within n (i ∷ j ∷ []) (m ∷ [])) (corner_size n i j m ij jn mn mi mj)

  corner-rank : (r : ℕ) → (is_on i (triple_at n r) && is_on j (triple_at n r) && is_on m (triple_at n r)) ≡ eqb r (rank_of n (trio n i j m))
  corner-rank r =
      reflects_agree
      (reflects_iff (into, out) (reflects-and (reflects-and (reflects_on i (triple_at n r)) (reflects_on j (triple_at n r))) (reflects_on m (triple_at n r))))
      (reflects_eqb r (rank_of n (trio n i j m)))
    where
      into : (On (triple_at n r) i × On (triple_at n r) j) × On (triple_at n r) m → r ≡ rank_of n (trio n i j m)
      into h =
          let l = on_ranked n r m h.1 in
          let w = triple_at_within n r l in
          sym (rank_of_triple n r l)
          ∙ ap (rank_of n)
          (sym (subset_same (trio n i j m) (triple_at n r) n (union_within n (i ∷ j ∷ []) (m ∷ [])) w.0 (λ k o. inside k (reflects_yes (on_trio n i j m k) o).1)
          (corner_size n i j m ij jn mn mi mj ∙ sym w.1)))
        where
          inside : (k : ℕ) → Among i j m k → On (triple_at n r) k
          inside k (inl e) = subst (On (triple_at n r)) (sym e) h.0.0
          inside k (inr (inl e)) = subst (On (triple_at n r)) (sym e) h.0.1
          inside k (inr (inr e)) = subst (On (triple_at n r)) (sym e) h.1

      out : r ≡ rank_of n (trio n i j m) → (On (triple_at n r) i × On (triple_at n r) j) × On (triple_at n r) m
      out e =
          subst (λ (t : List ℕ). (On t i × On t j) × On t m) (sym (ap (triple_at n) e ∙ corner_ranked.1))
          ((reflects_true (on_trio n i j m i) (omega arith, inl refl), reflects_true (on_trio n i j m j) (jn, inr (inl refl))), reflects_true (on_trio n i j m m) (mn, inr (inr refl)))

-- ---- the sets of the code

holders_words : (n k : ℕ) → Words word_count (holders_of n k)
unfolding holders_of
holders_words n k = sift_words word_count (λ r. is_on k (triple_at n r))

-- the triples that hold two shots, three shots
abbrev edge_set : ℕ → ℕ → ℕ → List ℕ
edge_set n i j = both_of (holders_of n i) (holders_of n j)

abbrev corner_set : ℕ → ℕ → ℕ → ℕ → List ℕ
corner_set n i j m = both_of (edge_set n i j) (holders_of n m)

edge_words : (n i j : ℕ) → Words word_count (edge_set n i j)
edge_words n i j = both_words word_count (holders_of n i) (holders_of n j) (holders_words n i)

member-edge : (n i j r : ℕ) → r < word_bits * word_count → member (edge_set n i j) r ≡ (is_on i (triple_at n r) && is_on j (triple_at n r))
member-edge n i j r h = both-member word_count (holders_of n i) (holders_of n j) (holders_words n i) r ∙ (λ t. member_holders n i r h t && member_holders n j r h t)

module _ (n i j m : ℕ) (few : n ≤ shots_most) (ij : i < j) (jn : j < n) (mn : m < n) (mi : m ≡ i → ⊥) (mj : m ≡ j → ⊥) where
  corner_low : rank_of n (trio n i j m) < word_bits * word_count
  corner_low = let h = (corner_ranked n i j m ij jn mn mi mj).0 in let k = room n few in omega arith

  member_corner : (r : ℕ) → r < word_bits * word_count → member (corner_set n i j m) r ≡ eqb r (rank_of n (trio n i j m))
  member_corner r h =
      both-member word_count (edge_set n i j) (holders_of n m) (edge_words n i j) r ∙ (λ t. member-edge n i j r h t && member_holders n m r h t) ∙ corner-rank n i j m ij jn mn mi mj r

  corner-put : (u : List ℕ) → Words word_count u → either_of u (both_of (both_of (holders_of n i) (holders_of n j)) (holders_of n m)) ≡ put_in u (rank_of n (trio n i j m))
  corner-put u v =
      words_same word_count (either_of u (corner_set n i j m)) (put_in u (rank_of n (trio n i j m)))
      (either_words word_count u (corner_set n i j m) v) (put_words word_count u (rank_of n (trio n i j m)) v)
      (λ r h. member_either u (corner_set n i j m) r (let e = v.0 in omega arith) ∙ ap (λ (b : Bool). member u r || b) (member_corner r h)
      ∙ sym (member-put word_count u (rank_of n (trio n i j m)) r v corner_low))

-- the set with nothing in it
either_none : (v : List ℕ) → Words word_count v → either_of (replicate word_count 0) v ≡ v
either_none v p =
    words_same word_count (either_of (replicate word_count 0) v) v (either_words word_count (replicate word_count 0) v (none_words word_count)) p
    (λ r h. member_either (replicate word_count 0) v r h ∙ ap (λ (b : Bool). b || member v r) (none-member word_count r))

-- ---- signs

opposed-nought : (s t : Sign) → (s ≡ nought) ⊎ (t ≡ nought) → opposed s t ≡ false
unfolding opposite
opposed-nought s t (inl e) = ap (λ (x : Sign). opposed x t) e
opposed-nought s t (inr e) = ap (opposed s) e ∙ none s
  where
    none : (x : Sign) → (not (is_nought x) && same_sign x nought) ≡ false
    none minus = refl
    none nought = refl
    none plus = refl

opposed-signed : (s t : Sign) → opposed s t ≡ true → (s ≡ nought → ⊥) × (t ≡ nought → ⊥)
opposed-signed s t h = (λ e. false≢true (sym (opposed-nought s t (inl e)) ∙ h), λ e. false≢true (sym (opposed-nought s t (inr e)) ∙ h))

-- the code's test of two signs as -1, 0 or 1: their product is below 0
product_fits : (s t : Sign) → SFits w8 (to_z w8 (of_z w8 (value s)) *ℤ to_z w8 (of_z w8 (value t)))
unfolding value
product_fits minus minus = record { sfits = omega arith }
product_fits minus nought = record { sfits = omega arith }
product_fits minus plus = record { sfits = omega arith }
product_fits nought minus = record { sfits = omega arith }
product_fits nought nought = record { sfits = omega arith }
product_fits nought plus = record { sfits = omega arith }
product_fits plus minus = record { sfits = omega arith }
product_fits plus nought = record { sfits = omega arith }
product_fits plus plus = record { sfits = omega arith }

product-opposed : (s t : Sign) → lt_z (to_z w8 (of_z w8 (to_z w8 (of_z w8 (value s)) *ℤ to_z w8 (of_z w8 (value t))))) (pos 0) ≡ opposed s t
unfolding value opposite
product-opposed minus minus = refl
product-opposed minus nought = refl
product-opposed minus plus = refl
product-opposed nought minus = refl
product-opposed nought nought = refl
product-opposed nought plus = refl
product-opposed plus minus = refl
product-opposed plus nought = refl
product-opposed plus plus = refl

module _ {x y : ℤ} (s t : Sign) (e : x ≡ value s) (f : y ≡ value t) where
  pub signs_fit : SFits w8 (to_z w8 (of_z w8 x) *ℤ to_z w8 (of_z w8 y))
  signs_fit = rw (e, f) (product_fits s t)

  pub signs-opposed : lt_z (to_z w8 (of_z w8 (to_z w8 (of_z w8 x) *ℤ to_z w8 (of_z w8 y)))) (pos 0) ≡ opposed s t
  signs-opposed = rw (e, f) (product-opposed s t)

-- ---- the first three shots

module _ (l : List ℤ) (ok : refusal_of l ≡ 0) where
  -- all on the line of the first two
  one_line : ((k : ℕ) → k < count_of l → orient_of l 0 1 k ≡ nought) → Collinear (count_of l) (point_of l)
  unfolding orient_of area_of
  one_line h = line_through (count_of l) (point_of l) (point_of l 0) (point_of l 1) differ (λ i u. zero-sign_of (turn (point_of l 0) (point_of l 1) (point_of l i)) (h i u))
    where
      differ : point_of l 1 ≡ point_of l 0 → ⊥
      differ = let few = (patch_few l ok).0 in patch_differ l ok 1 0 (omega arith) (omega arith) (λ e. omega arith)

  pub first_off_low : (1 < first_off l) × (first_off l < count_of l)
  unfolding first_off
  first_off_low = (high (first (count_of l) off) refl, below)
    where
      off : ℕ → Bool
      off k = not (is_nought (orient_of l 0 1 k))

      below : first (count_of l) off < count_of l
      below = go (dec_lt (first (count_of l) off) (count_of l))
        where
          flat : (s : Sign) → not (is_nought s) ≡ false → s ≡ nought
          flat minus e = absurd (true≢false e)
          flat nought e = refl
          flat plus e = absurd (true≢false e)

          go : Dec (first (count_of l) off < count_of l) → first (count_of l) off < count_of l
          go (yes h) = h
          go (no h) = absurd (patch_bent l ok (one_line (λ k u. flat (orient_of l 0 1 k) (first_least off (count_of l) k (omega arith)))))

      high : (k : ℕ) → first (count_of l) off ≡ k → 1 < first (count_of l) off
      high zero e = absurd (true≢false (sym (first_passes off (count_of l) below) ∙ ap off e ∙ ap (λ (s : Sign). not (is_nought s)) (orient_repeated l 0 1 0 (inr (inr refl)))))
      high (suc zero) e = absurd (true≢false (sym (first_passes off (count_of l) below) ∙ ap off e ∙ ap (λ (s : Sign). not (is_nought s)) (orient_repeated l 0 1 1 (inr (inl refl)))))
      high (suc (suc k)) e = omega arith

  pub begin_corner : both_of (both_of (holders_of (count_of l) 0) (holders_of (count_of l) 1)) (holders_of (count_of l) (first_off l)) ≡ begin_of l
  unfolding begin_of
  begin_corner =
      let k = first_off_low in
      let few = patch_few l ok in
      sym (either_none (corner_set (count_of l) 0 1 (first_off l)) (both_words word_count (edge_set (count_of l) 0 1) (holders_of (count_of l) (first_off l)) (edge_words (count_of l) 0 1)))
      ∙ corner-put (count_of l) 0 1 (first_off l) few.1 (omega arith) (omega arith) k.1 (λ e. omega arith) (λ e. omega arith) (replicate word_count 0) (none_words word_count)
      ∙ ap (λ (s : List ℕ). put_in (replicate word_count 0) (rank_of (count_of l) s)) (third_last (count_of l) 0 1 (first_off l) (omega arith) k.0 k.1)

-- ---- what a shot sees

signed_apart : (l : List ℤ) (i j v : ℕ) → (orient_of l i j v ≡ nought → ⊥) → (v ≡ i → ⊥) × (v ≡ j → ⊥)
signed_apart l i j v h = (λ e. h (orient_repeated l i j v (inr (inr (sym e)))), λ e. h (orient_repeated l i j v (inr (inl (sym e)))))

module _ (l : List ℤ) (w : List ℕ) (m i j : ℕ) where
  abbrev pub LoneAcross : ℕ → Type 0
  LoneAcross v = ((third_in (count_of l) w i j v ≡ true) × ((u : ℕ) → u < count_of l → third_in (count_of l) w i j u ≡ true → u ≡ v)) × (opposed (orient_of l i j v) (orient_of l i j m) ≡ true)

  pub visible_lone : Reflects ((v : ℕ) × (v < count_of l) × LoneAcross v) (visible l w m i j)
  unfolding visible lone_third
  visible_lone = reflects-any LoneAcross (λ v. lone_third (count_of l) w i j v && opposed (orient_of l i j v) (orient_of l i j m)) (count_of l)
      (λ v _. reflects-and (reflects-and (reflects_test (third_in (count_of l) w i j v)) (reflects_alone (third_in (count_of l) w i j) (count_of l) v)) (reflects_test (opposed (orient_of l i j v) (orient_of l i j m))))

  pub visible_apart : visible l w m i j ≡ true → (m ≡ i → ⊥) × (m ≡ j → ⊥)
  visible_apart h = let (v, _, (_, o)) = reflects_yes visible_lone h in signed_apart l i j m (opposed-signed (orient_of l i j v) (orient_of l i j m) o).1

pub third_decided : (n : ℕ) (w : List ℕ) (i j v : ℕ) → Reflects (Listed n w (trio n i j v)) (third_in n w i j v)
unfolding third_in
third_decided n w i j v = listed_decided n w (trio n i j v)

-- the triples of a list that hold an edge
abbrev star : ℕ → ℕ → ℕ → List ℕ → List ℕ
star n i j w = both_of (edge_set n i j) w

-- the third shots of an edge
module _ (n i j : ℕ) (w : List ℕ) (ij : i < j) (jn : j < n) where
  third-in : (v : ℕ) → v < n → (v ≡ i → ⊥) × (v ≡ j → ⊥) → member w (rank_of n (trio n i j v)) ≡ true → third_in n w i j v ≡ true
  third-in v vn ne h = let q = corner_ranked n i j v ij jn vn ne.0 ne.1 in reflects_true (third_decided n w i j v) (rank_of n (trio n i j v), q.0, h, q.1)

  third_out : (v : ℕ) → v < n → third_in n w i j v ≡ true → ((v ≡ i → ⊥) × (v ≡ j → ⊥)) × (member w (rank_of n (trio n i j v)) ≡ true)
  third_out v vn h = ((λ e. off (inl e), λ e. off (inr e)), ap (member w) (ap (rank_of n) (sym q.3) ∙ rank_of_triple n q.0 q.1) ∙ q.2)
    where
      q : Listed n w (trio n i j v)
      q = reflects_yes (third_decided n w i j v) h

      -- the shots of the edge with one of them again are no triple
      off : (v ≡ i) ⊎ (v ≡ j) → ⊥
      off e =
          let short = union_meets n (i ∷ j ∷ []) (v ∷ []) (pair_within n i j ij jn) (one_within n v vn) v (reflects_true (on_pair i j v) e) (reflects_true (on_one v v) refl) in
          let long = ap length (sym q.3) ∙ (triple_at_within n q.0 q.1).1 in
          omega arith

  -- two third shots with one triple
  third_one : (u v : ℕ) → u < n → v < n → (u ≡ i → ⊥) × (u ≡ j → ⊥) → (v ≡ i → ⊥) × (v ≡ j → ⊥) → rank_of n (trio n i j u) ≡ rank_of n (trio n i j v) → u ≡ v
  third_one u v un vn nu nv e = ⊎_elim (λ q. absurd (nu.0 q)) (⊎_elim (λ q. absurd (nu.1 q)) (λ q. q)) (trio_holds n i j u i j v (omega arith) jn un same).2
    where
      same : trio n i j u ≡ trio n i j v
      same = sym (corner_ranked n i j u ij jn un nu.0 nu.1).1 ∙ ap (triple_at n) e ∙ (corner_ranked n i j v ij jn vn nv.0 nv.1).1

  -- a triple has a shot that is not of the edge
  has_third : (r : ℕ) → r < triple_count n → (u : ℕ) × (u < n) × ((u ≡ i → ⊥) × (u ≡ j → ⊥)) × On (triple_at n r) u
  has_third r l = go (any n other) refl
    where
      other : ℕ → Bool
      other u = not (is_on u (i ∷ j ∷ [])) && is_on u (triple_at n r)

      here : Within 0 (triple_at n r) n × (length (triple_at n r) ≡ 3)
      here = triple_at_within n r l

      go : (b : Bool) → any n other ≡ b → (u : ℕ) × (u < n) × ((u ≡ i → ⊥) × (u ≡ j → ⊥)) × On (triple_at n r) u
      go true e =
          let q = any_some other n e in
          let p = and_parts (not (is_on q.0 (i ∷ j ∷ []))) (is_on q.0 (triple_at n r)) q.2 in
          let f = reflects_yes (reflects-not (on_pair i j q.0)) p.0 in
          (q.0, q.1, (λ z. f (inl z), λ z. f (inr z)), p.1)
      go false e = absurd (clash (subset-length (triple_at n r) (i ∷ j ∷ []) n here.0 (pair_within n i j ij jn) (λ k o. inside k o (is_on k (i ∷ j ∷ [])) refl)))
        where
          clash : length (triple_at n r) ≤ 2 → ⊥
          clash h = let e = here.1 in omega arith

          inside : (k : ℕ) → On (triple_at n r) k → (b : Bool) → is_on k (i ∷ j ∷ []) ≡ b → b ≡ true
          inside k o true q = refl
          inside k o false q = absurd (true≢false (sym (λ t. not (q t) && o t) ∙ any_no other n k e (on_low (triple_at n r) 0 n k here.0 o).1))

  member_star : (r : ℕ) → r < word_bits * word_count → member (star n i j w) r ≡ (is_on i (triple_at n r) && is_on j (triple_at n r) && member w r)
  member_star r h = both-member word_count (edge_set n i j) w (edge_words n i j) r ∙ ap (λ (b : Bool). b && member w r) (member-edge n i j r h)

  star_out : (r : ℕ) → r < word_bits * word_count → member (star n i j w) r ≡ true → (On (triple_at n r) i × On (triple_at n r) j) × (member w r ≡ true)
  star_out r h e =
      let a = and_parts (is_on i (triple_at n r) && is_on j (triple_at n r)) (member w r) (sym (member_star r h) ∙ e) in
      (and_parts (is_on i (triple_at n r)) (is_on j (triple_at n r)) a.0, a.1)

  -- a member of the star with a third shot
  star_third : (r u : ℕ) → r < word_bits * word_count → member (star n i j w) r ≡ true → u < n → (u ≡ i → ⊥) × (u ≡ j → ⊥) → On (triple_at n r) u
      → (third_in n w i j u ≡ true) × (r ≡ rank_of n (trio n i j u))
  star_third r u h e un ne o = (third-in u un ne (ap (member w) (sym is) ∙ a.1), is)
    where
      a : (On (triple_at n r) i × On (triple_at n r) j) × (member w r ≡ true)
      a = star_out r h e

      is : r ≡ rank_of n (trio n i j u)
      is = eqb-true r (rank_of n (trio n i j u)) (sym (corner-rank n i j u ij jn un ne.0 ne.1 r) ∙ (λ t. a.0.0 t && a.0.1 t && o t))

  -- the triple of a third shot
  third_star : (v : ℕ) → n ≤ shots_most → v < n → third_in n w i j v ≡ true
      → (rank_of n (trio n i j v) < word_bits * word_count) × (member (star n i j w) (rank_of n (trio n i j v)) ≡ true) × On (triple_at n (rank_of n (trio n i j v))) v
  third_star v few vn h = (low, member_star (rank_of n (trio n i j v)) low ∙ (λ t. all.0 t && (third_out v vn h).1 t), all.1)
    where
      ne : (v ≡ i → ⊥) × (v ≡ j → ⊥)
      ne = (third_out v vn h).0

      low : rank_of n (trio n i j v) < word_bits * word_count
      low = corner_low n i j v few ij jn vn ne.0 ne.1

      all : ((is_on i (triple_at n (rank_of n (trio n i j v))) && is_on j (triple_at n (rank_of n (trio n i j v)))) ≡ true) × On (triple_at n (rank_of n (trio n i j v))) v
      all = and_parts (is_on i (triple_at n (rank_of n (trio n i j v))) && is_on j (triple_at n (rank_of n (trio n i j v)))) (is_on v (triple_at n (rank_of n (trio n i j v))))
          (corner-rank n i j v ij jn vn ne.0 ne.1 (rank_of n (trio n i j v)) ∙ eq-eqb (rank_of n (trio n i j v)) (rank_of n (trio n i j v)) refl)

module _ (l : List ℤ) (w : List ℕ) (m i j : ℕ) (few : count_of l ≤ shots_most) (ij : i < j) (jn : j < count_of l) where
  abbrev n : ℕ
  n = count_of l

  abbrev across : ℕ → Bool
  across v = opposed (orient_of l i j v) (orient_of l i j m)

  abbrev edge_star : List ℕ
  edge_star = star n i j w

  -- the one triple of the star
  abbrev Alone : Type 0
  Alone = (r : ℕ) × (r < word_bits * length edge_star) × (member edge_star r ≡ true) × ((s : ℕ) → s < word_bits * length edge_star → member edge_star s ≡ true → s ≡ r)

  abbrev Meets : ℕ → Type 0
  Meets v = (r : ℕ) × (r < word_bits * length edge_star) × (member edge_star r ≡ true) × (member (holders_of n v) r ≡ true)

  star_low : (r : ℕ) → r < word_bits * length edge_star → r < word_bits * word_count
  star_low r h = let e = (both_words word_count (edge_set n i j) w (edge_words n i j)).0 in omega arith

  low_star : (r : ℕ) → r < word_bits * word_count → r < word_bits * length edge_star
  low_star r h = let e = (both_words word_count (edge_set n i j) w (edge_words n i j)).0 in omega arith

  pub by_sees : (alone_of (both_of (both_of (holders_of (count_of l) i) (holders_of (count_of l) j)) w)
      && any (count_of l) (λ v. meets_of (both_of (both_of (holders_of (count_of l) i) (holders_of (count_of l) j)) w) (holders_of (count_of l) v) && opposed (orient_of l i j v) (orient_of l i j m)))
      ≡ visible l w m i j
  by_sees =
      reflects_agree
      (reflects_iff (into, out)
      (reflects-and (alone_reflects edge_star)
      (reflects-any (λ v. Meets v × (across v ≡ true)) (λ v. meets_of edge_star (holders_of n v) && across v) n
      (λ v h. reflects-and (meets_reflects edge_star (holders_of n v)) (reflects_test (across v))))))
      (visible_lone l w m i j)
    where
      into : Alone × ((v : ℕ) × (v < n) × (Meets v × (across v ≡ true))) → (v : ℕ) × (v < n) × LoneAcross l w m i j v
      into h = (v, vn, ((is.0, lone), q.2.1))
        where
          a : Alone
          a = h.0

          q : (v : ℕ) × (v < n) × (Meets v × (across v ≡ true))
          q = h.1

          v : ℕ
          v = q.0

          vn : v < n
          vn = q.1

          r : ℕ
          r = q.2.0.0

          ne : (v ≡ i → ⊥) × (v ≡ j → ⊥)
          ne = signed_apart l i j v (opposed-signed (orient_of l i j v) (orient_of l i j m) q.2.1).0

          rl : r < word_bits * word_count
          rl = star_low r q.2.0.1

          is : (third_in n w i j v ≡ true) × (r ≡ rank_of n (trio n i j v))
          is = star_third n i j w ij jn r v rl q.2.0.2 vn ne (sym (member_holders n v r rl) ∙ q.2.0.3)

          lone : (u : ℕ) → u < n → third_in n w i j u ≡ true → u ≡ v
          lone u un e =
              let t = third_star n i j w ij jn u few un e in
              third_one n i j w ij jn u v un vn (third_out n i j w ij jn u un e).0 ne
              (a.3 (rank_of n (trio n i j u)) (low_star (rank_of n (trio n i j u)) t.0) t.1 ∙ sym (a.3 r q.2.0.1 q.2.0.2) ∙ is.1)

      out : (v : ℕ) × (v < n) × LoneAcross l w m i j v → Alone × ((v : ℕ) × (v < n) × (Meets v × (across v ≡ true)))
      out h = ((r, low_star r t.0, t.1, λ s sl e. only s (star_low s sl) e), (v, vn, ((r, low_star r t.0, t.1, member_holders n v r t.0 ∙ t.2), h.2.1)))
        where
          v : ℕ
          v = h.0

          vn : v < n
          vn = h.1

          r : ℕ
          r = rank_of n (trio n i j v)

          t : (r < word_bits * word_count) × (member edge_star r ≡ true) × On (triple_at n r) v
          t = third_star n i j w ij jn v few vn h.2.0.0

          only : (s : ℕ) → s < word_bits * word_count → member edge_star s ≡ true → s ≡ r
          only s sl e =
              let (u, un, ne, o) = has_third n i j w ij jn s (on_ranked n s i (star_out n i j w ij jn s sl e).0.0) in
              let (third, is) = star_third n i j w ij jn s u sl e un ne o in
              is ∙ ap (λ (k : ℕ). rank_of n (trio n i j k)) (h.2.0.1 u un third)

  pub with_edge_yes : (u : List ℕ) → m < count_of l → Words word_count u → visible l w m i j ≡ true
      → either_of u (both_of (both_of (holders_of (count_of l) i) (holders_of (count_of l) j)) (holders_of (count_of l) m)) ≡ with_edge l w m j i u
  unfolding with_edge
  with_edge_yes u mn v e = let ne = visible_apart l w m i j e in corner-put n i j m few ij jn mn ne.0 ne.1 u v ∙ rw e refl

pub with_edge_no : (l : List ℤ) (w : List ℕ) (m i j : ℕ) (u : List ℕ) → visible l w m i j ≡ false → u ≡ with_edge l w m j i u
unfolding with_edge
with_edge_no l w m i j u e = rw e refl
