-- A flip keeps the total double area: what it takes out and what it puts in are cones over the pieces of the two sides of the circuit, with the same sets, and
-- proofs/Balance compares them cone by cone.
--
--   flip_keeps_area        the list that a flip gives has the total double area of the list that was flipped
--
-- Source: document 01, "Flips", "The square with its centre".
use Rattle.std.specs.Prelude.{◌≡◌, ℕ, ◌+◌, ◌-◌, ◌*◌, ◌<◌, ◌≤◌, Bool, true, false, cond, not, ◌&&◌, ◌||◌, List, [], ◌∷◌, ◌++◌, map, length, ℤ}
use mathlib.Core.Path.{refl, sym, ◌∙◌, ap, subst}
use mathlib.Core.Logic.{inl, inr, ⊎_elim}
use mathlib.Core.Bool.{true≢false, false≢true}
use mathlib.Core.List.Memᴰ
use mathlib.Core.List.{Memᴰ}
use native.Mathlib.Omega.{arith}
use native.Mathlib.Decide.{ℕ_discrete}
use Rattle.algebra.specs.Answer.{gives, Reflects, holds, fails}
use Rattle.algebra.specs.Loops.{tally, sum_of, any_of}
use Rattle.algebra.specs.Sets.{On, same_list, union, dropped, Within, sets_of}
use Rattle.algebra.specs.Sign.{Sign, minus, nought, plus, opposite, Side}
use Rattle.algebra.specs.Words.{word_bits, Words, member}
use Rattle.algebra.proofs.AnswerLaws.{reflects_yes, reflects_true, reflects_iff, reflects_agree}
use Rattle.algebra.proofs.ListLaws.{Apart, apart-append, Other, apart-map, kept, kept_in, kept_out, kept_apart}
use Rattle.algebra.proofs.LoopLaws.{reflects-any_of, sum-map, sum-append, sum_same, reflects_test, tally_same, tally-add}
use Rattle.algebra.proofs.SetTests.{reflects_same, mem_on, on_low, numbers_apart, mem_sets, sets_apart, union_within, dropped_within}
use Rattle.algebra.proofs.WordLaws.{member-sift}
use Rattle.matroid.specs.Flips.{Supports, Flipped}
use Rattle.matroid.proofs.FlipLaws.{taken_out_old, link_off}
use Rattle.shots.specs.Patch.{count_of}
use Rattle.shots.specs.Tests.{refusal_of}
use Rattle.shots.proofs.Patch.{patch_few}
use Rattle.shots.proofs.Promises.{shots_kept}
use Rattle.circuits.specs.Sides.{TwoSides}
use Rattle.circuits.specs.Numbering.{circuits_of}
use Rattle.circuits.specs.Calls.{circuit_at, signs_of}
use Rattle.circuits.proofs.Agreement.{circuit_published}
use Rattle.triples.specs.Sizes.{word_count}
use Rattle.lists.specs.Lines.{Listed, Accepted}
use Rattle.lists.proofs.Agreement.{listed_at}
use Rattle.triples.specs.Ranks.{triple_count, triple_at}
use Rattle.triples.proofs.RankLaws.{triples_few}
use Rattle.algebra.proofs.SignLaws.{nought-side}
use Rattle.surfaces.specs.Areas.{triple_area_of, area_sum_of}
use Rattle.surfaces.specs.Flips.{support_of, pieces_of, completions, completes, joins, exchanged, flipped_of}
use Rattle.surfaces.specs.Calls.{flip_of}
use Rattle.algebra.proofs.UnionLaws.{set_known, on_either, on_without, union_apart, dropped-length}
use Rattle.surfaces.proofs.AreaSums.{Triple, pick-sum}
use Rattle.surfaces.proofs.Agreement.{side_of, swapped, Proper, side_within, side_inside, support_within, on_support, piece_published}
use Rattle.surfaces.proofs.Agreement.{numbered, Joining, joins_decided, link_published, supports_published, star_published}
use Rattle.surfaces.proofs.Promises.{flip_gives, flip_published, flip_words, put_in_new_here}
use Rattle.surfaces.proofs.Balance.{cone_balanced}

-- ---- the cones over some pieces

-- each of qs joined with each of cs
coned : ℕ → List (List ℕ) → List (List ℕ) → List (List ℕ)
coned n qs [] = []
coned n qs (c ∷ cs) = map (λ q. union n q c) qs ++ coned n qs cs

sum_coned : (n : ℕ) (f : List ℕ → ℕ) (qs cs : List (List ℕ)) → sum_of f (coned n qs cs) ≡ sum_of (λ c. sum_of (λ q. f (union n q c)) qs) cs
unfolding coned
sum_coned n f qs [] = refl
sum_coned n f qs (c ∷ cs) =
    sum-append f (map (λ q. union n q c) qs) (coned n qs cs) ∙ (λ k. sum-map f (λ q. union n q c) qs k + sum_coned n f qs cs k)

abbrev Coned : ℕ → List (List ℕ) → List (List ℕ) → List ℕ → Type 0
Coned n qs cs t = (c : List ℕ) × Memᴰ c cs × ((q : List ℕ) × Memᴰ q qs × (t ≡ union n q c))

coned_out : (n : ℕ) (qs cs : List (List ℕ)) (t : List ℕ) → Memᴰ t (coned n qs cs) → Coned n qs cs t
unfolding coned
coned_out n qs [] t m = absurd (Memᴰ.not-nil m)
coned_out n qs (c ∷ cs) t m =
    ⊎_elim (λ k. let (q, i, e) = Memᴰ.of_map (λ q. union n q c) qs k in (c, Memᴰ.head refl, (q, i, sym e))) (λ k. let (d, i, r) = coned_out n qs cs t k in (d, Memᴰ.tail i, r))
    (Memᴰ.append_cases (map (λ q. union n q c) qs) m)

coned_in : (n : ℕ) (qs cs : List (List ℕ)) (t : List ℕ) → Coned n qs cs t → Memᴰ t (coned n qs cs)
unfolding coned
coned_in n qs [] t (c, m, r) = absurd (Memᴰ.not-nil m)
coned_in n qs (d ∷ cs) t (c, m, (q, i, e)) =
    ⊎_elim (λ u. Memᴰ.append_left (coned n qs cs) (Memᴰ.cast (e ∙ ap (union n q) u) (Memᴰ.map (λ p. union n p d) i)))
    (λ k. Memᴰ.append_right (map (λ p. union n p d) qs) (coned_in n qs cs t (c, k, (q, i, e)))) (Memᴰ.cases_cons m)

-- a set with none of the shots S
abbrev Off : ℕ → List ℕ → List ℕ → Type 0
Off n S c = Within 0 c n × ((i : ℕ) → On S i → On c i → ⊥)

-- a cone over a piece of S with such a set is known by its triple
module _ (n : ℕ) (S : List ℕ) (v : Within 0 S n) where
  cone-set : (i j : ℕ) (c d : List ℕ) → Off n S c → Off n S d → union n (dropped n i S) c ≡ union n (dropped n j S) d → c ≡ d
  cone-set i j c d h k e = set_known n c d h.0 k.0 (λ x l. (half i j c d h k e x, half j i d c k h (sym e) x))
    where
      half : (i j : ℕ) (c d : List ℕ) → Off n S c → Off n S d → union n (dropped n i S) c ≡ union n (dropped n j S) d → (x : ℕ) → On c x → On d x
      half i j c d h k e x o =
          ⊎_elim (λ p. absurd (h.1 x ((on_without n j S v x).0 p).0 o)) (λ p. p)
          ((on_either n (dropped n j S) d (dropped_within n j S) k.0 x).0 (subst (λ (t : List ℕ). On t x) e ((on_either n (dropped n i S) c (dropped_within n i S) h.0 x).1 (inr o))))

  cone_shot : (i j : ℕ) (c : List ℕ) → Off n S c → On S i → union n (dropped n i S) c ≡ union n (dropped n j S) c → i ≡ j
  cone_shot i j c h o e = go (ℕ_discrete i j)
    where
      go : Dec (i ≡ j) → i ≡ j
      go (yes q) = q
      go (no q) =
          ⊎_elim (λ p. absurd (((on_without n i S v i).0 p).1 refl)) (λ p. absurd (h.1 i o p))
          ((on_either n (dropped n i S) c (dropped_within n i S) h.0 i).0
          (subst (λ (t : List ℕ). On t i) (sym e) ((on_either n (dropped n j S) c (dropped_within n j S) h.0 i).1 (inl ((on_without n j S v i).1 (o, q))))))

  module _ (a : List ℕ) (u : Within 0 a n) (inside : (i : ℕ) → On a i → On S i) where
    abbrev ps : List (List ℕ)
    ps = map (λ i. dropped n i S) a

    on_all : (i : ℕ) → Memᴰ i a → On S i
    on_all i m = inside i ((mem_on i a).0 m)

    block_apart : (c : List ℕ) → Off n S c → Apart Other (map (λ p. union n p c) ps)
    block_apart c h =
        apart-map (λ p. union n p c) ps (apart-map (λ i. dropped n i S) a (numbers_apart a 0 n u) (λ i j m k e. cone_shot i j c h (on_all i m) (ap (λ p. union n p c) e)))
        (λ p q m k e. let (i, m', x) = Memᴰ.of_map (λ i. dropped n i S) a m in let (j, k', y) = Memᴰ.of_map (λ i. dropped n i S) a k in
        sym x ∙ ap (λ i. dropped n i S) (cone_shot i j c h (on_all i m') (ap (λ p. union n p c) x ∙ e ∙ sym (ap (λ p. union n p c) y))) ∙ y)

    coned_apart : (cs : List (List ℕ)) → Apart Other cs → ((c : List ℕ) → Memᴰ c cs → Off n S c) → Apart Other (coned n ps cs)
    unfolding coned
    coned_apart [] p h = tt
    coned_apart (c ∷ cs) p h =
        apart-append Other (map (λ q. union n q c) ps) (coned n ps cs) (block_apart c (h c (Memᴰ.head refl))) (coned_apart cs p.1 (λ d m. h d (Memᴰ.tail m))) cross
      where
        cross : (x y : List ℕ) → Memᴰ x (map (λ q. union n q c) ps) → Memᴰ y (coned n ps cs) → x ≡ y → ⊥
        cross x y m k e =
            let (q, i, f) = Memᴰ.of_map (λ q. union n q c) ps m in let (i', o, g) = Memᴰ.of_map (λ i. dropped n i S) a i in
            let (d, k', (q', j, f')) = coned_out n ps cs y k in let (j', o', g') = Memᴰ.of_map (λ i. dropped n i S) a j in
            p.0 d k' (cone-set i' j' c d (h c (Memᴰ.head refl)) (h d (Memᴰ.tail k')) (ap (λ p. union n p c) g ∙ f ∙ e ∙ f' ∙ sym (ap (λ p. union n p d) g')))

    coned_triple : (cs : List (List ℕ)) → ((c : List ℕ) → Memᴰ c cs → Off n S c × (length S + length c ≡ 4)) → (t : List ℕ) → Memᴰ t (coned n ps cs) → Triple n t
    coned_triple cs h t m =
        let (c, k, (q, i, e)) = coned_out n ps cs t m in let (j, o, f) = Memᴰ.of_map (λ i. dropped n i S) a i in let (g, s) = h c k in
        subst (Triple n) (sym (e ∙ ap (λ p. union n p c) (sym f))) (
          union_within n (dropped n j S) c,
          (
              let x = union_apart n (dropped n j S) c (dropped_within n j S) g.0 (λ i y y'. g.1 i ((on_without n j S v i).0 y).0 y') in
              let y = dropped-length n j S v (on_all j o) in omega arith),
        )

-- ---- what is joined, as such a list

module _ (n : ℕ) (w : List ℕ) (ps : List (List ℕ)) (k : ℕ) (alike : (p : List ℕ) → Memᴰ p ps → 3 - length p ≡ k) where
  -- the sets that complete one of the pieces
  link : List (List ℕ)
  link = kept (λ c. any_of (λ p. completes n w p c) ps) (sets_of k n)

  link_decided : (c : List ℕ) → Reflects ((p : List ℕ) × Memᴰ p ps × (completes n w p c ≡ true)) (any_of (λ p. completes n w p c) ps)
  link_decided c = reflects-any_of (λ p. completes n w p c ≡ true) (λ p. completes n w p c) ps (λ p m. reflects_test (completes n w p c))

  abbrev Linked : List ℕ → Type 0
  Linked c = (p : List ℕ) × Memᴰ p ps × Memᴰ c (completions n p) × (completes n w p c ≡ true)

  link_out : (c : List ℕ) → Memᴰ c link → Linked c
  unfolding link
  link_out c m =
      let (i, e) = kept_out (λ c. any_of (λ p. completes n w p c) ps) c (sets_of k n) m in let (p, j, f) = reflects_yes (link_decided c) e in
      (p, j, subst (λ (h : ℕ). Memᴰ c (sets_of h n)) (sym (alike p j)) i, f)

  link_in : (c : List ℕ) → Linked c → Memᴰ c link
  unfolding link
  link_in c (p, j, i, f) =
      kept_in (λ c. any_of (λ p. completes n w p c) ps) c (sets_of k n) (subst (λ (h : ℕ). Memᴰ c (sets_of h n)) (alike p j) i) (reflects_true (link_decided c) (p, j, f))

  joins_coned : (qs : List (List ℕ)) (r : ℕ) → r < triple_count n → joins n w ps qs r ≡ any_of (same_list (triple_at n r)) (coned n qs link)
  joins_coned qs r l =
      reflects_agree (reflects_iff (λ p. into p.1, λ p. (l, out p)) (joins_decided n w ps qs r))
      (reflects-any_of (λ s. triple_at n r ≡ s) (same_list (triple_at n r)) (coned n qs link) (λ s m. reflects_same (triple_at n r) s))
    where
      t : List ℕ
      t = triple_at n r

      into : Joining n w ps qs t → (s : List ℕ) × Memᴰ s (coned n qs link) × (t ≡ s)
      into (q, m, (p, j, (c, i, (e, f)))) = (t, coned_in n qs link t (c, link_in c (p, j, i, f), (q, m, e)), refl)

      out : (s : List ℕ) × Memᴰ s (coned n qs link) × (t ≡ s) → Joining n w ps qs t
      out (s, m, e) = let (c, i, (q, j, f)) = coned_out n qs link s m in let (p, x, y, z) = link_out c i in (q, j, (p, x, (c, y, (e ∙ f, z))))

-- ---- the exchange

module _ (l : List ℤ) where
  abbrev n : ℕ
  n = count_of l

  abbrev size : ℕ → ℕ
  size r = triple_area_of l (triple_at n r)

  module _ (w : List ℕ) (ps : List (List ℕ)) where
    abbrev joined : List (List ℕ) → ℕ
    joined qs = tally (triple_count n) (λ r. cond (joins n w ps qs r) (size r) 0)

    -- what is taken out was there, what is put in was not
    exchanged-sum : (qs : List (List ℕ)) → triple_count n ≤ word_bits * length w
        → ((r : ℕ) → r < triple_count n → joins n w ps ps r ≡ true → member w r ≡ true) → ((r : ℕ) → r < triple_count n → joins n w ps qs r ≡ true → member w r ≡ false)
        → area_sum_of l (exchanged n w ps qs) + joined ps ≡ area_sum_of l w + joined qs
    unfolding area_sum_of exchanged
    exchanged-sum qs h old new =
        ap (λ (k : ℕ). k + joined ps) (tally_same _ (λ r. cond (stays r) (size r) 0) (triple_count n) (λ r k. ap (λ (b : Bool). cond b (size r) 0) (member-sift (length w) stays r (omega arith))))
        ∙ sym (tally-add (λ r. cond (stays r) (size r) 0) (λ r. cond (joins n w ps ps r) (size r) 0) (triple_count n))
        ∙ tally_same _ _ (triple_count n) (λ r k. at (member w r) (joins n w ps ps r) (joins n w ps qs r) (size r) (old r k) (new r k))
        ∙ tally-add (λ r. cond (member w r) (size r) 0) (λ r. cond (joins n w ps qs r) (size r) 0) (triple_count n)
      where
        stays : ℕ → Bool
        stays r = (member w r && not (joins n w ps ps r)) || joins n w ps qs r

        at : (m o i : Bool) (x : ℕ) → (o ≡ true → m ≡ true) → (i ≡ true → m ≡ false) → cond ((m && not o) || i) x 0 + cond o x 0 ≡ cond m x 0 + cond i x 0
        at true o true x f g = absurd (true≢false (g refl))
        at true true false x f g = omega arith
        at true false false x f g = refl
        at false true i x f g = absurd (false≢true (f refl))
        at false false true x f g = omega arith
        at false false false x f g = refl

  module _ (ok : refusal_of l ≡ 0) (z : ℕ) (zl : z < length (circuits_of l)) (w : List ℕ) where
    abbrev Z : TwoSides
    Z = circuit_at l z

    abbrev S : List ℕ
    S = support_of n Z

    proper : Proper n Z
    proper = numbered l z zl

    abbrev pieces : Sign → List (List ℕ)
    pieces s = pieces_of n Z (side_of Z s)

    sides_balanced : (s : Sign) → Side s → (c : List ℕ) → Off n S c → length S + length c ≡ 4
        → sum_of (λ p. triple_area_of l (union n p c)) (pieces s) ≡ sum_of (λ p. triple_area_of l (union n p c)) (pieces (opposite s))
    unfolding opposite
    sides_balanced s d c h e = go s d
      where
        go : (s : Sign) → Side s → sum_of (λ p. triple_area_of l (union n p c)) (pieces s) ≡ sum_of (λ p. triple_area_of l (union n p c)) (pieces (opposite s))
        go minus d = sym (cone_balanced l ok z zl c h.0 e h.1)
        go nought d = absurd (nought-side d)
        go plus d = cone_balanced l ok z zl c h.0 e h.1

    module _ (s : Sign) (d : Side s)
        (off : (p c : List ℕ) → Memᴰ p (pieces s) → Memᴰ c (completions n p) → completes n w p c ≡ true → (i : ℕ) → On S i → On c i → ⊥) where
      piece_lacks : (p : List ℕ) → Memᴰ p (pieces s) → 3 - length p ≡ 4 - length S
      unfolding pieces_of
      piece_lacks p m =
          let (i, j, e) = Memᴰ.of_map (λ i. dropped n i S) (side_of Z s) m in
          let x = dropped-length n i S (support_within proper) (side_inside proper s i ((mem_on i (side_of Z s)).0 j)) in
          let y = ap length e in omega arith

      abbrev links : List (List ℕ)
      links = link n w (pieces s) (4 - length S) piece_lacks

      link_clear : (c : List ℕ) → Memᴰ c links → Off n S c × (length S + length c ≡ 4)
      link_clear c m =
          let (p, i, j, e) = link_out n w (pieces s) (4 - length S) piece_lacks c m in let (u, f) = (mem_sets (3 - length p) n c).0 j in
          ((u, off p c i j e), fits f (piece_lacks p i))
        where
          fits : {x : ℕ} → length c ≡ x → x ≡ 4 - length S → length S + length c ≡ 4
          fits e f = ⊎_elim (λ (h : length S ≡ 3). omega arith) (λ (h : length S ≡ 4). omega arith) proper.size

      links_apart : Apart Other links
      unfolding link
      links_apart = kept_apart (λ c. any_of (λ p. completes n w p c) (pieces s)) (sets_of (4 - length S) n) (sets_apart (4 - length S) n)

      -- the sum of what is joined, cone by cone
      joined-sum : (q : Sign) → joined w (pieces s) (pieces q) ≡ sum_of (λ c. sum_of (λ p. triple_area_of l (union n p c)) (pieces q)) links
      unfolding pieces_of
      joined-sum q =
          tally_same _ _ (triple_count n) (λ r h. ap (λ (t : Bool). cond t (size r) 0) (joins_coned n w (pieces s) (4 - length S) piece_lacks (pieces q) r h))
          ∙ pick-sum n (triple_area_of l) (coned n (pieces q) links) (coned_triple n S (support_within proper) (side_of Z q) (side_within proper q) (side_inside proper q) links link_clear)
          (coned_apart n S (support_within proper) (side_of Z q) (side_within proper q) (side_inside proper q) links links_apart (λ c m. (link_clear c m).0))
          ∙ sum_coned n (triple_area_of l) (pieces q) links

      exchange_keeps_area : triple_count n ≤ word_bits * length w → ((r : ℕ) → r < triple_count n → joins n w (pieces s) (pieces s) r ≡ true → member w r ≡ true)
          → ((r : ℕ) → r < triple_count n → joins n w (pieces s) (pieces (opposite s)) r ≡ true → member w r ≡ false) → area_sum_of l (swapped n w Z s) ≡ area_sum_of l w
      exchange_keeps_area h old new =
          let e = exchanged-sum w (pieces s) (pieces (opposite s)) h old new in
          let f : joined w (pieces s) (pieces s) ≡ joined w (pieces s) (pieces (opposite s)) =
          joined-sum s ∙ sum_same _ _ links (λ c m. let g = link_clear c m in sides_balanced s d c g.0 g.1) ∙ sym (joined-sum (opposite s)) in
          omega arith

    -- ---- the flip of an accepted list

    module _ (a : Accepted l w) (v : Words word_count w) (s : Sign) (d : Side s) (k : Supports n (Listed n w) (signs_of l z) s) where
      side_keeps_area : area_sum_of l (swapped n w Z s) ≡ area_sum_of l w
      side_keeps_area = exchange_keeps_area s d off (let e = v.0 in let h = triples_few n (patch_few l ok).1 in omega arith) old (put_in_new_here l ok w a z zl s d)
        where
          off : (p c : List ℕ) → Memᴰ p (pieces s) → Memᴰ c (completions n p) → completes n w p c ≡ true → (i : ℕ) → On S i → On c i → ⊥
          off p c m j e i o =
              let q = (piece_published proper s d p).0 m in
              link_off a.1 (circuit_published l ok z zl) p c q ((link_published proper w s d p c q).0 (j, e)) i (on_low S 0 n i (support_within proper) o).1 ((on_support proper i).0 o)

          old : (r : ℕ) → r < triple_count n → joins n w (pieces s) (pieces s) r ≡ true → member w r ≡ true
          old r h e = (listed_at n w r h).0 (taken_out_old a.1 k (triple_at n r) (reflects_yes (star_published proper w s s d d r h) e))

pub flip_keeps_area : (l : List ℤ) (w w' : List ℕ) (z : ℕ) → Words word_count w → flip_of l w z ≡ gives w' → area_sum_of l w' ≡ area_sum_of l w
unfolding flipped_of opposite
flip_keeps_area l w w' z v e =
    let (c, a, h, f, _) = (flip_published l w w' z v (flip_words l w w' z v.0 e)).0 e in
    ap (area_sum_of l) (sym ((flip_gives l w z w').0 e).1) ∙ go ((shots_kept l).0 c) a h f (supports_published (numbered l z h) w plus (inl refl))
  where
    go : {b : Bool} → refusal_of l ≡ 0 → Accepted l w → z < length (circuits_of l) → Flipped (count_of l) (Listed (count_of l) w) (signs_of l z) (Listed (count_of l) w')
        → Reflects (Supports (count_of l) (Listed (count_of l) w) (signs_of l z) plus) b
        → area_sum_of l (cond b (swapped (count_of l) w (circuit_at l z) plus) (swapped (count_of l) w (circuit_at l z) minus)) ≡ area_sum_of l w
    go ok a h f (holds k) = side_keeps_area l ok z h w a v plus (inl refl) k
    go ok a h (inl g) (fails k) = absurd (k g.supported)
    go ok a h (inr g) (fails k) = side_keeps_area l ok z h w a v minus (inr refl) g.supported
