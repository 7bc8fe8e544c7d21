-- Stars and links, over any set of shots for a circuit: a star is supported exactly when its pieces are, and turning by stars exchanges the pieces.
--
--   PartOf n s y a        a is a part of the shots s, a side of the circuit, and y its mask
--   Over n x s w          what is known of a circuit s of three or four shots, with the mask x, and of a list w: no triple of the list holds all of s
--   supported-by          the star of a side is supported exactly when its pieces are
--   turned_by_lem             where they are, the list turned by the stars is the list with the pieces exchanged
use Rattle.std.specs.Prelude.{◌≡◌, ℕ, suc, ◌-◌, ◌<◌, ◌≤◌, Bool, true, false, cond, not, ◌&&◌, ◌||◌, ◌⊎◌, List, [], ◌∷◌, map, length}
use mathlib.Core.Path.{refl, sym, ◌∙◌, ap, subst}
use mathlib.Core.Logic.{inl, inr, ⊎_elim}
use native.Mathlib.Omega.{arith}
use native.Mathlib.Decide.{dec_lt}
use Rattle.algebra.specs.Answer.{Reflects}
use Rattle.algebra.specs.Loops.{any, any_of}
use Rattle.algebra.specs.Sets.{is_on, On, same_list, union, dropped, Within, bit}
use Rattle.algebra.specs.Words.{Words, member, sift, both_of, either_of, less_of, inside_of}
use Rattle.algebra.proofs.AnswerLaws.{reflects_yes, reflects_no, reflects_true, reflects_stable, reflects_agree, reflects_iff, reflects-not, reflects-or, reflects-and, reflects_ltb}
use Rattle.algebra.proofs.LoopLaws.{and_parts, any_some, reflects-any, reflects_test, reflects-any_of, any_of-map}
use Rattle.algebra.proofs.SetTests.{reflects_on, reflects_same, mem_on, mem_sets, on_low}
use Rattle.algebra.proofs.UnionLaws.{on_one, on_without, dropped-length}
use Rattle.algebra.proofs.WordLaws.{words_same, sift_words, member-sift, sift_all, both-member, meets_at, inside_at, both_words, either_words, less_words, member_either, member_less}
use Rattle.shots.specs.Sizes.{shots_most}
use Rattle.triples.specs.Sizes.{word_count}
use Rattle.triples.specs.Ranks.{triple_count, triple_at}
use Rattle.lists.proofs.ByWords.{room, on_ranked}
use Rattle.lists.specs.Tests.{listed}
use Rattle.surfaces.specs.Flips.{completions, completes, some_link, mixed_links, supports, joins, exchanged}
use Rattle.surfaces.specs.Stars.{star_of, cone_of, linked_at, linked_of, supported_by, turned_by}
use Rattle.surfaces.proofs.StarLaws.{star_pieces, star_words, cone_at, cone_words, Rest, Joined, joined_one, joined_on, joined_at, joined_missing, joined_from, rest_of}

-- ---- lists

-- a list of no number, and of one
none_in : (c : List ℕ) → length c ≡ 0 → c ≡ []
none_in [] e = refl
none_in (k ∷ c) e = absurd (clash e)
  where
    clash : suc (length c) ≡ 0 → ⊥
    clash e = omega arith

one_in : (c : List ℕ) → length c ≡ 1 → (k : ℕ) × On c k × ((d : List ℕ) → length d ≡ 1 → On d k → d ≡ c)
unfolding is_on
one_in [] e = absurd (omega arith)
one_in (k ∷ []) e = (k, reflects_true (on_one k k) refl, same)
  where
    same : (d : List ℕ) → length d ≡ 1 → On d k → d ≡ k ∷ []
    same [] f o = absurd (omega arith)
    same (j ∷ []) f o = ap (λ (i : ℕ). i ∷ []) (sym (reflects_yes (on_one j k) o))
    same (j ∷ i ∷ d) f o = absurd (omega arith)
one_in (k ∷ j ∷ c) e = absurd (omega arith)

-- ---- a circuit, a side of it, and a list

pub record PartOf (n : ℕ) (s : List ℕ) (y : ℕ) (a : List ℕ) : Type 0 where
  pub within : Within 0 a n
  pub bits : (i : ℕ) → bit y i ≡ is_on i a
  pub inside : (i : ℕ) → On a i → On s i

pub record Over (n x : ℕ) (s w : List ℕ) : Type 0 where
  pub few : n ≤ shots_most
  pub within : Within 0 s n
  pub bits : (i : ℕ) → bit x i ≡ is_on i s
  pub least : 3 ≤ length s
  pub most : length s ≤ 4
  pub words : Words word_count w
  pub free : (r : ℕ) → member w r ≡ true → ((k : ℕ) → On s k → On (triple_at n r) k) → ⊥

module _ (n x : ℕ) (s w : List ℕ) (v : Over n x s w) where
  -- the piece without i, joined with c, is in the list
  abbrev In : ℕ → List ℕ → Type 0
  In i c = (r : ℕ) × Joined n s i c r × (member w r ≡ true)

  completes_at : (i : ℕ) (c : List ℕ) → Reflects (In i c) (completes n w (dropped n i s) c)
  unfolding completes listed
  completes_at i c =
      reflects_iff (λ q. (q.0, (q.1, q.2.1), q.2.0), λ q. (q.0, q.1.0, (q.2, q.1.1)))
      (reflects-any (λ r. (member w r ≡ true) × (triple_at n r ≡ union n (dropped n i s) c)) (λ r. member w r && same_list (triple_at n r) (union n (dropped n i s) c)) (triple_count n)
      (λ r l. reflects-and (reflects_test (member w r)) (reflects_same (triple_at n r) (union n (dropped n i s) c))))

  abbrev pieces : List ℕ → List (List ℕ)
  pieces a = map (λ i. dropped n i s) a

  over_pieces : (P : ℕ → Type 0) (f : List ℕ → Bool) (a : List ℕ) → ((i : ℕ) → On a i → Reflects (P i) (f (dropped n i s))) → Reflects ((i : ℕ) × On a i × P i) (any_of f (pieces a))
  over_pieces P f a h =
      subst (Reflects ((i : ℕ) × On a i × P i)) (sym (any_of-map f (λ i. dropped n i s) a))
      (reflects_iff (λ q. (q.0, (mem_on q.0 a).0 q.1, q.2), λ q. (q.0, (mem_on q.0 a).1 q.1, q.2)) (reflects-any_of P (λ i. f (dropped n i s)) a (λ i m. h i ((mem_on i a).0 m))))

  over_rests : (i : ℕ) → On s i → (Q : List ℕ → Type 0) (f : List ℕ → Bool) → ((c : List ℕ) → Reflects (Q c) (f c)) → ((c : List ℕ) → Q c → In i c)
      → Reflects ((c : List ℕ) × Rest n s c × Q c) (any_of f (completions n (dropped n i s)))
  over_rests i o Q f h g =
      reflects_iff (
        λ q. (q.0, rest q.0 ((mem_sets (3 - length (dropped n i s)) n q.0).0 q.1) (g q.0 q.2), q.2),
        λ q. (q.0, (mem_sets (3 - length (dropped n i s)) n q.0).1 (q.1.within, q.1.size ∙ sym lacking), q.2),
      )
      (reflects-any_of Q f (completions n (dropped n i s)) (λ c m. h c))
    where
      lacking : 3 - length (dropped n i s) ≡ 4 - length s
      lacking = let d = dropped-length n i s v.within o in let e = v.least in omega arith

      rest : (c : List ℕ) → Within 0 c n × (length c ≡ 3 - length (dropped n i s)) → In i c → Rest n s c
      rest c p d = rest_of n s v.within i o v.least v.most c d.0 p.0 (p.1 ∙ lacking) d.1 (v.free d.0 d.2)

  -- ---- the pieces of one side

  module _ {y : ℕ} {a : List ℕ} (S : PartOf n s y a) where
    -- a piece has a link that is not empty
    abbrev Some : Type 0
    Some = (i : ℕ) × On a i × ((c : List ℕ) × Rest n s c × In i c)

    -- what is in the link of one piece is in that of each
    abbrev Closed : Type 0
    Closed = (i : ℕ) → On a i → (c : List ℕ) → Rest n s c → In i c → (j : ℕ) → On a j → In j c

    supports_at : Reflects (Some × Closed) (supports n w (pieces a))
    unfolding supports some_link mixed_links
    supports_at =
        reflects-and
        (over_pieces (λ i. (c : List ℕ) × Rest n s c × In i c) (λ p. any_of (completes n w p) (completions n p)) a
        (λ i o. over_rests i (S.inside i o) (In i) (completes n w (dropped n i s)) (completes_at i) (λ c q. q)))
        (reflects_iff (closed, mixed)
        (reflects-not (over_pieces (λ i. (c : List ℕ) × Rest n s c × (In i c × ((j : ℕ) × On a j × (In j c → ⊥))))
        (λ p. any_of (λ c. completes n w p c && any_of (λ q. not (completes n w q c)) (pieces a)) (completions n p)) a
        (λ i o. over_rests i (S.inside i o) (λ c. In i c × ((j : ℕ) × On a j × (In j c → ⊥))) (λ c. completes n w (dropped n i s) c && any_of (λ q. not (completes n w q c)) (pieces a))
        (λ c. reflects-and (completes_at i c) (over_pieces (λ j. In j c → ⊥) (λ q. not (completes n w q c)) a (λ j p. reflects-not (completes_at j c)))) (λ c q. q.0)))))
      where
        Mixed : Type 0
        Mixed = (i : ℕ) × On a i × ((c : List ℕ) × Rest n s c × (In i c × ((j : ℕ) × On a j × (In j c → ⊥))))

        closed : (Mixed → ⊥) → Closed
        closed h i o c k q j p = reflects_stable (completes_at j c) (λ d. h (i, o, (c, k, (q, (j, p, d)))))

        mixed : Closed → Mixed → ⊥
        mixed h m = let q = m.2 in q.2.1.2 (h m.0 m.1 q.0 q.1 q.2.0 q.2.1.0 q.2.1.1)

    -- the triple of rank r is a piece of the side b joined with a member of the link of a piece of a
    abbrev Joining : List ℕ → ℕ → Type 0
    Joining b r = (r < triple_count n) × ((j : ℕ) × On b j × ((i : ℕ) × On a i × ((c : List ℕ) × Rest n s c × ((triple_at n r ≡ union n (dropped n j s) c) × In i c))))

    joins_at : (b : List ℕ) (r : ℕ) → Reflects (Joining b r) (joins n w (pieces a) (pieces b) r)
    unfolding joins
    joins_at b r =
        reflects-and (reflects_ltb r (triple_count n))
        (over_pieces (λ j. (i : ℕ) × On a i × ((c : List ℕ) × Rest n s c × ((triple_at n r ≡ union n (dropped n j s) c) × In i c)))
        (λ q. any_of (λ p. any_of (λ c. same_list (triple_at n r) (union n q c) && completes n w p c) (completions n p)) (pieces a)) b
        (λ j o. over_pieces (λ i. (c : List ℕ) × Rest n s c × ((triple_at n r ≡ union n (dropped n j s) c) × In i c))
        (λ p. any_of (λ c. same_list (triple_at n r) (union n (dropped n j s) c) && completes n w p c) (completions n p)) a
        (λ i k. over_rests i (S.inside i k) (λ c. (triple_at n r ≡ union n (dropped n j s) c) × In i c) (λ c. same_list (triple_at n r) (union n (dropped n j s) c) && completes n w (dropped n i s) c)
        (λ c. reflects-and (reflects_same (triple_at n r) (union n (dropped n j s) c)) (completes_at i c)) (λ c q. q.1))))

    -- ---- the star of the side

    star_in : (i : ℕ) → On a i → (c : List ℕ) → Rest n s c → (r : ℕ) → Joined n s i c r → member (star_of n y x) r ≡ true
    star_in i o c h r j =
        reflects_true (star_pieces n x s (λ i l. v.bits i) y a S.within (λ i l. S.bits i) v.few r) (j.0, (i, o, joined_missing n s v.within i (S.inside i o) v.least v.most c r h j))

    star_out : (r : ℕ) → member (star_of n y x) r ≡ true → (i : ℕ) × On a i × ((c : List ℕ) × Rest n s c × Joined n s i c r)
    star_out r m =
        let q = reflects_yes (star_pieces n x s (λ i l. v.bits i) y a S.within (λ i l. S.bits i) v.few r) m in
        (q.1.0, q.1.1, joined_from n s v.within q.1.0 (S.inside q.1.0 q.1.1) v.least v.most r q.0 q.1.2)

    star_cone : (k r : ℕ) → Reflects ((member (star_of n y x) r ≡ true) × On (triple_at n r) k) (member (cone_of n k (star_of n y x)) r)
    star_cone k r = cone_at n (star_of n y x) (star_words n y x) k v.few r

    -- k is outside the circuit, and its cone is in the list, all of it and not empty
    abbrev Link : ℕ → Type 0
    Link k =
        (On s k → ⊥)
        × (((r : ℕ) × (member (star_of n y x) r ≡ true) × On (triple_at n r) k × (member w r ≡ true)) × ((r : ℕ) → member (star_of n y x) r ≡ true → On (triple_at n r) k → member w r ≡ true))

    link_at : (k : ℕ) → Reflects (Link k) (linked_at n x (star_of n y x) w k)
    unfolding linked_at
    link_at k =
        reflects-and (reflects-not (subst (Reflects (On s k)) (sym (v.bits k)) (reflects_on k s)))
        (reflects-and
        (reflects_iff (λ q. let p = reflects_yes (star_cone k q.0) q.1 in (q.0, p.0, p.1, q.2), λ q. (q.0, reflects_true (star_cone k q.0) (q.1, q.2), q.3))
        (meets_at word_count (cone_of n k (star_of n y x)) w (cone_words n (star_of n y x) (star_words n y x) k)))
        (reflects_iff (λ h r m o. h r (reflects_true (star_cone k r) (m, o)), λ h r m. let p = reflects_yes (star_cone k r) m in h r p.0 p.1)
        (inside_at word_count (cone_of n k (star_of n y x)) w (cone_words n (star_of n y x) (star_words n y x) k))))

    linked-at : (r : ℕ) → Reflects ((k : ℕ) × (k < n) × (Link k × On (triple_at n r) k)) (member (linked_of n x (star_of n y x) w) r)
    unfolding linked_of
    linked-at r =
        subst (Reflects ((k : ℕ) × (k < n) × (Link k × On (triple_at n r) k)))
        (sym (sift_all word_count (λ q. any n (linking q)) (λ q h. let p = any_some (linking q) n h in
        omega (arith, room n v.few, on_ranked n q p.0 (and_parts (linked_at n x (star_of n y x) w p.0) (is_on p.0 (triple_at n q)) p.2).1)) r))
        (reflects-any (λ k. Link k × On (triple_at n r) k) (linking r) n (λ k l. reflects-and (link_at k) (reflects_on k (triple_at n r))))
      where
        linking : ℕ → ℕ → Bool
        linking q k = linked_at n x (star_of n y x) w k && is_on k (triple_at n q)

    -- a shot outside the circuit is in the rest
    in_rest : (i : ℕ) → On a i → (c : List ℕ) → Rest n s c → (r : ℕ) → Joined n s i c r → (k : ℕ) → (On s k → ⊥) → On (triple_at n r) k → On c k
    in_rest i o c h r j k off p =
        ⊎_elim (λ q. absurd (off ((on_without n i s v.within k).0 q).0)) (λ q. q) ((joined_on n s v.within i (S.inside i o) c r h.within j k).0 p)

    rest_in : (i : ℕ) → On a i → (c : List ℕ) → Rest n s c → (r : ℕ) → Joined n s i c r → (k : ℕ) → On c k → On (triple_at n r) k
    rest_in i o c h r j k p = (joined_on n s v.within i (S.inside i o) c r h.within j k).1 (inr p)

    -- a shot of the link: each piece is joined with its rest in the list
    link_all : (c : List ℕ) → Rest n s c → (k : ℕ) → On c k → Link k → (j : ℕ) → On a j → In j c
    link_all c h k p q j o =
        let z = joined_at n s v.within j (S.inside j o) v.least v.most c h in
        (z.0, z.1, q.1.1 z.0 (star_in j o c h z.0 z.1) (rest_in j o c h z.0 z.1 k p))

    -- where the links are the same: a triple of the star whose rest is in a link is in the list
    carried : Closed → (i : ℕ) → On a i → (c : List ℕ) → Rest n s c → In i c → (r : ℕ) (m : member (star_of n y x) r ≡ true) → (star_out r m).2.0 ≡ c → member w r ≡ true
    carried h i o c k d r m e =
        let z = star_out r m in
        let q = h i o c k d z.0 z.1 in
        subst (λ (t : ℕ). member w t ≡ true) (joined_one n s z.0 c q.0 r q.1 (subst (λ (b : List ℕ). Joined n s z.0 b r) e z.2.2)) q.2

    abbrev Inside : Type 0
    Inside = (r : ℕ) → member (star_of n y x) r ≡ true → member w r ≡ true

    -- four shots: the whole star is in the list; three: each rest of the link is one shot of it
    spread : Some → Closed → Inside ⊎ ((i : ℕ) → On a i → (c : List ℕ) → Rest n s c → In i c → (k : ℕ) × On c k × Link k)
    spread m h = go (dec_lt (length s) 4)
      where
        go : Dec (length s < 4) → Inside ⊎ ((i : ℕ) → On a i → (c : List ℕ) → Rest n s c → In i c → (k : ℕ) × On c k × Link k)
        go (no l) = inl (λ r p. carried h m.0 m.1 m.2.0 m.2.1 m.2.2 r p (empty (star_out r p).2.0 (star_out r p).2.1 ∙ sym (empty m.2.0 m.2.1)))
          where
            empty : (c : List ℕ) → Rest n s c → c ≡ []
            empty c k = none_in c (let e = k.size in omega arith)
        go (yes l) = inr link
          where
            single : (c : List ℕ) → Rest n s c → length c ≡ 1
            single c k = let e = k.size in let f = v.least in omega arith

            link : (i : ℕ) → On a i → (c : List ℕ) → Rest n s c → In i c → (k : ℕ) × On c k × Link k
            link i o c k d =
                let q = one_in c (single c k) in (
                  q.0,
                  q.1,
                  (
                    k.apart q.0 q.1,
                    (
                      (d.0, star_in i o c k d.0 d.1, rest_in i o c k d.0 d.1 q.0 q.1, d.2),
                      λ r p b. let z = star_out r p in
                          carried h i o c k d r p (q.2 z.2.0 (single z.2.0 z.2.1) (in_rest z.0 z.1 z.2.0 z.2.1 r z.2.2 q.0 (k.apart q.0 q.1) b)),
                    ),
                  ),
                )

    supported_at : Reflects (((r : ℕ) × (member (star_of n y x) r ≡ true) × (member w r ≡ true))
        × (Inside ⊎ ((r : ℕ) → (member (star_of n y x) r ≡ true) × (member w r ≡ true) → member (linked_of n x (star_of n y x) w) r ≡ true))) (supported_by n x (star_of n y x) w)
    unfolding supported_by
    supported_at =
        reflects-and (meets_at word_count (star_of n y x) w (star_words n y x))
        (reflects-or (inside_at word_count (star_of n y x) w (star_words n y x))
        (reflects_iff (λ h r p. h r (reflects_true (both r) p), λ h r m. h r (reflects_yes (both r) m))
        (inside_at word_count (both_of (star_of n y x) w) (linked_of n x (star_of n y x) w) (both_words word_count (star_of n y x) w (star_words n y x)))))
      where
        both : (r : ℕ) → Reflects ((member (star_of n y x) r ≡ true) × (member w r ≡ true)) (member (both_of (star_of n y x) w) r)
        both r =
            subst (Reflects ((member (star_of n y x) r ≡ true) × (member w r ≡ true))) (sym (both-member word_count (star_of n y x) w (star_words n y x) r))
            (reflects-and (reflects_test (member (star_of n y x) r)) (reflects_test (member w r)))

    pub supported-by : supported_by n x (star_of n y x) w ≡ supports n w (map (λ i. dropped n i s) a)
    supported-by = reflects_agree (reflects_iff (λ q. (some q.0, closed q.1), λ q. (meets q.0, reached q.0 q.1)) supported_at) supports_at
      where
        some : (r : ℕ) × (member (star_of n y x) r ≡ true) × (member w r ≡ true) → Some
        some m = let z = star_out m.0 m.1 in (z.0, z.1, (z.2.0, z.2.1, (m.0, z.2.2, m.2)))

        meets : Some → (r : ℕ) × (member (star_of n y x) r ≡ true) × (member w r ≡ true)
        meets m = let d = m.2.2 in (d.0, star_in m.0 m.1 m.2.0 m.2.1 d.0 d.1, d.2)

        closed : Inside ⊎ ((r : ℕ) → (member (star_of n y x) r ≡ true) × (member w r ≡ true) → member (linked_of n x (star_of n y x) w) r ≡ true) → Closed
        closed (inl h) i o c k d j p = let z = joined_at n s v.within j (S.inside j p) v.least v.most c k in (z.0, z.1, h z.0 (star_in j p c k z.0 z.1))
        closed (inr h) i o c k d j p =
            let g = reflects_yes (linked-at d.0) (h d.0 (star_in i o c k d.0 d.1, d.2)) in
            link_all c k g.0 (in_rest i o c k d.0 d.1 g.0 g.2.0.0 g.2.1) g.2.0 j p

        reached : Some → Closed → Inside ⊎ ((r : ℕ) → (member (star_of n y x) r ≡ true) × (member w r ≡ true) → member (linked_of n x (star_of n y x) w) r ≡ true)
        reached m h = ⊎_elim inl (λ f. inr (λ r p. at f r p)) (spread m h)
          where
            at : ((i : ℕ) → On a i → (c : List ℕ) → Rest n s c → In i c → (k : ℕ) × On c k × Link k) → (r : ℕ) → (member (star_of n y x) r ≡ true) × (member w r ≡ true)
                → member (linked_of n x (star_of n y x) w) r ≡ true
            at f r p =
                let z = star_out r p.0 in
                let q = f z.0 z.1 z.2.0 z.2.1 (r, z.2.2, p.1) in
                reflects_true (linked-at r) (q.0, (on_low z.2.0 0 n q.0 z.2.1.within q.1).1, (q.2, rest_in z.0 z.1 z.2.0 z.2.1 r z.2.2 q.0 q.1))

  -- ---- one side exchanged for the other

  module _ {y y' : ℕ} {a b : List ℕ} (S : PartOf n s y a) (T : PartOf n s y' b) (yes-supports : supports n w (map (λ i. dropped n i s) a) ≡ true) where
    some-link : Some S
    some-link = (reflects_yes (supports_at S) yes-supports).0

    same_links : Closed S
    same_links = (reflects_yes (supports_at S) yes-supports).1

    -- what is taken out
    out_same : (r : ℕ) → (member w r && not (member (star_of n y x) r)) ≡ (member w r && not (joins n w (pieces a) (pieces a) r))
    out_same r = go (member w r) refl
      where
        go : (m : Bool) → member w r ≡ m → (m && not (member (star_of n y x) r)) ≡ (m && not (joins n w (pieces a) (pieces a) r))
        go false e = refl
        go true e = ap not (reflects_agree (reflects_iff (into, out) (reflects_test (member (star_of n y x) r))) (joins_at S a r))
          where
            out : Joining S a r → member (star_of n y x) r ≡ true
            out q = let h = q.1.2.2 in star_in S q.1.0 q.1.1 h.0 h.1 r (q.0, h.2.0)

            into : member (star_of n y x) r ≡ true → Joining S a r
            into m = let z = star_out S r m in (z.2.2.0, (z.0, z.1, (z.0, z.1, (z.2.0, z.2.1, (z.2.2.1, (r, z.2.2, e))))))

    -- what is put in: the star of the other side where all of this one is in the list, else what has a shot of the link
    put_same : (r : ℕ) → member (cond (inside_of (star_of n y x) w) (star_of n y' x) (both_of (star_of n y' x) (linked_of n x (star_of n y x) w))) r ≡ joins n w (pieces a) (pieces b) r
    put_same r = go (inside_of (star_of n y x) w) refl
      where
        -- a piece of the other side, joined with a rest that is in the link
        joining : (q : (j : ℕ) × On b j × ((c : List ℕ) × Rest n s c × Joined n s j c r)) → In some-link.0 q.2.0 → Joining S b r
        joining q d = (q.2.2.0, (q.0, q.1, (some-link.0, some-link.1, (q.2.0, q.2.1, (q.2.2.1, d)))))

        star_joining : Joining S b r → member (star_of n y' x) r ≡ true
        star_joining q = let h = q.1.2.2 in star_in T q.1.0 q.1.1 h.0 h.1 r (q.0, h.2.0)

        go : (m : Bool) → inside_of (star_of n y x) w ≡ m → member (cond m (star_of n y' x) (both_of (star_of n y' x) (linked_of n x (star_of n y x) w))) r ≡ joins n w (pieces a) (pieces b) r
        go true e = reflects_agree (reflects_iff (into, star_joining) (reflects_test (member (star_of n y' x) r))) (joins_at S b r)
          where
            into : member (star_of n y' x) r ≡ true → Joining S b r
            into m =
                let q = star_out T r m in
                let z = joined_at n s v.within some-link.0 (S.inside some-link.0 some-link.1) v.least v.most q.2.0 q.2.1 in
                joining q (z.0, z.1, reflects_yes (inside_at word_count (star_of n y x) w (star_words n y x)) e z.0 (star_in S some-link.0 some-link.1 q.2.0 q.2.1 z.0 z.1))
        go false e =
            both-member word_count (star_of n y' x) (linked_of n x (star_of n y x) w) (star_words n y' x) r
            ∙ reflects_agree (reflects_iff (into, λ q. (star_joining q, linked q)) (reflects-and (reflects_test (member (star_of n y' x) r)) (linked-at S r))) (joins_at S b r)
          where
            into : (member (star_of n y' x) r ≡ true) × ((k : ℕ) × (k < n) × (Link S k × On (triple_at n r) k)) → Joining S b r
            into p =
                let q = star_out T r p.0 in let g = p.1 in
                joining q (link_all S q.2.0 q.2.1 g.0 (in_rest T q.0 q.1 q.2.0 q.2.1 r q.2.2 g.0 g.2.0.0 g.2.1) g.2.0 some-link.0 some-link.1)

            linked : Joining S b r → (k : ℕ) × (k < n) × (Link S k × On (triple_at n r) k)
            linked q =
                let h = q.1.2.2 in
                ⊎_elim (λ f. absurd (reflects_no (inside_at word_count (star_of n y x) w (star_words n y x)) e f))
                (λ f. let g = f q.1.2.0 q.1.2.1 h.0 h.1 h.2.1 in
                (g.0, (on_low h.0 0 n g.0 h.1.within g.1).1, (g.2, rest_in T q.1.0 q.1.1 h.0 h.1 r (q.0, h.2.0) g.0 g.1)))
                (spread S some-link same_links)

    pub turned_by_lem : turned_by n x (star_of n y x) (star_of n y' x) w ≡ exchanged n w (map (λ i. dropped n i s) a) (map (λ i. dropped n i s) b)
    unfolding turned_by exchanged
    turned_by_lem =
        words_same word_count (either_of (less_of w (star_of n y x)) put) (sift (length w) kept) (either_words word_count (less_of w (star_of n y x)) put rest_words) exchanged_words
        (λ r l. member_either (less_of w (star_of n y x)) put r (let e = rest_words.0 in omega arith)
        ∙ (λ k. member_less w (star_of n y x) r (let e = v.words.0 in omega arith) k || put_same r k)
        ∙ ap (λ (m : Bool). m || joins n w (pieces a) (pieces b) r) (out_same r) ∙ sym (member-sift (length w) kept r (let e = v.words.0 in omega arith)))
      where
        put : List ℕ
        put = cond (inside_of (star_of n y x) w) (star_of n y' x) (both_of (star_of n y' x) (linked_of n x (star_of n y x) w))

        kept : ℕ → Bool
        kept r = (member w r && not (joins n w (pieces a) (pieces a) r)) || joins n w (pieces a) (pieces b) r

        rest_words : Words word_count (less_of w (star_of n y x))
        rest_words = less_words word_count w (star_of n y x) v.words

        exchanged_words : Words word_count (sift (length w) kept)
        exchanged_words = subst (λ (k : ℕ). Words k (sift (length w) kept)) v.words.0 (sift_words (length w) kept)
