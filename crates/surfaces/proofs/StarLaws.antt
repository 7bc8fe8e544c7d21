-- Stars of a circuit and the pieces joined with what completes them, over any set of shots for a circuit.
--
--   Missing n s i t               t holds every shot of s but i
--   star_pieces                   what is in a star: the triples that hold all of the circuit but one shot of a side
--   star_words                    a star is a set of triples
--   cone_at, cone_words           those of a set that hold shot k
--   Rest n s c                    c has as many shots as a piece of s lacks, none of them in s
--   Joined n s i c r              the triple of rank r is s without i, joined with c
--   joined_at, joined_one         there is one such triple; there is only one
--   joined_on, joined_missing     what it holds, and what it does not
--   joined_from                   every triple that lacks only i of s is such a triple
--   rest_of                       what makes a triple with a piece, and with that shot not in it, is such a rest
use Rattle.std.specs.Prelude.{◌≡◌, ℕ, ◌-◌, ◌<◌, ◌≤◌, Bool, true, false, not, ◌&&◌, ◌||◌, eqb, ltb, ◌⊎◌, ◌↔◌, List, length}
use mathlib.Core.Path.{refl, sym, ◌∙◌, ap, subst}
use mathlib.Core.Logic.{inl, inr, ⊎_elim}
use mathlib.Core.Bool.{true≢false}
use native.Mathlib.Omega.{arith}
use native.Mathlib.Decide.{ℕ_discrete}
use borrow.Author.Tests.{lt-ltb}
use Rattle.algebra.specs.Answer.{Reflects}
use Rattle.algebra.specs.Loops.{any, picks}
use Rattle.algebra.specs.Sets.{is_on, On, all_on, union, dropped, Within, mask_of, bit}
use Rattle.algebra.specs.Words.{Words, clear_bit, member}
use Rattle.algebra.proofs.AnswerLaws.{reflects_yes, reflects_true, reflects_iff, reflects-not, reflects-and, reflects_ltb}
use Rattle.algebra.proofs.LoopLaws.{and_parts, every_same, reflects-any, reflects_test}
use Rattle.algebra.proofs.SetTests.{reflects_on, reflects_all_on, is_on-picks, picks_within, on_low, union_within, on-dropped, dropped_within, mask-on}
use Rattle.algebra.proofs.BitLaws.{bit_mask}
use Rattle.algebra.proofs.BitOps.{bit_clear}
use Rattle.algebra.proofs.WordLaws.{sift_words, sift_all, both-member, both_words}
use Rattle.shots.specs.Sizes.{shots_most}
use Rattle.triples.specs.Sizes.{word_count}
use Rattle.triples.specs.Ranks.{triple_count, triple_at, rank_of}
use Rattle.triples.specs.Sets.{mask_on, holders_of}
use Rattle.triples.proofs.RankLaws.{triple_at_within, rank_of_triple, triple_of_rank}
use Rattle.lists.proofs.ByWords.{room, on_ranked}
use Rattle.surfaces.specs.Stars.{star_of, cone_of}
use Rattle.algebra.proofs.UnionLaws.{set_known, on_either, on_without, union_apart, union_meets, dropped-length}

-- ---- stars

abbrev pub Missing : ℕ → List ℕ → ℕ → List ℕ → Type 0
Missing n s i t = ((k : ℕ) → On (dropped n i s) k → On t k) × (On t i → ⊥)

module _ (n x : ℕ) (s : List ℕ) (bits : (i : ℕ) → i < n → bit x i ≡ is_on i s) where
  mask-dropped : (i : ℕ) (t : List ℕ) → mask_on n (clear_bit x i) t ≡ all_on (dropped n i s) t
  unfolding mask_on
  mask-dropped i t =
      every_same (λ j. not (bit (clear_bit x i) j) || is_on j t) (λ j. not (bit (mask_of (dropped n i s)) j) || is_on j t) n (λ j l. ap (λ (b : Bool). not b || is_on j t) (left j l))
      ∙ mask-on n (dropped n i s) t (dropped_within n i s)
    where
      left : (j : ℕ) → j < n → bit (clear_bit x i) j ≡ bit (mask_of (dropped n i s)) j
      left j l =
          bit_clear x i j ∙ ap (λ (b : Bool). b && not (eqb j i)) (bits j l)
          ∙ sym (bit_mask j n (dropped n i s) (dropped_within n i s) ∙ on-dropped n i s j ∙ ap (λ (b : Bool). b && (is_on j s && not (eqb j i))) (lt-ltb j n l))

  -- a is the mask of a side
  pub star_pieces : (a : ℕ) (side : List ℕ) → Within 0 side n → ((i : ℕ) → i < n → bit a i ≡ is_on i side) → n ≤ shots_most → (r : ℕ)
      → Reflects ((r < triple_count n) × ((i : ℕ) × On side i × Missing n s i (triple_at n r))) (member (star_of n a x) r)
  unfolding star_of
  star_pieces a side v e few r =
      subst (Reflects ((r < triple_count n) × ((i : ℕ) × On side i × Missing n s i (triple_at n r))))
      (sym (sift_all word_count test (λ q h. omega (arith, room n few, reflects_yes (reflects_ltb q (triple_count n)) (and_parts (ltb q (triple_count n)) (among q) h).0)) r))
      (reflects-and (reflects_ltb r (triple_count n))
      (reflects_iff (λ q. (q.0, q.2.0, q.2.1), λ q. (q.0, (on_low side 0 n q.0 v q.1).1, (q.1, q.2)))
      (reflects-any (λ i. On side i × Missing n s i (triple_at n r)) (lacks r) n
      (λ i l. reflects-and (subst (Reflects (On side i)) (sym (e i l)) (reflects_on i side))
      (reflects-and (subst (Reflects ((k : ℕ) → On (dropped n i s) k → On (triple_at n r) k)) (sym (mask-dropped i (triple_at n r))) (reflects_all_on (dropped n i s) (triple_at n r)))
      (reflects-not (reflects_on i (triple_at n r))))))))
    where
      lacks : ℕ → ℕ → Bool
      lacks q i = bit a i && (mask_on n (clear_bit x i) (triple_at n q) && not (is_on i (triple_at n q)))

      among : ℕ → Bool
      among q = any n (lacks q)

      test : ℕ → Bool
      test q = ltb q (triple_count n) && among q

pub star_words : (n a x : ℕ) → Words word_count (star_of n a x)
unfolding star_of
star_words n a x = sift_words word_count _

-- those of a set that hold k
module _ (n : ℕ) (t : List ℕ) (words : Words word_count t) (k : ℕ) where
  pub cone_at : n ≤ shots_most → (r : ℕ) → Reflects ((member t r ≡ true) × On (triple_at n r) k) (member (cone_of n k t) r)
  unfolding cone_of holders_of
  cone_at few r =
      subst (Reflects ((member t r ≡ true) × On (triple_at n r) k)) (sym (both-member word_count t (holders_of n k) words r))
      (reflects-and (reflects_test (member t r))
      (subst (Reflects (On (triple_at n r) k)) (sym (sift_all word_count (λ q. is_on k (triple_at n q)) (λ q o. omega (arith, room n few, on_ranked n q k o)) r)) (reflects_on k (triple_at n r))))

  pub cone_words : Words word_count (cone_of n k t)
  unfolding cone_of
  cone_words = both_words word_count t (holders_of n k) words

-- ---- pieces, joined with what completes them

pub record Rest (n : ℕ) (s c : List ℕ) : Type 0 where
  pub within : Within 0 c n
  pub size : length c ≡ 4 - length s
  pub apart : (k : ℕ) → On c k → On s k → ⊥

abbrev pub Joined : ℕ → List ℕ → ℕ → List ℕ → ℕ → Type 0
Joined n s i c r = (r < triple_count n) × (triple_at n r ≡ union n (dropped n i s) c)

pub joined_one : (n : ℕ) (s : List ℕ) (i : ℕ) (c : List ℕ) (r q : ℕ) → Joined n s i c r → Joined n s i c q → r ≡ q
joined_one n s i c r q j k = sym (rank_of_triple n r j.0) ∙ ap (rank_of n) (j.1 ∙ sym k.1) ∙ rank_of_triple n q k.0

-- what completes a piece, and the triple that it makes
module _ (n : ℕ) (s : List ℕ) (v : Within 0 s n) (i : ℕ) (o : On s i) where
  pub joined_on : (c : List ℕ) (r : ℕ) → Within 0 c n → Joined n s i c r → (k : ℕ) → On (triple_at n r) k ↔ (On (dropped n i s) k ⊎ On c k)
  joined_on c r u j k = rw j.1 (on_either n (dropped n i s) c (dropped_within n i s) u k)

  module _ (least : 3 ≤ length s) (most : length s ≤ 4) where
    pub joined_at : (c : List ℕ) → Rest n s c → (r : ℕ) × Joined n s i c r
    joined_at c h =
        let p = triple_of_rank n (union n (dropped n i s) c) (union_within n (dropped n i s) c) sized in
        (rank_of n (union n (dropped n i s) c), p)
      where
        sized : length (union n (dropped n i s) c) ≡ 3
        sized =
            let e = union_apart n (dropped n i s) c (dropped_within n i s) h.within (λ k p q. h.apart k q ((on_without n i s v k).0 p).0) in
            let d = dropped-length n i s v o in
            omega (arith, h.size)

    pub joined_missing : (c : List ℕ) (r : ℕ) → Rest n s c → Joined n s i c r → Missing n s i (triple_at n r)
    joined_missing c r h j =
        (λ k p. (joined_on c r h.within j k).1 (inl p), λ p. ⊎_elim (λ q. ((on_without n i s v i).0 q).1 refl) (λ q. h.apart i q o) ((joined_on c r h.within j i).0 p))

    pub joined_from : (r : ℕ) → r < triple_count n → Missing n s i (triple_at n r) → (c : List ℕ) × Rest n s c × Joined n s i c r
    joined_from r l m = (rest, record { within = picks_within test n; size = sized; apart = λ k p q. (reflects_yes (off k) p).1.1 q }, (l, sym whole))
      where
        test : ℕ → Bool
        test k = is_on k (triple_at n r) && not (is_on k s)

        rest : List ℕ
        rest = picks n (λ k. is_on k (triple_at n r) && not (is_on k s))

        off : (k : ℕ) → Reflects ((k < n) × (On (triple_at n r) k × (On s k → ⊥))) (is_on k rest)
        off k = rw (is_on-picks (λ k. is_on k (triple_at n r) && not (is_on k s)) n k) (reflects-and (reflects_ltb k n) (reflects-and (reflects_on k (triple_at n r)) (reflects-not (reflects_on k s))))

        whole : union n (dropped n i s) rest ≡ triple_at n r
        whole = set_known n (union n (dropped n i s) rest) (triple_at n r) (union_within n (dropped n i s) rest) (triple_at_within n r l).0
            (λ k h. let e = on_either n (dropped n i s) rest (dropped_within n i s) (picks_within test n) k in (λ p. ⊎_elim (m.0 k) (λ q. (reflects_yes (off k) q).1.0) (e.0 p), λ p. e.1 (into k h p)))
          where
            into : (k : ℕ) → k < n → On (triple_at n r) k → On (dropped n i s) k ⊎ On rest k
            into k h p = go (is_on k s) refl
              where
                go : (b : Bool) → is_on k s ≡ b → On (dropped n i s) k ⊎ On rest k
                go true e = inl ((on_without n i s v k).1 (e, λ q. m.1 (subst (On (triple_at n r)) q p)))
                go false e = inr (reflects_true (off k) (h, (p, λ q. true≢false (sym q ∙ e))))

        sized : length rest ≡ 4 - length s
        sized =
            let e = union_apart n (dropped n i s) rest (dropped_within n i s) (picks_within test n) (λ k p q. (reflects_yes (off k) q).1.1 ((on_without n i s v k).0 p).0) in
            let d = dropped-length n i s v o in
            let f : length (union n (dropped n i s) rest) ≡ 3 = ap length whole ∙ (triple_at_within n r l).1 in
            omega arith

    pub rest_of : (c : List ℕ) (r : ℕ) → Within 0 c n → length c ≡ 4 - length s → Joined n s i c r → (((k : ℕ) → On s k → On (triple_at n r) k) → ⊥) → Rest n s c
    rest_of c r u e j free = record { within = u; size = e; apart = λ k p q. apart k p q (ℕ_discrete k i) }
      where
        three : length (union n (dropped n i s) c) ≡ 3
        three = ap length (sym j.1) ∙ (triple_at_within n r j.0).1

        apart : (k : ℕ) → On c k → On s k → Dec (k ≡ i) → ⊥
        apart k p q (no ne) =
            let d = dropped-length n i s v o in
            let f = union_meets n (dropped n i s) c (dropped_within n i s) u k ((on_without n i s v k).1 (q, ne)) p in
            let g = three in
            omega arith
        apart k p q (yes z) = free (λ h b. whole h b (ℕ_discrete h i))
          where
            whole : (h : ℕ) → On s h → Dec (h ≡ i) → On (triple_at n r) h
            whole h b (yes y) = (joined_on c r u j h).1 (inr (subst (On c) (z ∙ sym y) p))
            whole h b (no y) = (joined_on c r u j h).1 (inl ((on_without n i s v h).1 (b, y)))
