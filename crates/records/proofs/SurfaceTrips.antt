-- A surface record and its list, there and back.
--
--   surface_bytes_again    the record of the list of a record in form is that record
--   surface_read_again     the list of a list's record is the list
--   surface_unbroken       and the reader's rules are unbroken
use mathlib.Core.Path.{◌≡◌, refl, sym, ◌∙◌, ap, subst}
use mathlib.Core.Logic.{inl, inr, ◌↔◌, ⊎_elim}
use mathlib.Core.Bool.{Bool, true, false, cond, ◌||◌}
use mathlib.Core.List.{List, [], ◌∷◌, ◌++◌, append-nil}
use Prim.Native.Nat.{ℕ, zero, suc, ◌+◌, ◌*◌, ◌<◌, ◌≤◌}
use native.Mathlib.Omega.{arith}
use native.Mathlib.Numerals.{add-one}
use native.Mathlib.Nat.{add-zero}
use lib.ListN.{length, get_or, take, drop, length-append, length-drop}
use lib.Seq.{take-add, drop-drop, drop-cons, take_all, take_at, drop_at}
use Rattle.algebra.specs.Loops.{any, fold, run, over, tally}
use Rattle.algebra.specs.Sets.{Within}
use Rattle.algebra.specs.Words.{word_bits, Words, member, put_in}
use Rattle.algebra.proofs.AnswerLaws.{Unbroken, reflects_no, reflects_false, reflects_stable}
use Rattle.algebra.proofs.LoopLaws.{last, any_no}
use Rattle.algebra.proofs.OverLaws.{over_last, over-split, over_at, over_same, over_nothing}
use Rattle.algebra.proofs.WordLaws.{same_members, put_words, put_here, put_other}
use Rattle.shots.specs.Sizes.{shots_most}
use Rattle.triples.specs.Sizes.{word_count}
use Rattle.triples.specs.Ranks.{triple_count, triple_at, rank_of}
use Rattle.triples.specs.Sets.{size_of}
use Rattle.triples.proofs.RankLaws.{triple_at_within, rank_of_triple, triple_of_rank, rank_room}
use Rattle.triples.proofs.SiftLaws.{none_words, none-member}
use Rattle.records.specs.Sizes.{version}
use Rattle.records.specs.Fields.{Bytes, bytes_of, field_of}
use Rattle.records.specs.Formats.{rank_bytes, triple_bytes, surface_bytes}
use Rattle.records.specs.Reading.{surface_frame, triple_in, least_at, bad_at, triple_rule, listed_in, listed_of}
use Rattle.records.proofs.FormatLaws.{rank_in, rank_out, ranks-length, triples-length, size_few, surface-length, Head, headed, head_written, head_again}
use Rattle.records.proofs.FormatLaws.{same_test, test_same, framed, surface_framed, within_decided, bad_decided}

-- ---- triples

three_at : (b : List ℕ) (m : ℕ) → m + 3 ≤ length b → get_or b m 0 ∷ get_or b (suc m) 0 ∷ get_or b (suc (suc m)) 0 ∷ [] ≡ take 3 (drop m b)
three_at [] m h = absurd (omega arith)
three_at (x ∷ []) zero h = absurd (omega arith)
three_at (x ∷ y ∷ []) zero h = absurd (omega arith)
three_at (x ∷ y ∷ z ∷ b) zero h = refl
three_at (x ∷ b) (suc m) h = three_at b m (omega arith)

-- triple j of a record, by its bytes
triple_taken : (b : List ℕ) (j : ℕ) → 8 + 3 * j ≤ length b → triple_in b j ≡ take 3 (drop (5 + 3 * j) b)
unfolding triple_in
triple_taken b j h = (λ i. get_or b (5 + 3 * j) 0 ∷ get_or b (second i) 0 ∷ get_or b (third i) 0 ∷ []) ∙ three_at b (5 + 3 * j) (omega arith)
  where
    second : 6 + 3 * j ≡ suc (5 + 3 * j)
    second = omega arith

    third : 7 + 3 * j ≡ suc (suc (5 + 3 * j))
    third = omega arith

-- what triple j is where it is not bad: a triple of shots, of a rank not below the least
good_at : (n : ℕ) (b : List ℕ) (j : ℕ) → (bad_at n b j ≡ false) ↔ (Within 0 (triple_in b j) n × (least_at n b j ≤ rank_of n (triple_in b j)))
good_at n b j = (
  λ e. let h = reflects_no (bad_decided n b j) e in (reflects_stable (within_decided n b j) (λ x. h (inl x)), low (λ x. h (inr x))),
  λ (w, l). reflects_false (bad_decided n b j) (λ x. ⊎_elim (λ y. y w) (λ y. omega arith) x),
)
  where
    low : (rank_of n (triple_in b j) < least_at n b j → ⊥) → least_at n b j ≤ rank_of n (triple_in b j)
    low h = omega arith

three_in : (b : List ℕ) (j : ℕ) → length (triple_in b j) ≡ 3
unfolding triple_in
three_in b j = refl

-- ---- the bytes of a list

-- how many ranks below m are in the list
before : List ℕ → ℕ → ℕ
before w m = tally m (λ r. cond (member w r) 1 0)

before_in : (w : List ℕ) (m : ℕ) → member w m ≡ true → before w (suc m) ≡ suc (before w m)
unfolding before tally
before_in w m e = rw (e, add-one) refl

before_out : (w : List ℕ) (m : ℕ) → member w m ≡ false → before w (suc m) ≡ before w m
unfolding before tally
before_out w m e = rw (e, add-zero) refl

-- ---- a record that is read

module _ (n : ℕ) (b : List ℕ) where
  listed_words : (j : ℕ) → Words word_count (listed_in n b j)
  unfolding listed_in fold
  listed_words zero = none_words word_count
  listed_words (suc j) = put_words word_count (listed_in n b j) (rank_of n (triple_in b j)) (listed_words j)

  -- what the first j triples say
  record Upto (j : ℕ) : Type 0 where
    past : (r : ℕ) → least_at n b j ≤ r → member (listed_in n b j) r ≡ false
    low : least_at n b j ≤ triple_count n
    bytes : over (rank_bytes n (listed_in n b j)) 0 (least_at n b j) ≡ take (3 * j) (drop 5 b)

  module _ (few : n ≤ shots_most) where
    upto_none : Upto 0
    unfolding least_at listed_in fold over run
    upto_none = record { past = λ r l. none-member word_count r; low = omega arith; bytes = refl }

    upto_more : (j : ℕ) → bad_at n b j ≡ false → 8 + 3 * j ≤ length b → Upto j → Upto (suc j)
    unfolding least_at listed_in fold rank_bytes
    upto_more j e h u = record { past = past; low = omega (arith, ranked.0); bytes = bytes }
      where
        rank : ℕ
        rank = rank_of n (triple_in b j)

        good : Within 0 (triple_in b j) n × (least_at n b j ≤ rank)
        good = (good_at n b j).0 e

        ranked : (rank < triple_count n) × (triple_at n rank ≡ triple_in b j)
        ranked = triple_of_rank n (triple_in b j) good.0 (three_in b j)

        room : rank < word_bits * word_count
        room = rank_room n rank few refl ranked.0

        other : (r : ℕ) → (r ≡ rank → ⊥) → member (listed_in n b (suc j)) r ≡ member (listed_in n b j) r
        other r ne = put_other word_count (listed_in n b j) rank r (listed_words j) room ne

        past : (r : ℕ) → rank + 1 ≤ r → member (listed_in n b (suc j)) r ≡ false
        past r l = other r (λ q. omega arith) ∙ u.past r (omega (arith, good.1))

        front : over (rank_bytes n (listed_in n b (suc j))) 0 rank ≡ take (3 * j) (drop 5 b)
        front =
            over_same (rank_bytes n (listed_in n b (suc j))) (rank_bytes n (listed_in n b j)) rank (λ r l. ap (λ (m : Bool). cond m (triple_at n r) []) (other r (λ q. omega arith)))
            ∙ over-split (rank_bytes n (listed_in n b j)) 0 (least_at n b j) rank (omega arith) good.1
            ∙ (λ i. u.bytes i ++ over_nothing (rank_bytes n (listed_in n b j)) (least_at n b j) rank (λ r l. rank_out n (listed_in n b j) r (u.past r l)) i) ∙ append-nil (take (3 * j) (drop 5 b))

        here : rank_bytes n (listed_in n b (suc j)) rank ≡ take 3 (drop (3 * j) (drop 5 b))
        here =
            rank_in n (listed_in n b (suc j)) rank (put_here word_count (listed_in n b j) rank (listed_words j) room) ∙ ranked.1 ∙ triple_taken b j h ∙ ap (take 3) (sym (drop-drop (3 * j) 5 b))

        bytes : over (rank_bytes n (listed_in n b (suc j))) 0 (rank + 1) ≡ take (3 * suc j) (drop 5 b)
        bytes =
            ap (over (rank_bytes n (listed_in n b (suc j))) 0) (add-one rank) ∙ over_last (rank_bytes n (listed_in n b (suc j))) rank ∙ (λ i. front i ++ here i)
            ∙ sym (take-add (3 * j) 3 (drop 5 b)) ∙ ap (λ (m : ℕ). take m (drop 5 b)) (let q : 3 * j + 3 ≡ 3 * suc j = omega arith in q)

    upto : (j : ℕ) → ((i : ℕ) → i < j → bad_at n b i ≡ false) → 5 + 3 * j ≤ length b → Upto j
    upto zero g h = upto_none
    upto (suc j) g h = upto_more j (g j (omega arith)) (omega arith) (upto j (λ i l. g i (omega arith)) (omega arith))

    module _ (v : Bytes b) (u : Unbroken (surface_frame n b)) (g : any (get_or b 4 0) (bad_at n b) ≡ false) where
      field : field_of 2 b 0 ≡ 3 + 3 * get_or b 4 0
      field = test_same (field_of 2 b 0) (3 + 3 * get_or b 4 0) u.1.1.1.0

      long : 5 + 3 * get_or b 4 0 ≡ length b
      long = surface_framed n b u

      all : Upto (get_or b 4 0)
      all = upto (get_or b 4 0) (λ i l. any_no (bad_at n b) (get_or b 4 0) i g l) (let l = long in omega arith)

      triples_again : triple_bytes n (listed_of n b) ≡ drop 5 b
      unfolding triple_bytes listed_of
      triples_again =
          over-split (rank_bytes n (listed_of n b)) 0 (least_at n b (get_or b 4 0)) (triple_count n) (omega arith) all.low
          ∙ (λ i. all.bytes i ++ over_nothing (rank_bytes n (listed_of n b)) (least_at n b (get_or b 4 0)) (triple_count n) (λ r l. rank_out n (listed_of n b) r (all.past r l)) i)
          ∙ append-nil (take (3 * get_or b 4 0) (drop 5 b)) ∙ take_all (3 * get_or b 4 0) (drop 5 b) (let l = long in omega (arith, length-drop 5 b))

      size_again : size_of n (listed_of n b) ≡ get_or b 4 0
      size_again = let l = long in omega (arith, triples-length n (listed_of n b), ap length triples_again, length-drop 5 b)

      pub surface_bytes_again : surface_bytes n (listed_of n b) ≡ b
      unfolding surface_bytes
      surface_bytes_again = (λ i. headed (3 + 3 * size_again i) n (size_again i ∷ triples_again i)) ∙ head_again (3 + 3 * get_or b 4 0) n (get_or b 4 0 ∷ drop 5 b) b v head
        where
          head : Head (3 + 3 * get_or b 4 0) n (get_or b 4 0 ∷ drop 5 b) b
          head = record {
            field = field;
            mark = test_same (get_or b 2 0) version u.1.0;
            shots = test_same (get_or b 3 0) n u.1.1.0;
            rest = drop-cons b 4 0 (let l = long in omega arith);
            long = let l = long in omega (arith, length-drop 5 b);
          }

-- ---- a list that is written

module _ (n : ℕ) (w : List ℕ) (few : n ≤ shots_most) where
  abbrev bytes : List ℕ
  bytes = surface_bytes n w

  surface_head : Head (3 + 3 * size_of n w) n (size_of n w ∷ triple_bytes n w) (surface_bytes n w)
  unfolding surface_bytes
  surface_head = head_written (3 + 3 * size_of n w) n (size_of n w ∷ triple_bytes n w) (omega (arith, size_few n w few))

  surface_size : get_or bytes 4 0 ≡ size_of n w
  unfolding surface_bytes bytes_of
  surface_size = refl

  surface-triples : drop 5 bytes ≡ triple_bytes n w
  unfolding surface_bytes bytes_of
  surface-triples = refl

  -- the triple of a rank of the list stands behind those of the ranks before it
  triple_again : (r : ℕ) → r < triple_count n → member w r ≡ true → triple_in bytes (before w r) ≡ triple_at n r
  unfolding triple_bytes before
  triple_again r l e =
      triple_taken bytes (before w r) (omega (arith, surface_head.long, long, front, three))
      ∙ ap (take 3) (sym (drop-drop (3 * before w r) 5 bytes) ∙ ap (drop (3 * before w r)) (surface-triples ∙ parts) ∙ drop_at (over (rank_bytes n w) 0 r) (triple_at n r ++ behind) (3 * before w r) front)
      ∙ take_at (triple_at n r) behind 3 three
    where
      behind : List ℕ
      behind = over (rank_bytes n w) (r + 1) (triple_count n)

      parts : triple_bytes n w ≡ over (rank_bytes n w) 0 r ++ (triple_at n r ++ behind)
      parts = over_at (rank_bytes n w) r (triple_count n) l ∙ ap (λ (s : List ℕ). over (rank_bytes n w) 0 r ++ (s ++ behind)) (rank_in n w r e)

      front : length (over (rank_bytes n w) 0 r) ≡ 3 * before w r
      front = ranks-length n w r (omega arith)

      three : length (triple_at n r) ≡ 3
      three = (triple_at_within n r l).1

      long : length (triple_bytes n w) ≡ length (over (rank_bytes n w) 0 r) + (length (triple_at n r) + length behind)
      long = ap length parts ∙ simp length-append

  -- what the record's first j triples say where they are those of the ranks below m
  record Below (m j : ℕ) : Type 0 where
    same : (r : ℕ) → r < m → member (listed_in n bytes j) r ≡ member w r
    past : (r : ℕ) → m ≤ r → member (listed_in n bytes j) r ≡ false
    least : least_at n bytes j ≤ m
    good : any j (bad_at n bytes) ≡ false

  below_none : Below 0 0
  unfolding least_at listed_in fold any
  below_none = record { same = λ r l. absurd (omega arith); past = λ r l. none-member word_count r; least = omega arith; good = refl }

  below_out : (m j : ℕ) → member w m ≡ false → Below m j → Below (suc m) j
  below_out m j e u = record {
    same = λ r l. ⊎_elim (u.same r) (λ q. ap (member (listed_in n bytes j)) q ∙ u.past m (omega arith) ∙ sym e ∙ ap (member w) (sym q)) (last r m l);
    past = λ r l. u.past r (omega arith);
    least = omega (arith, u.least);
    good = u.good;
  }

  below_in : (m j : ℕ) → m < triple_count n → member w m ≡ true → triple_in bytes j ≡ triple_at n m → Below m j → Below (suc m) (suc j)
  unfolding least_at listed_in fold any
  below_in m j h e again u = record {
    same = λ r l. ⊎_elim (λ k. other r (λ q. omega arith) ∙ u.same r k) (λ q. ap (member (listed_in n bytes (suc j))) q ∙ here ∙ sym e ∙ ap (member w) (sym q)) (last r m l);
    past = λ r l. other r (λ q. omega arith) ∙ u.past r (omega arith);
    least = omega (arith, rank);
    good = λ i. u.good i || (good_at n bytes j).1 (shots, omega (arith, rank, u.least)) i;
  }
    where
      rank : rank_of n (triple_in bytes j) ≡ m
      rank = ap (rank_of n) again ∙ rank_of_triple n m h

      room : m < word_bits * word_count
      room = rank_room n m few refl h

      shots : Within 0 (triple_in bytes j) n
      shots = subst (λ (s : List ℕ). Within 0 s n) (sym again) (triple_at_within n m h).0

      put : (r : ℕ) → member (listed_in n bytes (suc j)) r ≡ member (put_in (listed_in n bytes j) m) r
      put r = ap (λ (k : ℕ). member (put_in (listed_in n bytes j) k) r) rank

      other : (r : ℕ) → (r ≡ m → ⊥) → member (listed_in n bytes (suc j)) r ≡ member (listed_in n bytes j) r
      other r ne = put r ∙ put_other word_count (listed_in n bytes j) m r (listed_words n bytes j) room ne

      here : member (listed_in n bytes (suc j)) m ≡ true
      here = put m ∙ put_here word_count (listed_in n bytes j) m (listed_words n bytes j) room

  below : (m : ℕ) → m ≤ triple_count n → Below m (before w m)
  unfolding before tally
  below zero h = below_none
  below (suc m) h = go (member w m) refl (below m (omega arith))
    where
      go : (b : Bool) → member w m ≡ b → Below m (before w m) → Below (suc m) (before w (suc m))
      go true e u = subst (Below (suc m)) (sym (before_in w m e)) (below_in m (before w m) (omega arith) e (triple_again m (omega arith) e) u)
      go false e u = subst (Below (suc m)) (sym (before_out w m e)) (below_out m (before w m) e u)

  all_below : Below (triple_count n) (get_or bytes 4 0)
  unfolding size_of before
  all_below = subst (Below (triple_count n)) (sym surface_size) (below (triple_count n) (omega arith))

  pub surface_read_again : Words word_count w → ((r : ℕ) → triple_count n ≤ r → member w r ≡ false) → listed_of n (surface_bytes n w) ≡ w
  unfolding listed_of
  surface_read_again v h = (same_members word_count (triple_count n) (listed_of n bytes) w (listed_words n bytes (get_or bytes 4 0)) v all_below.past h).1 all_below.same

  pub surface_unbroken : Unbroken (surface_frame n (surface_bytes n w) ++ triple_rule n (surface_bytes n w) ∷ [])
  surface_unbroken = (
    (framed 5 bytes).1 (omega (arith, surface-length n w), omega (arith, surface-length n w, surface_head.field)),
    (
      same_test (get_or bytes 2 0) version surface_head.mark,
      (
        same_test (get_or bytes 3 0) n surface_head.shots,
        (
          same_test (field_of 2 bytes 0) (3 + 3 * get_or bytes 4 0) (omega (arith, surface_head.field, surface_size)),
          (all_below.good, tt),
        ),
      ),
    ),
  )
