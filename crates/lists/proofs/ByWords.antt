-- The tests of a list by sets of triples in words are those of document 01, over triples.
--
--   both_some                   some number below the bound passes two tests
--   room                        the words of a list have a bit for each triple
--   flat_past, on_ranked        what is past the last rank counts as flat; what holds a shot has a rank
--   members_low                 a list with nothing past the last rank: its members are ranks
--   member_full, member_holders, member-around, member_solid, member_inner    what the sets of triples hold
--   mask-around                 every shot of the mask of s is in t: every shot of s is
--   by_solid, by_empty          a flat triple or one past the last rank; no triple
--   around_meets                a triple of the list holds a side
--   by-around, by-crossing      the sides of one circuit are inside triples of the list; those of some circuit
--   by_open                     an edge of exactly one triple that is no border pair
--   crossed_by, open_by           the two tests as the code's loops make them, over the table of specs/Held
--   refuses_7, refuses_10, refuses_8, refuses_9, gives_list    the answer, test by test
--   accepted_solid              an accepted list has nothing past the last rank and no flat triple
use Rattle.std.specs.Prelude.{◌≡◌, ℕ, ◌*◌, ◌<◌, ◌≤◌, Bool, true, false, not, ◌&&◌, ◌||◌, eqb, ltb, leb, ◌⊎◌, List, length, ℤ}
use mathlib.Core.Path.{refl, sym, ◌∙◌, ap}
use mathlib.Core.Logic.{inl, inr}
use mathlib.Core.Bool.{true≢false, not-not}
use native.Mathlib.Omega.{arith}
use native.Mathlib.Decide.{dec_lt, ℕ_discrete}
use borrow.Author.Tests.{leb-true, le-leb, lt-ltb, ltb-true}
use Rattle.algebra.specs.Answer.{Reflects, gives, refuses, chain}
use Rattle.algebra.specs.Loops.{any}
use Rattle.algebra.specs.Sets.{is_on, all_on, Within, mask_of}
use Rattle.algebra.specs.Words.{word_bits, Words, member, both_of, meets_of, inside_of, empty_of, alone_of, row_of}
use Rattle.algebra.proofs.AnswerLaws.{refusal_keeps, reflects_no, reflects_agree, reflects_iff, reflects-not, reflects-or, reflects-and, reflects_eqb}
use Rattle.algebra.proofs.LoopLaws.{and_parts, or_parts, any_same, reflects-any, reflects_test}
use Rattle.algebra.proofs.SetTests.{mask-on}
use Rattle.algebra.proofs.WordLaws.{member_past, member-sift, member_both, both_words, meets_reflects, alone_reflects}
use Rattle.shots.specs.Sizes.{shots_most}
use Rattle.shots.specs.Patch.{count_of, border_of}
use Rattle.circuits.specs.Sides.{TwoSides}
use Rattle.circuits.specs.Numbering.{circuits_of}
use Rattle.circuits.specs.Calls.{circuit_at}
use Rattle.circuits.proofs.Sources.{made_at}
use Rattle.circuits.proofs.Signs.{sides_within}
use Rattle.triples.specs.Sizes.{word_count}
use Rattle.triples.specs.Ranks.{triple_count, triple_at}
use Rattle.lists.specs.Tests.{is_flat, past_last, some_flat, is_empty, sides_in, crosses, crossing, shared, open_at, open_edge, list_refusal_of, list_rules}
use Rattle.triples.specs.Sets.{full_of, holders_of, mask_on, around_of}
use Rattle.lists.specs.Held.{solid_of, inner_of, plus_row, minus_row, inner_row, AroundPlus, AroundMinus, Inner}
use Rattle.triples.proofs.RankLaws.{triple_past, triples_few, past_off}

-- ---- small laws

pub both_some : (f g : ℕ → Bool) (k : ℕ) → Reflects ((r : ℕ) × (r < k) × (f r ≡ true) × (g r ≡ true)) (any k (λ r. f r && g r))
both_some f g k =
    reflects_iff (λ q. (q.0, q.1, q.2.0, q.2.1), λ q. (q.0, q.1, (q.2, q.3)))
    (reflects-any (λ r. (f r ≡ true) × (g r ≡ true)) (λ r. f r && g r) k (λ r l. reflects-and (reflects_test (f r)) (reflects_test (g r))))

-- ---- what the sets of triples hold

pub room : (n : ℕ) → n ≤ shots_most → triple_count n ≤ word_bits * word_count
room n h = omega (arith, triples_few n h)

pub flat_past : (l : List ℤ) (n r : ℕ) → triple_count n ≤ r → is_flat l (triple_at n r) ≡ true
unfolding is_flat
flat_past l n r h = rw (triple_past n r h) refl

-- what holds a shot has a rank
pub on_ranked : (n r i : ℕ) → is_on i (triple_at n r) ≡ true → r < triple_count n
on_ranked n r i h = go (dec_lt r (triple_count n))
  where
    go : Dec (r < triple_count n) → r < triple_count n
    go (yes l) = l
    go (no l) = absurd (true≢false (sym h ∙ past_off n r i (omega arith)))

pub member_full : (n r : ℕ) → r < word_bits * word_count → member (full_of n) r ≡ ltb r (triple_count n)
unfolding full_of
member_full n r h = member-sift word_count (λ s. ltb s (triple_count n)) r h

pub member_holders : (n k r : ℕ) → r < word_bits * word_count → member (holders_of n k) r ≡ is_on k (triple_at n r)
unfolding holders_of
member_holders n k r h = member-sift word_count (λ s. is_on k (triple_at n s)) r h

pub member-around : (n x : ℕ) (w : List ℕ) (r : ℕ) → r < word_bits * word_count → member (around_of n x w) r ≡ (member w r && mask_on n x (triple_at n r))
unfolding around_of
member-around n x w r h = member-sift word_count (λ s. member w s && mask_on n x (triple_at n s)) r h

pub member_solid : (l : List ℤ) (r : ℕ) → r < word_bits * word_count → member (solid_of l) r ≡ not (is_flat l (triple_at (count_of l) r))
unfolding solid_of
member_solid l r h = member-sift word_count (λ s. not (is_flat l (triple_at (count_of l) s))) r h

pub member_inner : (l : List ℤ) (i j r : ℕ) → r < word_bits * word_count
    → member (inner_of l i j) r ≡ (not (border_of l i j) && (is_on i (triple_at (count_of l) r) && is_on j (triple_at (count_of l) r)))
unfolding inner_of
member_inner l i j r h = member-sift word_count (λ s. not (border_of l i j) && (is_on i (triple_at (count_of l) s) && is_on j (triple_at (count_of l) s))) r h

pub mask-around : (n : ℕ) (s t : List ℕ) → Within 0 s n → mask_on n (mask_of s) t ≡ all_on s t
unfolding mask_on
mask-around n s t w = mask-on n s t w

-- ---- the tests

-- as the code's loops go through the table
abbrev pub crossed_by : List ℕ → List ℕ → ℕ → Bool
crossed_by w t count = any count (λ z. meets_of w (row_of word_count t (plus_row z)) && meets_of w (row_of word_count t (minus_row z)))

abbrev pub open_by : ℕ → List ℕ → List ℕ → Bool
open_by n w t = any n (λ j. any j (λ i. alone_of (both_of w (row_of word_count t (inner_row i j)))))

module _ (l : List ℤ) (w : List ℕ) (few : count_of l ≤ shots_most) (v : Words word_count w) where
  abbrev n : ℕ
  n = count_of l

  abbrev last : ℕ
  last = triple_count (count_of l)

  -- within the words of the list
  in_words : {r : ℕ} → r < word_bits * length w → r < word_bits * word_count
  in_words h = let e = v.0 in omega arith

  ranked : {r : ℕ} → r < triple_count (count_of l) → r < word_bits * length w
  ranked h = let e = v.0 in omega (arith, room (count_of l) few)

  pub members_low : past_last l w ≡ false → (r : ℕ) → member w r ≡ true → r < triple_count (count_of l)
  unfolding past_last
  members_low e r m = go (dec_lt r last) (dec_lt r (word_bits * length w))
    where
      go : Dec (r < last) → Dec (r < word_bits * length w) → r < last
      go (yes h) d = h
      go (no h) (yes u) = absurd (reflects_no (both_some (λ s. leb last s) (member w) (word_bits * length w)) e (r, u, le-leb last r (omega arith), m))
      go (no h) (no u) = absurd (true≢false (sym m ∙ member_past w r (let q = v.0 in omega arith)))

  pub by_solid : not (inside_of w (solid_of l)) ≡ (past_last l w || some_flat l w)
  unfolding inside_of past_last some_flat
  by_solid =
      not-not (any (word_bits * length w) (λ r. member w r && not (member (solid_of l) r)))
      ∙ any_same (λ r. member w r && not (member (solid_of l) r)) (λ r. member w r && flat r) (word_bits * length w)
      (λ r h. ap (λ (b : Bool). member w r && b) (ap not (member_solid l r (in_words h)) ∙ not-not (flat r)))
      ∙ reflects_agree (reflects_iff (into, out) (both_some (member w) flat (word_bits * length w)))
      (reflects-or (both_some (λ r. leb last r) (member w) (word_bits * length w)) (both_some (member w) flat last))
    where
      flat : ℕ → Bool
      flat r = is_flat l (triple_at n r)

      A : Type 0
      A = (r : ℕ) × (r < word_bits * length w) × (member w r ≡ true) × (flat r ≡ true)

      B : Type 0
      B = ((r : ℕ) × (r < word_bits * length w) × (leb last r ≡ true) × (member w r ≡ true)) ⊎ ((r : ℕ) × (r < last) × (member w r ≡ true) × (flat r ≡ true))

      into : A → B
      into q = go (dec_lt q.0 last)
        where
          go : Dec (q.0 < last) → B
          go (yes h) = inr (q.0, h, q.2, q.3)
          go (no h) = inl (q.0, q.1, le-leb last q.0 (omega arith), q.2)

      out : B → A
      out (inl q) = (q.0, q.1, q.3, flat_past l n q.0 (leb-true last q.0 q.2))
      out (inr q) = (q.0, ranked q.1, q.2, q.3)

  pub by_empty : past_last l w ≡ false → empty_of w ≡ is_empty l w
  unfolding empty_of is_empty
  by_empty e =
      ap not (reflects_agree (reflects_iff (λ q. (q.0, members_low e q.0 q.2, q.2), λ q. (q.0, ranked q.1, q.2)) (some (word_bits * length w))) (some last))
    where
      some : (k : ℕ) → Reflects ((r : ℕ) × (r < k) × (member w r ≡ true)) (any k (member w))
      some k = reflects-any (λ r. member w r ≡ true) (member w) k (λ r h. reflects_test (member w r))

  -- ---- sides inside triples

  pub around_meets : (s : List ℕ) → Within 0 s (count_of l)
      → Reflects ((r : ℕ) × (r < triple_count (count_of l)) × (member w r ≡ true) × (all_on s (triple_at (count_of l) r) ≡ true)) (meets_of w (around_of (count_of l) (mask_of s) (full_of (count_of l))))
  around_meets s h =
      reflects_iff (
        λ q. let p = and_parts (ltb q.0 last) (all_on s (triple_at n q.0)) (sym (at q.0 (in_words q.1)) ∙ q.3) in (q.0, ltb-true q.0 last p.0, q.2, p.1),
        λ q. (q.0, ranked q.1, q.2, at q.0 (in_words (ranked q.1)) ∙ rw (lt-ltb q.0 last q.1) q.3),
      )
      (meets_reflects w (around_of n (mask_of s) (full_of n)))
    where
      at : (r : ℕ) → r < word_bits * word_count → member (around_of n (mask_of s) (full_of n)) r ≡ (ltb r last && all_on s (triple_at n r))
      at r u = member-around n (mask_of s) (full_of n) r u ∙ (λ k. member_full n r u k && mask-around n s (triple_at n r) h k)

  pub by-around : (z : TwoSides) → Within 0 z.plus (count_of l) → Within 0 z.minus (count_of l)
      → (meets_of w (around_of (count_of l) (mask_of z.plus) (full_of (count_of l))) && meets_of w (around_of (count_of l) (mask_of z.minus) (full_of (count_of l)))) ≡ crosses (count_of l) w z
  unfolding crosses sides_in
  by-around z p m =
      reflects_agree (reflects-and (around_meets z.plus p) (around_meets z.minus m))
      (reflects_iff (
        λ q. ((q.0, q.1, q.2, q.3.3.0), (q.3.0, q.3.1, q.3.2, q.3.3.1)),
        λ q. (q.0.0, q.0.1, q.0.2, (q.1.0, q.1.1, q.1.2, (q.0.3, q.1.3))),
      )
      (pairs_some (λ r s. sides_in z (triple_at n r) (triple_at n s)) (λ r s. (all_on z.plus (triple_at n r) ≡ true) × (all_on z.minus (triple_at n s) ≡ true))
      (λ r s. reflects-and (reflects_test (all_on z.plus (triple_at n r))) (reflects_test (all_on z.minus (triple_at n s))))))
    where
      -- two members that pass
      pairs_some : (f : ℕ → ℕ → Bool) (P : ℕ → ℕ → Type 0) → ((r s : ℕ) → Reflects (P r s) (f r s))
          → Reflects ((r : ℕ) × (r < last) × (member w r ≡ true) × ((s : ℕ) × (s < last) × (member w s ≡ true) × P r s)) (any last (λ r. member w r && any last (λ s. member w s && f r s)))
      pairs_some f P h =
          reflects_iff (λ q. (q.0, q.1, q.2.0, (q.2.1.0, q.2.1.1, q.2.1.2.0, q.2.1.2.1)), λ q. (q.0, q.1, (q.2, (q.3.0, q.3.1, (q.3.2, q.3.3)))))
          (reflects-any (λ r. (member w r ≡ true) × ((s : ℕ) × (s < last) × ((member w s ≡ true) × P r s))) (λ r. member w r && any last (λ s. member w s && f r s)) last
          (λ r u. reflects-and (reflects_test (member w r))
          (reflects-any (λ s. (member w s ≡ true) × P r s) (λ s. member w s && f r s) last (λ s u'. reflects-and (reflects_test (member w s)) (h r s)))))

  pub by-crossing : (t : List ℕ) (count : ℕ) → AroundPlus l t → AroundMinus l t → count ≡ length (circuits_of l) → crossed_by w t count ≡ crossing l w
  unfolding crossing
  by-crossing t count f g e =
      ap (crossed_by w t) e
      ∙ any_same (λ z. meets_of w (row_of word_count t (plus_row z)) && meets_of w (row_of word_count t (minus_row z))) (λ z. crosses n w (circuit_at l z)) (length (circuits_of l))
      (λ z h. (λ k. meets_of w (f z h k) && meets_of w (g z h k)) ∙ (let s = sides z h in by-around (circuit_at l z) s.0 s.1))
    where
      sides : (z : ℕ) → z < length (circuits_of l) → Within 0 (circuit_at l z).plus n × Within 0 (circuit_at l z).minus n
      sides z h = sides_within n (circuit_at l z) (made_at l z h)

  -- ---- open edges

  -- the triple of rank r is in the list and holds i and j, which are no border pair
  abbrev Inside : ℕ → ℕ → ℕ → Type 0
  Inside i j r = (member w r ≡ true) × (not (border_of l i j) ≡ true) × (is_on i (triple_at (count_of l) r) ≡ true) × (is_on j (triple_at (count_of l) r) ≡ true)

  -- exactly one is
  abbrev Lone : ℕ → ℕ → Type 0
  Lone i j = (r : ℕ) × (r < triple_count (count_of l)) × Inside i j r × ((s : ℕ) → s < triple_count (count_of l) → Inside i j s → s ≡ r)

  alone_lone : (i j : ℕ) → Reflects (Lone i j) (alone_of (both_of w (inner_of l i j)))
  alone_lone i j =
      reflects_iff (
        λ q. let h = out q.0 (fits q.1) q.2 in (q.0, on_ranked n q.0 i h.2, h, λ s u g. q.3 s (far u) (into s (ranked u) g)),
        λ q. (q.0, far q.1, into q.0 (ranked q.1) q.2, λ s u e. let h = out s (fits u) e in q.3 s (on_ranked n s i h.2) h),
      )
      (alone_reflects (both_of w (inner_of l i j)))
    where
      fits : {r : ℕ} → r < word_bits * length (both_of w (inner_of l i j)) → r < word_bits * length w
      fits h = let e = v.0 in omega (arith, (both_words word_count w (inner_of l i j) v).0)

      far : {r : ℕ} → r < last → r < word_bits * length (both_of w (inner_of l i j))
      far h = omega (arith, (both_words word_count w (inner_of l i j) v).0, room n few)

      at : (r : ℕ) → r < word_bits * length w → member (both_of w (inner_of l i j)) r ≡ (member w r && (not (border_of l i j) && (is_on i (triple_at n r) && is_on j (triple_at n r))))
      at r h = member_both w (inner_of l i j) r h ∙ ap (λ (b : Bool). member w r && b) (member_inner l i j r (in_words h))

      four : (a b c d : Bool) → (a && (b && (c && d))) ≡ true → (a ≡ true) × (b ≡ true) × (c ≡ true) × (d ≡ true)
      four a b c d e = let p = and_parts a (b && (c && d)) e in let q = and_parts b (c && d) p.1 in let r = and_parts c d q.1 in (p.0, q.0, r.0, r.1)

      out : (r : ℕ) → r < word_bits * length w → member (both_of w (inner_of l i j)) r ≡ true → Inside i j r
      out r h e = four (member w r) (not (border_of l i j)) (is_on i (triple_at n r)) (is_on j (triple_at n r)) (sym (at r h) ∙ e)

      into : (r : ℕ) → r < word_bits * length w → Inside i j r → member (both_of w (inner_of l i j)) r ≡ true
      into r h g = at r h ∙ rw (g.0, g.1, g.2, g.3) refl

  -- i and j are an edge of the triple of rank r and of no other one, and no border pair
  abbrev Open : ℕ → ℕ → ℕ → Type 0
  Open r i j =
      ((is_on i (triple_at (count_of l) r) ≡ true) × (is_on j (triple_at (count_of l) r) ≡ true))
      × ((not (border_of l i j) ≡ true)
      × ((s : ℕ) × (s < triple_count (count_of l)) × ((member w s ≡ true) × ((s ≡ r → ⊥) × ((is_on i (triple_at (count_of l) s) ≡ true) × (is_on j (triple_at (count_of l) s) ≡ true)))) → ⊥))

  open-at : (r i j : ℕ) → Reflects (Open r i j) (open_at l w r i j)
  unfolding open_at shared
  open-at r i j =
      reflects-and (both r)
      (reflects-and (reflects_test (not (border_of l i j)))
      (reflects-not (reflects-any (λ s. (member w s ≡ true) × ((s ≡ r → ⊥) × ((is_on i (triple_at n s) ≡ true) × (is_on j (triple_at n s) ≡ true))))
      (λ s. member w s && (not (eqb s r) && (is_on i (triple_at n s) && is_on j (triple_at n s)))) last
      (λ s h. reflects-and (reflects_test (member w s)) (reflects-and (reflects-not (reflects_eqb s r)) (both s))))))
    where
      both : (s : ℕ) → Reflects ((is_on i (triple_at n s) ≡ true) × (is_on j (triple_at n s) ≡ true)) (is_on i (triple_at n s) && is_on j (triple_at n s))
      both s = reflects-and (reflects_test (is_on i (triple_at n s))) (reflects_test (is_on j (triple_at n s)))

  pub by_open : (t : List ℕ) → Inner l t → open_by (count_of l) w t ≡ open_edge l w
  unfolding open_edge
  by_open t f =
      any_same (λ j. any j (λ i. alone_of (both_of w (row_of word_count t (inner_row i j))))) (λ j. any j (λ i. alone_of (both_of w (inner_of l i j)))) n
      (λ j h. any_same (λ i. alone_of (both_of w (row_of word_count t (inner_row i j)))) (λ i. alone_of (both_of w (inner_of l i j))) j (λ i u. ap (λ (x : List ℕ). alone_of (both_of w x)) (f j h i u)))
      ∙ reflects_agree
      (reflects_iff (into, out)
      (reflects-any (λ j. (i : ℕ) × (i < j) × Lone i j) (λ j. any j (λ i. alone_of (both_of w (inner_of l i j)))) n
      (λ j h. reflects-any (λ i. Lone i j) (λ i. alone_of (both_of w (inner_of l i j))) j (λ i u. alone_lone i j))))
      (reflects-any (λ r. (member w r ≡ true) × ((j : ℕ) × (j < n) × ((i : ℕ) × (i < j) × Open r i j))) (λ r. member w r && any n (λ j. any j (λ i. open_at l w r i j))) last
      (λ r h. reflects-and (reflects_test (member w r))
      (reflects-any (λ j. (i : ℕ) × (i < j) × Open r i j) (λ j. any j (λ i. open_at l w r i j)) n (λ j u. reflects-any (λ i. Open r i j) (λ i. open_at l w r i j) j (λ i u'. open-at r i j)))))
    where
      A : Type 0
      A = (j : ℕ) × (j < n) × ((i : ℕ) × (i < j) × Lone i j)

      B : Type 0
      B = (r : ℕ) × (r < last) × ((member w r ≡ true) × ((j : ℕ) × (j < n) × ((i : ℕ) × (i < j) × Open r i j)))

      opens : (i j : ℕ) (q : Lone i j) → Open q.0 i j
      opens i j q = let h = q.2 in ((h.2, h.3), (h.1, λ p. p.2.1.0 (q.3 p.0 p.1 (p.2.0, h.1, p.2.1.1.0, p.2.1.1.1))))

      lone : (r i j : ℕ) → r < last → member w r ≡ true → Open r i j → Lone i j
      lone r i j h m o = (r, h, (m, o.1.0, o.0.0, o.0.1), λ s u g. go s u g (ℕ_discrete s r))
        where
          go : (s : ℕ) → s < last → Inside i j s → Dec (s ≡ r) → s ≡ r
          go s u g (yes e) = e
          go s u g (no ne) = absurd (o.1.1 (s, u, (g.0, (ne, (g.2, g.3)))))

      into : A → B
      into q = let j = q.0 in let i = q.2.0 in let k = q.2.2 in (k.0, k.1, (k.2.0, (j, q.1, (i, q.2.1, opens i j k))))

      out : B → A
      out q = let p = q.2.1 in let o = p.2 in (p.0, p.1, (o.0, o.1, lone q.0 o.0 p.0 q.1 q.2.0 o.2))

  -- ---- the answer

  kept : inside_of w (solid_of l) ≡ true → (past_last l w || some_flat l w) ≡ false
  kept e = sym by_solid ∙ ap not e

  pub refuses_7 : inside_of w (solid_of l) ≡ false → refuses 7 ≡ chain {A = Unit {0}} (list_rules l w) tt
  unfolding chain
  refuses_7 e = rw (sym by_solid ∙ ap not e) refl

  -- the words hold no flat triple, and are of ranks
  module _ (e : inside_of w (solid_of l) ≡ true) where
    no_past : past_last l w ≡ false
    no_past = (or_parts (past_last l w) (some_flat l w) (kept e)).0

    pub refuses_10 : empty_of w ≡ true → refuses 10 ≡ chain {A = Unit {0}} (list_rules l w) tt
    unfolding chain
    refuses_10 h = rw (kept e, sym (by_empty no_past) ∙ h) refl

    module _ (t : List ℕ) (count : ℕ) (f : AroundPlus l t) (g : AroundMinus l t) (c : count ≡ length (circuits_of l)) (some : empty_of w ≡ false) where
      pub refuses_8 : crossed_by w t count ≡ true → refuses 8 ≡ chain {A = Unit {0}} (list_rules l w) tt
      unfolding chain
      refuses_8 h = rw (kept e, sym (by_empty no_past) ∙ some, sym (by-crossing t count f g c) ∙ h) refl

      pub refuses_9 : Inner l t → crossed_by w t count ≡ false → open_by (count_of l) w t ≡ true → refuses 9 ≡ chain {A = Unit {0}} (list_rules l w) tt
      unfolding chain
      refuses_9 u h k = rw (kept e, sym (by_empty no_past) ∙ some, sym (by-crossing t count f g c) ∙ h, sym (by_open t u) ∙ k) refl

      pub gives_list : Inner l t → crossed_by w t count ≡ false → open_by (count_of l) w t ≡ false → gives tt ≡ chain {A = Unit {0}} (list_rules l w) tt
      unfolding chain
      gives_list u h k = rw (kept e, sym (by_empty no_past) ∙ some, sym (by-crossing t count f g c) ∙ h, sym (by_open t u) ∙ k) refl

pub accepted_solid : (l : List ℤ) (w : List ℕ) → list_refusal_of l w ≡ 0 → (past_last l w ≡ false) × (some_flat l w ≡ false)
unfolding list_refusal_of
accepted_solid l w e = or_parts (past_last l w) (some_flat l w) (refusal_keeps (record { number = 7; broken = past_last l w || some_flat l w }) _ (omega arith) e).0
