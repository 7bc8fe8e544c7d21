-- Triples and their ranks: each triple has one rank, each rank one triple, in lexicographic order.
--
--   triple_at_within    what has a rank is a triple of the shots
--   triple_shots        its three numbers are shots; `triple_order`: in order
--   triple_past, past_off    past the last rank there is none, and no shot is in it
--   rank_of_triple      the rank of the triple of rank r is r
--   triple_of_rank      the triple s has a rank, and the triple of that rank is s
--   rank_order          ranks are in the order of their triples
--   count-choose        how many triples there are, by formula
--   rank_later          the rank of a triple, by formula: how many triples come after it
--   triple_by           the triple of rank r, by formula
--   triple-first, triple_next    the first triple, and from one to the next
--   Ranked n r s        s is the triple of rank r, where there is one; `ranked-first`, `ranked_next`: a loop that goes from a triple to the next one
--   next_third, next_second, next_all    the next triple, by the last of its shots that can be greater
--   triples_few         no patch has more than `triples_most` triples
--   rank_room           the words of a list have room for every rank
--
-- Source: document 01, "What a surface is".
use mathlib.Core.Path.{◌≡◌, refl, sym, ◌∙◌, ap, subst}
use mathlib.Core.Logic.{◌↔◌}
use mathlib.Core.Bool.{false}
use mathlib.Core.List.{List, [], ◌∷◌}
use Prim.Native.Nat.{ℕ, suc, ◌+◌, ◌-◌, ◌*◌, ◌<◌, ◌≤◌}
use native.Mathlib.Omega.{arith}
use native.Mathlib.Decide.{dec_lt}
use lib.ListN.{length, get_or-eq_default}
use borrow.Author.Tests.{eq-eqb, ne_eqb}
use Rattle.algebra.specs.Sets.{is_on, Within, Lex}
use Rattle.algebra.specs.Places.{choose, later_of, set_by, up_from, is_last, next_of}
use Rattle.algebra.specs.Words.{word_bits}
use Rattle.algebra.proofs.SetTests.{set_at, place_in, place_at, place_lex}
use Rattle.algebra.proofs.ChooseLaws.{choose_none, choose_one, choose_grows}
use Rattle.algebra.proofs.PlaceLaws.{sets_count, place_later, set-by, set_first, next_place}
use Rattle.shots.specs.Sizes.{shots_most}
use Rattle.triples.specs.Sizes.{word_count, triples_most}
use Rattle.triples.specs.Ranks.{triples_of, triple_count, triple_at, rank_of}

pub triple_at_within : (n r : ℕ) → r < triple_count n → Within 0 (triple_at n r) n × (length (triple_at n r) ≡ 3)
unfolding triple_count triple_at
triple_at_within n r h = set_at 3 n r h

pub triple_shots : (n r : ℕ) {i j k : ℕ} → r < triple_count n → i ∷ j ∷ k ∷ [] ≡ triple_at n r → (i < n) × (j < n) × (k < n)
triple_shots n r {i} {j} {k} h e =
    let w : Within 0 (i ∷ j ∷ k ∷ []) n = subst (λ (s : List ℕ). Within 0 s n) (sym e) (triple_at_within n r h).0 in
    (w.1, w.2.1, w.2.2.1)

pub triple_order : (n r : ℕ) {i j k : ℕ} → r < triple_count n → i ∷ j ∷ k ∷ [] ≡ triple_at n r → (i < j) × (j < k) × (k < n)
triple_order n r {i} {j} {k} h e =
    let w : Within 0 (i ∷ j ∷ k ∷ []) n = subst (λ (s : List ℕ). Within 0 s n) (sym e) (triple_at_within n r h).0 in
    (let l = w.2.0 in omega arith, let l = w.2.2.0 in omega arith, w.2.2.1)

pub triple_past : (n r : ℕ) → triple_count n ≤ r → triple_at n r ≡ []
unfolding triple_count triple_at
triple_past n r h = get_or-eq_default (triples_of n) [] h

pub past_off : (n r k : ℕ) → triple_count n ≤ r → is_on k (triple_at n r) ≡ false
unfolding is_on
past_off n r k h = ap (is_on k) (triple_past n r h)

pub rank_of_triple : (n r : ℕ) → r < triple_count n → rank_of n (triple_at n r) ≡ r
unfolding triple_count triple_at rank_of
rank_of_triple n r h = place_at 3 n r h

pub triple_of_rank : (n : ℕ) (s : List ℕ) → Within 0 s n → length s ≡ 3 → (rank_of n s < triple_count n) × (triple_at n (rank_of n s) ≡ s)
unfolding triple_count triple_at rank_of
triple_of_rank n s w e = place_in 3 n s w e

pub rank_order : (n : ℕ) (s t : List ℕ) → Within 0 s n → length s ≡ 3 → Within 0 t n → length t ≡ 3 → (rank_of n s < rank_of n t) ↔ Lex s t
unfolding rank_of
rank_order n s t v e w q = place_lex 3 n s t v e w q

-- ---- by formula: algebra's laws for lists of any length, read for three

pub count-choose : (n : ℕ) → triple_count n ≡ choose n 3
unfolding triple_count
count-choose n = sets_count 3 n

pub rank_later : (n i j k : ℕ) → i < j → j < k → k < n → rank_of n (i ∷ j ∷ k ∷ []) + suc (choose (n - 1 - i) 3 + choose (n - 1 - j) 2 + (n - 1 - k)) ≡ triple_count n
unfolding rank_of later_of
rank_later n i j k h l u =
    let e = place_later 3 n (i ∷ j ∷ k ∷ []) (omega arith, omega arith, (omega arith, omega arith, (omega arith, u, tt))) refl in
    omega (arith, count-choose n, choose_one (n - 1 - k))

pub triple_by : (n r : ℕ) → r < triple_count n → triple_at n r ≡ set_by 3 0 n r
unfolding triple_at
triple_by n r h = set-by 3 n r (omega (arith, count-choose n))

pub triple-first : (n : ℕ) → 0 < triple_count n → triple_at n 0 ≡ 0 ∷ 1 ∷ 2 ∷ []
unfolding triple_at up_from
triple-first n h = go (dec_lt n 3)
  where
    go : Dec (n < 3) → triple_at n 0 ≡ 0 ∷ 1 ∷ 2 ∷ []
    go (yes l) = absurd (let e = choose_none n 3 l in omega (arith, count-choose n))
    go (no l) = set_first 3 n (omega arith)

pub triple_next : (n r : ℕ) → r + 1 < triple_count n → next_of n (triple_at n r) ≡ triple_at n (r + 1)
unfolding triple_count triple_at
triple_next n r h = next_place 3 n r h

abbrev pub Ranked : ℕ → ℕ → List ℕ → Type 0
Ranked n r s = r < triple_count n → s ≡ triple_at n r

pub ranked-first : (n : ℕ) → Ranked n 0 (0 ∷ 1 ∷ 2 ∷ [])
ranked-first n h = sym (triple-first n h)

pub ranked_next : (n r : ℕ) {s u : List ℕ} → Ranked n r s → u ≡ next_of n s → Ranked n (r + 1) u
ranked_next n r p q h = q ∙ ap (next_of n) (p (omega arith)) ∙ triple_next n r h

-- the triple after i < j < k, by the last of its shots that can be greater
module _ (n i j k : ℕ) (h : i < j) (l : j < k) (u : k < n) where
  pub next_third : k + 1 < n → i ∷ j ∷ (k + 1) ∷ [] ≡ next_of n (i ∷ j ∷ k ∷ [])
  unfolding next_of is_last up_from
  next_third m = rw (ne_eqb (j + 2) n (λ e. omega arith), ne_eqb (k + 1) n (λ e. omega arith)) refl

  pub next_second : n ≤ k + 1 → j + 2 < n → i ∷ (j + 1) ∷ (j + 2) ∷ [] ≡ next_of n (i ∷ j ∷ k ∷ [])
  unfolding next_of is_last up_from
  next_second m p = rw (ne_eqb (j + 2) n (λ e. omega arith), eq-eqb (k + 1) n (omega arith)) (ap (λ (x : ℕ). i ∷ (j + 1) ∷ x ∷ []) (let e : j + 2 ≡ j + 1 + 1 = omega arith in e))

  pub next_all : n ≤ j + 2 → (i + 1) ∷ (i + 2) ∷ (i + 3) ∷ [] ≡ next_of n (i ∷ j ∷ k ∷ [])
  unfolding next_of is_last up_from
  next_all p = rw (eq-eqb (j + 2) n (omega arith)) (λ z. (i + 1) ∷ (let e : i + 2 ≡ i + 1 + 1 = omega arith in e) z ∷ (let e : i + 3 ≡ i + 1 + 1 + 1 = omega arith in e) z ∷ [])

pub triples_few : (n : ℕ) → n ≤ shots_most → triple_count n ≤ triples_most
unfolding choose
triples_few n h = omega (arith, count-choose n, choose_grows n shots_most 3 h)

pub rank_room : (n r : ℕ) {count : ℕ} → n ≤ shots_most → count ≡ triple_count n → r < count → r < word_bits * word_count
rank_room n r h e l = omega (arith, triples_few n h)
