-- Pieces as masks, as the loops of the code go over them.
--
--   count_pieces, piece_by   how many pieces there are, and the piece of a rank, by formula
--   Reached k n r x a m p    the piece of rank r is the mask x, below bit a, and the list at place p among those of m of the numbers from a on; `reached_none`, `reached_more`, `reached_end`
--   rank_by                  the rank of a piece, by how many come after it
--   Passed n s t m y         t counts the pieces after s but for those after its last m numbers, the mask y; `passed_none`, `passed_some`, `passed_low`, `passed_more`, `passed_end`
--   RankedTo k n t r         t has the pieces of the ranks below r at their places; `ranked_more`
--   Front k n w out t r      out has, on its first t places, the pieces of the ranks below r that are in the list w; `front_none`, `front_on`, `front_more`
use mathlib.Core.Path.{◌≡◌, refl, sym, ◌∙◌, ap, subst}
use mathlib.Core.Bool.{Bool, true, false, cond}
use mathlib.Core.List.{List, [], ◌∷◌, ◌++◌, map, map-append, append-nil}
use Prim.Native.Nat.{ℕ, zero, suc, ◌+◌, ◌-◌, ◌^◌, ◌<◌, ◌≤◌}
use native.Mathlib.Omega.{arith}
use native.Mathlib.Decide.{ℕ_discrete}
use native.Mathlib.Numerals.{add-one}
use lib.Dec.{ltb}
use lib.Pow.{pow_mono}
use lib.ListN.{length, get_or, set, take}
use lib.Seq.{get_or-set_same, get_or-set_other, take-suc-set}
use Rattle.algebra.specs.Loops.{picks}
use Rattle.algebra.specs.Sets.{Within, mask_of, bit, set_of, lowest_of}
use Rattle.algebra.specs.Places.{choose, later_of, set_by}
use Rattle.algebra.specs.Words.{set_bit, clear_bit, member}
use Rattle.algebra.proofs.SetLaws.{within_cast, within_early}
use Rattle.algebra.proofs.SetTests.{picks_within}
use Rattle.algebra.proofs.BitOps.{bit_high, clear_low}
use Rattle.algebra.proofs.MaskLaws.{set_none, lowest_low, set_first, set_sum}
use Rattle.algebra.proofs.PlaceLaws.{sets_count, place_later, set-by}
use Rattle.triples.specs.Ranks.{piece_count, piece_at, rank_in}
use Rattle.triples.specs.Pieces.{piece_of, Piece}

pub count_pieces : (k n : ℕ) → piece_count k n ≡ choose n k
unfolding piece_count
count_pieces k n = sets_count k n

pub piece_by : (k n r : ℕ) → r < piece_count k n → piece_at k n r ≡ set_by k 0 n r
unfolding piece_at
piece_by k n r h = set-by k n r (omega (arith, count_pieces k n))

-- ---- from a rank to the mask

set_by_within : (k a m r : ℕ) → Within a (set_by k a m r) (a + m)
unfolding set_by
set_by_within zero a m r = tt
set_by_within (suc k) a zero r = tt
set_by_within (suc k) a (suc m) r = go (ltb r (choose m k)) (set_by_within k (a + 1) m r) (set_by_within (suc k) (a + 1) m (r - choose m k))
  where
    go : (b : Bool) → Within (a + 1) (set_by k (a + 1) m r) (a + 1 + m) → Within (a + 1) (set_by (suc k) (a + 1) m (r - choose m k)) (a + 1 + m)
        → Within a (cond b (a ∷ set_by k (a + 1) m r) (set_by (suc k) (a + 1) m (r - choose m k))) (a + suc m)
    go true v w = (omega arith, omega arith, within_cast (set_by k (a + 1) m r) refl (omega arith) v)
    go false v w =
        let s = set_by (suc k) (a + 1) m (r - choose m k) in
        within_early (a + 1) a (a + suc m) s (omega arith) (within_cast s refl (omega arith) w)

pub record Reached (k n r x a m p : ℕ) : Type 0 where
  pub low : x < 2 ^ a
  pub room : p < choose (n - a) m
  pub whole : x + mask_of (set_by m a (n - a) p) ≡ piece_of k n r

module _ (k n r : ℕ) where
  pub reached_none : r < piece_count k n → Reached k n r 0 0 k r
  unfolding piece_of
  reached_none h =
      let e : n - 0 ≡ n = omega arith in
      let c = ap (λ (x : ℕ). choose x k) e in
      let s = ap mask_of (ap (λ (x : ℕ). set_by k 0 x r) e ∙ sym (piece_by k n r h)) in
      record { low = omega arith; room = omega (arith, count_pieces k n); whole = omega arith }

  -- the first number of the list comes to the mask
  pub reached_more : {x a m p i q : ℕ} → Reached k n r x a (m + 1) p → q < choose (n - 1 - i) m → set_by (m + 1) a (n - a) p ≡ i ∷ set_by m (i + 1) (n - 1 - i) q → Reached k n r (set_bit x i) (i + 1) m q
  unfolding mask_of
  reached_more {x} {a} {m} {p} {i} {q} h l e =
      let w : Within a (i ∷ set_by m (i + 1) (n - 1 - i) q) (a + (n - a)) = subst (λ (s : List ℕ). Within a s (a + (n - a))) e (set_by_within (m + 1) a (n - a) p) in
      let z : n - (i + 1) ≡ n - 1 - i = omega arith in
      let c = ap (λ (y : ℕ). choose y m) z in
      let s = ap (λ (y : ℕ). mask_of (set_by m (i + 1) y q)) z in
      let below : x < 2 ^ i = omega (arith, h.low, pow_mono w.0) in
      let sum = set_sum x i (bit_high i x i below (omega arith)) in
      let next : 2 ^ (i + 1) ≡ 2 ^ suc i = ap (λ (y : ℕ). 2 ^ y) (add-one i) in
      record { low = omega arith; room = omega arith; whole = omega (arith, h.whole, ap mask_of e) }

  pub reached_end : {x a m p : ℕ} → m ≤ 0 → Reached k n r x a m p → x ≡ piece_of k n r
  unfolding mask_of set_by
  reached_end {x} {a} {m} {p} l h = omega (arith, h.whole, ap (λ (y : ℕ). mask_of (set_by y a (n - a) p)) (let z : m ≡ 0 = omega arith in z))

-- ---- from a mask to the rank

pub rank_by : (k n x : ℕ) → Piece k n x → rank_in k n (set_of n x) + suc (later_of n (set_of n x)) ≡ choose n k
unfolding rank_in
rank_by k n x h = place_later k n (set_of n x) (picks_within (bit x) n) h.1

pub record Passed (n : ℕ) (s : List ℕ) (t m y : ℕ) : Type 0 where
  pub low : y < 2 ^ n
  pub count : length (set_of n y) ≡ m
  pub whole : t + later_of n (set_of n y) ≡ later_of n s

pub passed_none : (k n x : ℕ) → Piece k n x → Passed n (set_of n x) 0 k x
passed_none k n x h = record { low = h.0; count = h.1; whole = omega arith }

module _ (n : ℕ) (s : List ℕ) {t m y : ℕ} (h : Passed n s t m y) where
  -- a number is left
  pub passed_some : 0 < m → y ≡ 0 → ⊥
  passed_some l e = let z : length (set_of n y) ≡ 0 = ap (λ (x : ℕ). length (set_of n x)) e ∙ ap length (set_none n) in omega (arith, h.count)

  -- the first of them is passed
  module _ (w : ℕ) (u : n ≤ w) (l : 0 < m) {i : ℕ} (e : i ≡ lowest_of w y) where
    pub passed_low : i < n
    passed_low = omega (arith, lowest_low w n y u h.low (passed_some l))

    pub passed_more : {c : ℕ} → c ≡ choose (n - 1 - i) m → Passed n s (t + c) (m - 1) (clear_bit y i)
    unfolding later_of
    passed_more {c} d =
        let f : set_of n y ≡ i ∷ set_of n (clear_bit y i) = subst (λ (j : ℕ). set_of n y ≡ j ∷ set_of n (clear_bit y j)) (sym e) (set_first w n y u h.low (passed_some l)) in
        let k = ap length f in
        let a = ap (later_of n) f in
        let b = ap (choose (n - 1 - i)) (sym k ∙ h.count) in
        record { low = clear_low n y i h.low; count = omega (arith, h.count); whole = omega (arith, h.whole) }

  pub passed_end : m ≤ 0 → t ≡ later_of n s
  unfolding later_of
  passed_end l = go (set_of n y) h.count h.whole
    where
      go : (r : List ℕ) → length r ≡ m → t + later_of n r ≡ later_of n s → t ≡ later_of n s
      go [] e q = omega arith
      go (i ∷ r) e q = absurd (omega arith)

-- ---- the pieces of all ranks, and those of a list

abbrev pub RankedTo : ℕ → ℕ → List ℕ → ℕ → Type 0
RankedTo k n t r = (q : ℕ) → q < r → get_or t q 0 ≡ piece_of k n q

pub ranked_more : (k n : ℕ) (t : List ℕ) (r : ℕ) {x : ℕ} → r < length t → RankedTo k n t r → x ≡ piece_of k n r → RankedTo k n (set t r x) (r + 1)
ranked_more k n t r {x} l h e q u = go (ℕ_discrete q r)
  where
    go : Dec (q ≡ r) → get_or (set t r x) q 0 ≡ piece_of k n q
    go (yes z) = ap (λ (j : ℕ). get_or (set t r x) j 0) z ∙ get_or-set_same t r x 0 l ∙ e ∙ ap (piece_of k n) (sym z)
    go (no z) = get_or-set_other t r q x 0 z ∙ h q (omega arith)

-- the front of out, its first t places: the pieces of the ranks below r that are in the list w
pub record Front (k n : ℕ) (w out : List ℕ) (t r : ℕ) : Type 0 where
  pub few : t ≤ r
  pub front : take t out ≡ map (piece_of k n) (picks r (member w))

module _ (k n : ℕ) (w : List ℕ) where
  pub front_none : (out : List ℕ) → Front k n w out 0 0
  unfolding picks
  front_none out = record { few = omega arith; front = refl }

  pub front_on : (out : List ℕ) (t r : ℕ) → member w r ≡ false → Front k n w out t r → Front k n w out t (r + 1)
  unfolding picks
  front_on out t r m h = record { few = omega (arith, h.few); front = h.front ∙ sym (rw (add-one, m) (ap (map (piece_of k n)) (append-nil (picks r (member w))))) }

  pub front_more : (out : List ℕ) (t r : ℕ) {x : ℕ} → t < length out → member w r ≡ true → Front k n w out t r → x ≡ piece_of k n r → Front k n w (set out t x) (t + 1) (r + 1)
  unfolding picks
  front_more out t r {x} l m h e =
      record {
        few = omega (arith, h.few);
        front = rw (add-one t, add-one r, m) (take-suc-set out t x l ∙ (λ i. h.front i ++ e i ∷ []) ∙ sym (map-append (piece_of k n) (picks r (member w)) (r ∷ [])));
      }
