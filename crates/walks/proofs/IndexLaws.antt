-- The index that a run keeps over the rows of its table: what it finds, and that it stays the index of the rows when one is added.
--
--   latest_same                     the last row of a place is the same in tables with the same rows
--   seen_latest                     a list is one of the first rows exactly if it is one of those up to the last one of its place
--   Chained t c w n                 w is one of the first c rows exactly if it is one of the first n, and the last of these has its place
--   chained-first, chained_next     so it is with what stands at the place of w; and then with the link of row n - 1, where that row is not w
--   chained_less                    the links go down
--   chained_found, chained_end      a row that is w is found; where the links end, none is
--   indexed_none                    the index of no row
--   indexed_kept                    the index of the rows in use is still theirs where the next row is written
--   noted_in, noted_out             it is the index of a row more once that is put in, or where it is not covered
--   noted_by, noted_past          so the code puts it in, or leaves the index as it is
--   indexed_noted                   the index of the rows in use, with the next one put in, is that of a row more
--   indexed_placed                  so it is where that row is written
use Rattle.std.specs.Prelude.{◌≡◌, ℕ, zero, suc, ◌+◌, ◌-◌, ◌*◌, ◌%◌, ◌<◌, ◌≤◌, Bool, true, false, cond, ◌||◌, eqb, ltb, List, [], ◌∷◌, length, get_or, set, replicate}
use mathlib.Core.Path.{refl, sym, ◌∙◌, ap, subst}
use mathlib.Core.Bool.{or-false}
use native.Mathlib.Omega.{arith}
use native.Mathlib.Nat.{mod-lt, min-eq_left, min-eq_right}
use native.Mathlib.Numerals.{add-one}
use native.Mathlib.Decide.{dec_lt, ℕ_discrete}
use lib.ListN.{length-set, length-replicate, get_or-replicate}
use lib.Seq.{get_or-set_same, get_or-set_other}
use borrow.Author.Tests.{eq-eqb, ne_eqb, lt-ltb, le-ltb}
use Rattle.algebra.specs.Sets.{same_list}
use Rattle.algebra.specs.Words.{row_of, set_row}
use Rattle.algebra.proofs.AnswerLaws.{reflects_false}
use Rattle.algebra.proofs.LoopLaws.{any_last}
use Rattle.algebra.proofs.SetTests.{reflects_same}
use Rattle.algebra.proofs.WordLaws.{row_same, row_other}
use Rattle.reach.specs.Walks.{seen_in}
use Rattle.reach.proofs.StepLaws.{seen_at, unseen_all}
use Rattle.triples.specs.Sizes.{word_count}
use Rattle.walks.specs.Index.{spots, indexed_most, spot_from, spot_of, latest_of, covered_of, noted_of, Indexed}

-- ---- the place of a list

from_below : (a : ℕ) (w : List ℕ) → a < spots → spot_from a w < spots
from_below a [] h = h
from_below a (x ∷ w) h = from_below ((a * 32 + x % spots) % spots) w (mod-lt (a * 32 + x % spots) (omega arith))

spot_below : (w : List ℕ) → spot_of w < spots
unfolding spot_of
spot_below w = from_below 0 w (omega arith)

-- ---- the last row of a place

module _ (t : List ℕ) (s : ℕ) where
  latest_here : (m : ℕ) → spot_of (row_of word_count t m) ≡ s → latest_of t s (suc m) ≡ suc m
  unfolding latest_of
  latest_here m e = rw (eq-eqb _ _ e)

  latest_else : (m : ℕ) → (spot_of (row_of word_count t m) ≡ s → ⊥) → latest_of t s (suc m) ≡ latest_of t s m
  unfolding latest_of
  latest_else m ne = rw (ne_eqb _ _ ne)

  latest_none : latest_of t s 0 ≡ 0
  unfolding latest_of
  latest_none = refl

  latest_most : (m : ℕ) → latest_of t s m ≤ m
  latest_most zero = omega (arith, latest_none)
  latest_most (suc m) = go (ℕ_discrete (spot_of (row_of word_count t m)) s) (latest_most m)
    where
      go : Dec (spot_of (row_of word_count t m) ≡ s) → latest_of t s m ≤ m → latest_of t s (suc m) ≤ suc m
      go (yes e) h = omega (arith, latest_here m e)
      go (no ne) h = omega (arith, latest_else m ne)

  latest_spot : (m : ℕ) → 0 < latest_of t s m → spot_of (row_of word_count t (latest_of t s m - 1)) ≡ s
  latest_spot zero h = absurd (omega (arith, latest_none))
  latest_spot (suc m) h = go (ℕ_discrete (spot_of (row_of word_count t m)) s) (latest_spot m)
    where
      go : Dec (spot_of (row_of word_count t m) ≡ s) → (0 < latest_of t s m → spot_of (row_of word_count t (latest_of t s m - 1)) ≡ s) → spot_of (row_of word_count t (latest_of t s (suc m) - 1)) ≡ s
      go (yes e) ih = ap (λ (p : ℕ). spot_of (row_of word_count t p)) (let l = latest_here m e in let z : latest_of t s (suc m) - 1 ≡ m = omega arith in z) ∙ e
      go (no ne) ih = let l = latest_else m ne in ap (λ (p : ℕ). spot_of (row_of word_count t (p - 1))) l ∙ ih (omega arith)

pub latest_same : (t u : List ℕ) (s m : ℕ) → ((q : ℕ) → q < m → row_of word_count u q ≡ row_of word_count t q) → latest_of u s m ≡ latest_of t s m
unfolding latest_of
latest_same t u s zero h = refl
latest_same t u s (suc m) h = λ i. cond (eqb (spot_of (h m (omega arith) i)) s) (suc m) (latest_same t u s m (λ q l. h q (omega arith)) i)

-- ---- a list among the rows

module _ (t w : List ℕ) where
  seen_more : (m : ℕ) → seen_in word_count t (suc m) w ≡ (seen_in word_count t m w || same_list (row_of word_count t m) w)
  unfolding seen_in
  seen_more m = any_last (λ p. same_list (row_of word_count t p) w) m

  seen_past : (m : ℕ) → same_list (row_of word_count t m) w ≡ false → seen_in word_count t (suc m) w ≡ seen_in word_count t m w
  seen_past m e = seen_more m ∙ ap (λ (b : Bool). seen_in word_count t m w || b) e ∙ or-false (seen_in word_count t m w)

  pub seen_latest : (m : ℕ) → seen_in word_count t m w ≡ seen_in word_count t (latest_of t (spot_of w) m) w
  seen_latest zero = ap (λ (n : ℕ). seen_in word_count t n w) (sym (latest_none t (spot_of w)))
  seen_latest (suc m) = go (ℕ_discrete (spot_of (row_of word_count t m)) (spot_of w)) (seen_latest m)
    where
      go : Dec (spot_of (row_of word_count t m) ≡ spot_of w) → seen_in word_count t m w ≡ seen_in word_count t (latest_of t (spot_of w) m) w
          → seen_in word_count t (suc m) w ≡ seen_in word_count t (latest_of t (spot_of w) (suc m)) w
      go (yes e) ih = ap (λ (n : ℕ). seen_in word_count t n w) (sym (latest_here t (spot_of w) m e))
      go (no ne) ih =
          seen_past m (reflects_false (reflects_same (row_of word_count t m) w) (λ q. ne (ap spot_of q))) ∙ ih
          ∙ ap (λ (n : ℕ). seen_in word_count t n w) (sym (latest_else t (spot_of w) m ne))

-- ---- along the links

pub record Chained (t : List ℕ) (covered : ℕ) (w : List ℕ) (next : ℕ) : Type 0 where
  pub most : next ≤ covered
  pub same : seen_in word_count t covered w ≡ seen_in word_count t next w
  pub spot : 0 < next → spot_of (row_of word_count t (next - 1)) ≡ spot_of w

module _ (t w : List ℕ) (c : ℕ) where
  chained_latest : (m n : ℕ) → m ≤ c → seen_in word_count t c w ≡ seen_in word_count t m w → n ≡ latest_of t (spot_of w) m → Chained t c w n
  chained_latest m n h e q =
      record {
        most = omega (arith, latest_most t (spot_of w) m);
        same = e ∙ seen_latest t w m ∙ ap (λ (n : ℕ). seen_in word_count t n w) (sym q);
        spot = λ l. ap (λ (n : ℕ). spot_of (row_of word_count t (n - 1))) q ∙ latest_spot t (spot_of w) m (omega arith);
      }

  pub chained_found : (n : ℕ) {b : Bool} → 0 < n → b ≡ same_list (row_of word_count t (n - 1)) w → b ≡ true → Chained t c w n → seen_in word_count t c w ≡ true
  chained_found n l e q h = h.same ∙ seen_at word_count t n w (n - 1) (omega arith) (sym e ∙ q)

  pub chained_end : (n : ℕ) → n ≤ 0 → Chained t c w n → seen_in word_count t c w ≡ false
  chained_end n l h = h.same ∙ unseen_all word_count t n w (λ p m. absurd (omega arith))

module _ (t w x : List ℕ) (rows : ℕ) (index : Indexed t rows x) where
  pub chained-first : (s : ℕ) → s ≡ spot_of w → Chained t (covered_of rows) w (get_or x s 0)
  chained-first s e =
      chained_latest t w (covered_of rows) (covered_of rows) (get_or x s 0) (omega arith) refl
      (ap (λ (s : ℕ). get_or x s 0) e ∙ index.heads (spot_of w) (spot_below w))

  pub chained_next : (n : ℕ) {b : Bool} → 0 < n → b ≡ same_list (row_of word_count t (n - 1)) w → b ≡ false → Chained t (covered_of rows) w n → Chained t (covered_of rows) w (get_or x (spots + (n - 1)) 0)
  chained_next n l e q h =
      chained_latest t w (covered_of rows) (n - 1) (get_or x (spots + (n - 1)) 0) (let m = h.most in omega arith)
      (h.same ∙ ap (λ (m : ℕ). seen_in word_count t m w) (let z : n ≡ suc (n - 1) = omega arith in z) ∙ seen_past t w (n - 1) (sym e ∙ q))
      (index.links (n - 1) (let m = h.most in omega arith) ∙ ap (λ (s : ℕ). latest_of t s (n - 1)) (h.spot l))

  pub chained_less : (n : ℕ) → 0 < n → Chained t (covered_of rows) w n → get_or x (spots + (n - 1)) 0 < n
  chained_less n l h =
      let m = h.most in
      let e = index.links (n - 1) (omega arith) in
      omega (arith, latest_most t (spot_of (row_of word_count t (n - 1))) (n - 1))

-- ---- how many rows are covered

covered_in : (n : ℕ) → n ≤ indexed_most → covered_of n ≡ n
covered_in n h = min-eq_left h

covered_out : (n : ℕ) → indexed_most ≤ n → covered_of n ≡ indexed_most
covered_out n h = min-eq_right h

pub indexed_none : (t : List ℕ) → Indexed t 0 (replicate (spots + indexed_most) 0)
indexed_none t =
    record {
      room = length-replicate {A = ℕ} (spots + indexed_most) 0;
      heads = λ s h. get_or-replicate {A = ℕ} (spots + indexed_most) s 0 0 (omega arith) ∙ sym (latest_none t s);
      links = λ p h. absurd (omega arith);
    }

-- ---- a table with the same rows in use

module _ (t u x : List ℕ) (n : ℕ) (index : Indexed t n x) (before : (q : ℕ) → q < n → row_of word_count u q ≡ row_of word_count t q) where
  -- the link of row p is the same in both tables
  same_link : (p : ℕ) → p < n → latest_of t (spot_of (row_of word_count t p)) p ≡ latest_of u (spot_of (row_of word_count u p)) p
  same_link p l =
      ap (λ (r : List ℕ). latest_of t (spot_of r) p) (sym (before p l))
      ∙ sym (latest_same t u (spot_of (row_of word_count u p)) p (λ q m. before q (omega arith)))

  indexed_same : Indexed u n x
  indexed_same =
      record {
        room = index.room;
        heads = λ s l. index.heads s l ∙ sym (latest_same t u s (covered_of n) (λ q m. before q (omega arith)));
        links = λ p l. index.links p l ∙ same_link p (omega arith);
      }

pub indexed_kept : (t w x : List ℕ) (n : ℕ) → Indexed t n x → length w ≡ word_count → Indexed (set_row t n w) n x
indexed_kept t w x n index e = indexed_same t (set_row t n w) x n index (λ q l. row_other word_count t n q w e (λ z. omega arith))

-- ---- a row more

module _ (t w x : List ℕ) (n : ℕ) (index : Indexed t n x) where
  abbrev linked : List ℕ
  linked = set x (spots + n) (get_or x (spot_of w) 0)

  noted_covered : n < indexed_most → row_of word_count t n ≡ w → Indexed t (suc n) (set linked (spot_of w) (suc n))
  noted_covered h e =
      record {
        room = length-set linked (spot_of w) (suc n) ∙ length-set x (spots + n) (get_or x (spot_of w) 0) ∙ index.room;
        heads = λ s l. head s l (ℕ_discrete s (spot_of w)) ∙ ap (latest_of t s) (sym (covered_in (suc n) h));
        links = λ p l. link p (let z = covered_in (suc n) h in omega arith) (ℕ_discrete p n);
      }
    where
      here : spot_of (row_of word_count t n) ≡ spot_of w
      here = ap spot_of e

      old : (s : ℕ) → s < spots → get_or x s 0 ≡ latest_of t s n
      old s l = index.heads s l ∙ ap (latest_of t s) (covered_in n (omega arith))

      head : (s : ℕ) → s < spots → Dec (s ≡ spot_of w) → get_or (set linked (spot_of w) (suc n)) s 0 ≡ latest_of t s (suc n)
      head s l (yes z) =
          ap (λ (j : ℕ). get_or (set linked (spot_of w) (suc n)) j 0) z
          ∙ get_or-set_same linked (spot_of w) (suc n) 0 (let a = length-set x (spots + n) (get_or x (spot_of w) 0) in let b = index.room in let d = spot_below w in omega arith)
          ∙ sym (latest_here t s n (here ∙ sym z))
      head s l (no ne) =
          get_or-set_other linked (spot_of w) s (suc n) 0 ne
          ∙ get_or-set_other x (spots + n) s (get_or x (spot_of w) 0) 0 (λ z. omega arith)
          ∙ old s l ∙ sym (latest_else t s n (λ z. ne (sym z ∙ here)))

      link : (p : ℕ) → p < suc n → Dec (p ≡ n) → get_or (set linked (spot_of w) (suc n)) (spots + p) 0 ≡ latest_of t (spot_of (row_of word_count t p)) p
      link p l d = get_or-set_other linked (spot_of w) (spots + p) (suc n) 0 (λ z. omega (arith, spot_below w)) ∙ go d
        where
          go : Dec (p ≡ n) → get_or linked (spots + p) 0 ≡ latest_of t (spot_of (row_of word_count t p)) p
          go (yes z) =
              ap (λ (j : ℕ). get_or linked (spots + j) 0) z
              ∙ get_or-set_same x (spots + n) (get_or x (spot_of w) 0) 0 (let b = index.room in omega arith)
              ∙ old (spot_of w) (spot_below w) ∙ ap (λ (s : ℕ). latest_of t s n) (sym here) ∙ ap (λ (j : ℕ). latest_of t (spot_of (row_of word_count t j)) j) (sym z)
          go (no ne) =
              get_or-set_other x (spots + n) (spots + p) (get_or x (spot_of w) 0) 0 (λ z. ne (omega arith))
              ∙ index.links p (let z = covered_in n (omega arith) in omega arith)

  -- as the code puts it in, with s its place
  pub noted_in : (s : ℕ) → s ≡ spot_of w → n < indexed_most → row_of word_count t n ≡ w → Indexed t (n + 1) (set (set x (spots + n) (get_or x s 0)) s (n + 1))
  noted_in s q h e = subst (λ (m : ℕ). Indexed t m (set (set x (spots + n) (get_or x s 0)) s m)) (sym (add-one n)) (subst (λ (s : ℕ). Indexed t (suc n) (set (set x (spots + n) (get_or x s 0)) s (suc n))) (sym q) (noted_covered h e))

  pub noted_out : indexed_most ≤ n → Indexed t (n + 1) x
  noted_out h =
      record {
        room = index.room;
        heads = λ s l. index.heads s l ∙ ap (latest_of t s) same;
        links = λ p l. index.links p (subst (λ (m : ℕ). p < m) (sym same) l);
      }
    where
      same : covered_of n ≡ covered_of (n + 1)
      same = covered_out n h ∙ sym (covered_out (n + 1) (omega arith))

-- what the code leaves of the index, with s the place of the row's words
module _ (x w : List ℕ) (n : ℕ) where
  pub noted_by : (s : ℕ) → s ≡ spot_of w → n < indexed_most → set (set x (spots + n) (get_or x s 0)) s (n + 1) ≡ noted_of x n w
  unfolding noted_of
  noted_by s q l =
      (λ i. set (set x (spots + n) (get_or x (q i) 0)) (q i) (add-one n i))
      ∙ ap (λ (b : Bool). cond b (set (set x (spots + n) (get_or x (spot_of w) 0)) (spot_of w) (suc n)) x) (sym (lt-ltb n indexed_most l))

  pub noted_past : indexed_most ≤ n → x ≡ noted_of x n w
  unfolding noted_of
  noted_past l = ap (λ (b : Bool). cond b (set (set x (spots + n) (get_or x (spot_of w) 0)) (spot_of w) (suc n)) x) (sym (le-ltb n indexed_most l))

-- u has the rows of t in use, and the next one: the words w
module _ (t u w x : List ℕ) (n : ℕ) (index : Indexed t n x) (before : (q : ℕ) → q < n → row_of word_count u q ≡ row_of word_count t q) where
  pub indexed_noted : row_of word_count u n ≡ w → Indexed u (n + 1) (noted_of x n w)
  indexed_noted e = go (dec_lt n indexed_most)
    where
      kept : Indexed u n x
      kept = indexed_same t u x n index before

      go : Dec (n < indexed_most) → Indexed u (n + 1) (noted_of x n w)
      go (yes l) = subst (Indexed u (n + 1)) (noted_by x w n (spot_of w) refl l) (noted_in u w x n kept (spot_of w) refl l e)
      go (no l) = let m : indexed_most ≤ n = omega arith in subst (Indexed u (n + 1)) (noted_past x w n m) (noted_out u w x n kept m)

pub indexed_placed : (t w x : List ℕ) (n : ℕ) → Indexed t n x → length w ≡ word_count → word_count * n + word_count ≤ length t → Indexed (set_row t n w) (n + 1) (noted_of x n w)
indexed_placed t w x n index e h =
    indexed_noted t (set_row t n w) w x n index (λ q l. row_other word_count t n q w e (λ z. omega arith)) (row_same word_count t n w e h)
