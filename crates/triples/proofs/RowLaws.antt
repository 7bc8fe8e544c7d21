-- Rows of a table. A loop that writes the rows of a table from row a on, one after the other, and the rows that stand below.
--
--   row_is, row_put    a row is a part of the table; that part written is the row written
--   written_none, written_more, written_end    where it begins, one row more, where it ends
--   put_below      a row is written: those below it stay
--   rows_kept      where the rows below a stay, so does what is known of the first n, for n up to a
use mathlib.Core.Path.{◌≡◌, refl, sym, ◌∙◌, ap}
use mathlib.Core.Logic.{⊎_elim}
use mathlib.Core.List.{List}
use Prim.Native.Nat.{ℕ, zero, suc, ◌+◌, ◌-◌, ◌*◌, ◌<◌, ◌≤◌}
use native.Mathlib.Omega.{arith}
use native.Mathlib.Numerals.{add-one}
use lib.ListN.{length, get_or, set}
use lib.Seq.{paste, paste-zero, paste-suc, ext_get_or}
use borrow.Rule.Slice.PartMut.{put_mid}
use Rattle.std.specs.List.{between}
use Rattle.std.proofs.lemmas.List.Edits.{length-between, get_or-between}
use Rattle.std.proofs.lemmas.Slice.{put_mid-paste}
use Rattle.algebra.specs.Loops.{fold}
use Rattle.algebra.specs.Words.{row_of, set_row}
use Rattle.algebra.proofs.LoopLaws.{last}
use Rattle.algebra.proofs.WordLaws.{row-length, row_at, set_row-length, row_same, row_other}
use Rattle.triples.specs.Sizes.{word_count}
use Rattle.triples.specs.Sets.{Rows, SameBelow, Written}

-- ---- a row as a part of the table

pub row_is : (k : ℕ) (t : List ℕ) (p : ℕ) → k * p + k ≤ length t → between (k * p) (k * p + k) t ≡ row_of k t p
row_is k t p h =
    ext_get_or 0 (between (k * p) (k * p + k) t) (row_of k t p) (long ∙ sym (row-length k t p))
    (λ i l. let u : i < k = omega (arith, long) in get_or-between t (k * p) (k * p + k) i 0 (omega arith) ∙ sym (row_at k t p i u))
  where
    long : length (between (k * p) (k * p + k) t) ≡ k
    long = omega (arith, length-between t (k * p) (k * p + k) h)

-- the first n words of w, written from place a on, one after the other
pasted : (a : ℕ) (t w : List ℕ) (n : ℕ) → a + n ≤ length t → n ≤ length w → fold (λ i u. set u (a + i) (get_or w i 0)) t n ≡ paste t a w n
unfolding fold
pasted a t w zero h l = paste-zero t a w
pasted a t w (suc n) h l = ap (λ (u : List ℕ). set u (a + n) (get_or w n 0)) (pasted a t w n (omega arith) (omega arith)) ∙ paste-suc t a w n 0 (omega arith) (omega arith)

pub row_put : (t : List ℕ) (p : ℕ) (w : List ℕ) {v : List ℕ} → v ≡ w → length w * p + length w ≤ length t → put_mid (length w * p) (length w * p + length w - length w * p) t v ≡ set_row t p w
unfolding set_row
row_put t p w e h = put_mid-paste (length w * p) _ t _ w (length w) e (omega arith) refl ∙ sym (pasted (length w * p) t w (length w) h (omega arith))

-- ---- a loop over the rows

module _ (a : ℕ) (f : ℕ → List ℕ) where
  pub written_none : (t : List ℕ) → Written a 0 f t t
  written_none t = record { lengths = refl; here = λ p h. absurd (no p h); there = λ p h. refl }
    where
      no : (p : ℕ) → p < 0 → ⊥
      no p h = omega arith

  -- `e : w ≡ f k` is what the callee says of its answer
  pub written_more : (t₀ t : List ℕ) (k : ℕ) {w u : List ℕ} → length w ≡ word_count → word_count * (a + k) + word_count ≤ length t → w ≡ f k → u ≡ set_row t (a + k) w
      → Written a k f t₀ t → Written a (k + 1) f t₀ u
  written_more t₀ t k {w} {u} l h e q g =
      record {
        lengths = ap length q ∙ set_row-length t (a + k) w ∙ g.lengths;
        here = λ p s. ap (λ (v : List ℕ). row_of word_count v (a + p)) q ∙ ⊎_elim (old p) (new p) (last p k (rw add-one at s));
        there = λ p s. ap (λ (v : List ℕ). row_of word_count v p) q ∙ row_other word_count t (a + k) p w l (λ z. omega arith) ∙ g.there p s;
      }
    where
      old : (p : ℕ) → p < k → row_of word_count (set_row t (a + k) w) (a + p) ≡ f p
      old p s = row_other word_count t (a + k) (a + p) w l (λ z. omega arith) ∙ g.here p s

      new : (p : ℕ) → p ≡ k → row_of word_count (set_row t (a + k) w) (a + p) ≡ f p
      new p z = ap (λ (x : ℕ). row_of word_count (set_row t (a + k) w) (a + x)) z ∙ row_same word_count t (a + k) w l h ∙ e ∙ ap f (sym z)

  pub written_end : (t₀ t : List ℕ) (k n : ℕ) → n ≤ k → Written a k f t₀ t → Written a n f t₀ t
  written_end t₀ t k n h g = record { lengths = g.lengths; here = λ p s. g.here p (omega arith); there = g.there }

pub put_below : (a : ℕ) (t w : List ℕ) {u : List ℕ} → length w ≡ word_count → u ≡ set_row t a w → SameBelow a t u
put_below a t w l q p h = ap (λ (v : List ℕ). row_of word_count v p) q ∙ row_other word_count t a p w l (λ z. omega arith)

pub rows_kept : (a n : ℕ) (f : ℕ → List ℕ) (t u : List ℕ) → n ≤ a → SameBelow a t u → Rows t n f → Rows u n f
rows_kept a n f t u h s g p k = s p (omega arith) ∙ g p k
