-- The table that is made from the circuits' sides, once its rows are written part by part.
--
--   put_here, put_other      a row is written: it is there, and every other row stays
--   around_more      the rows around the sides of one circuit more, behind those of the first k
--   all_prepared     all of the table
use Rattle.std.specs.Prelude.{◌≡◌, ℕ, ◌+◌, ◌*◌, ◌<◌, ◌≤◌, List, length, map, ℤ}
use mathlib.Core.Path.{sym, ◌∙◌, ap}
use mathlib.Core.Logic.{⊎_elim}
use native.Mathlib.Omega.{arith}
use native.Mathlib.Numerals.{add-one}
use Rattle.algebra.specs.Words.{row_of, set_row}
use Rattle.algebra.proofs.LoopLaws.{last}
use Rattle.algebra.proofs.WordLaws.{row_same, row_other, set_row-length}
use Rattle.shots.specs.Sizes.{shots_most}
use Rattle.shots.specs.Patch.{count_of}
use Rattle.circuits.specs.Sizes.{circuits_most}
use Rattle.circuits.specs.declared.Sides.{Sides}
use Rattle.circuits.specs.Sides.{masks}
use Rattle.circuits.specs.Numbering.{circuits_of}
use Rattle.circuits.specs.Calls.{circuit_at}
use Rattle.circuits.proofs.Bounds.{circuits-most}
use Rattle.circuits.proofs.FoundLaws.{found_count, found_at}
use Rattle.triples.specs.Sizes.{word_count}
use Rattle.triples.specs.Sets.{full_of, around_of, SameBelow, Holding}
use Rattle.triples.proofs.RowLaws.{put_below}
use Rattle.lists.specs.Held.{solid_of, sides_at, plus_row, minus_row, inner_first, inner_row, solid_row, held_rows, Around, Inner, Prepared}

module _ (t : List ℕ) (a : ℕ) (w : List ℕ) {u : List ℕ} (n : length w ≡ word_count) (q : u ≡ set_row t a w) where
  put_here : word_count * a + word_count ≤ length t → row_of word_count u a ≡ w
  put_here room = ap (λ (v : List ℕ). row_of word_count v a) q ∙ row_same word_count t a w n room

  put_other : (p : ℕ) → (p ≡ a → ⊥) → row_of word_count u p ≡ row_of word_count t p
  put_other p ne = ap (λ (v : List ℕ). row_of word_count v p) q ∙ row_other word_count t a p w n (λ e. ne (sym e))

-- t₀ is the table before; p and m are written to the rows of circuit k, one after the other
module _ (n : ℕ) (zs : List Sides) (k : ℕ) (t₀ t t₁ p m : List ℕ) {t₂ : List ℕ} (few : k < circuits_most) (room : word_count * held_rows ≤ length t₀)
    (pn : length p ≡ word_count) (mn : length m ≡ word_count) (pq : t₁ ≡ set_row t (plus_row k) p) (mq : t₂ ≡ set_row t₁ (minus_row k) m) where
  pub around_more : p ≡ around_of n (sides_at zs k).plus (full_of n) → m ≡ around_of n (sides_at zs k).minus (full_of n)
      → (length t ≡ length t₀) × Around n zs k t × SameBelow shots_most t₀ t → (length t₂ ≡ length t₀) × Around n zs (k + 1) t₂ × SameBelow shots_most t₀ t₂
  around_more pe me (long, g, s) = (
    ap length mq ∙ set_row-length t₁ (minus_row k) m ∙ long₁,
    λ z h. ⊎_elim (old z) (new z) (last z k (rw add-one at h)),
    λ i h. put_other t₁ (minus_row k) m mn mq i (λ e. omega arith) ∙ put_other t (plus_row k) p pn pq i (λ e. omega arith) ∙ s i h,
  )
    where
      long₁ : length t₁ ≡ length t₀
      long₁ = ap length pq ∙ set_row-length t (plus_row k) p ∙ long

      old : (z : ℕ) → z < k → (row_of word_count t₂ (plus_row z) ≡ around_of n (sides_at zs z).plus (full_of n)) × (row_of word_count t₂ (minus_row z) ≡ around_of n (sides_at zs z).minus (full_of n))
      old z h = (
        put_other t₁ (minus_row k) m mn mq (plus_row z) (λ e. omega arith) ∙ put_other t (plus_row k) p pn pq (plus_row z) (λ e. omega arith) ∙ (g z h).0,
        put_other t₁ (minus_row k) m mn mq (minus_row z) (λ e. omega arith) ∙ put_other t (plus_row k) p pn pq (minus_row z) (λ e. omega arith) ∙ (g z h).1,
      )

      new : (z : ℕ) → z ≡ k → (row_of word_count t₂ (plus_row z) ≡ around_of n (sides_at zs z).plus (full_of n)) × (row_of word_count t₂ (minus_row z) ≡ around_of n (sides_at zs z).minus (full_of n))
      new z e = rw e (
        put_other t₁ (minus_row k) m mn mq (plus_row k) (λ e. omega arith) ∙ put_here t (plus_row k) p pn pq (omega (arith, long)) ∙ pe,
        put_here t₁ (minus_row k) m mn mq (omega (arith, long₁)) ∙ me,
      )

-- t₀ holds the holders; one by one the rows around the sides, those of the pairs and that of the solid triples are written
module _ (l : List ℤ) (few : count_of l ≤ shots_most) {zs : List Sides} (e : zs ≡ map masks (circuits_of l)) (t₀ t₁ t₂ : List ℕ) {w t₃ : List ℕ} where
  pub all_prepared : Holding (count_of l) t₀ → Around (count_of l) zs (length zs) t₁ → SameBelow shots_most t₀ t₁ → SameBelow inner_first t₁ t₂ → Inner l t₂
      → length w ≡ word_count → word_count * held_rows ≤ length t₂ → w ≡ solid_of l → t₃ ≡ set_row t₂ solid_row w → Prepared l t₃
  all_prepared g a b s f n room d q =
      record {
        holding = λ k u. late k (omega arith) ∙ b k (omega arith) ∙ g k u;
        over_plus = λ z u. late (plus_row z) (low z u).0 ∙ (a z (among z u)).0 ∙ ap (λ (x : Sides). around_of (count_of l) x.plus (full_of (count_of l))) (is z u);
        over_minus = λ z u. late (minus_row z) (low z u).1 ∙ (a z (among z u)).1 ∙ ap (λ (x : Sides). around_of (count_of l) x.minus (full_of (count_of l))) (is z u);
        edges = λ j u i v. put_below solid_row t₂ w n q (inner_row i j) (omega arith) ∙ f j u i v;
        solid = put_here t₂ solid_row w n q (omega arith) ∙ d;
      }
    where
      late : SameBelow inner_first t₁ t₃
      late i u = put_below solid_row t₂ w n q i (omega arith) ∙ s i u

      low : (z : ℕ) → z < length (circuits_of l) → (plus_row z < inner_first) × (minus_row z < inner_first)
      low z u = let f = circuits-most l few in (omega arith, omega arith)

      among : (z : ℕ) → z < length (circuits_of l) → z < length zs
      among z u = omega (arith, found_count l e)

      is : (z : ℕ) → z < length (circuits_of l) → sides_at zs z ≡ masks (circuit_at l z)
      is z u = found_at l e z (record { plus = 0; minus = 0 }) u
