-- `walks::table::place` meets its contract: the list is a row, there is no row for it, or it is written at the next and put into the index.
use Rattle.std.proofs.Common.{rules, ◌≡◌, ◌∙◌, sym, ap, subst, ℕ, ◌<◌, List, length}
use native.Mathlib.Omega.{arith}
use Rattle.algebra.specs.Words.{row_of, set_row}
use Rattle.algebra.proofs.WordLaws.{row_same}
use Rattle.reach.specs.Walks.{capacity_of}
use Rattle.reach.proofs.StepLaws.{store_known, store_full, store_new}
use Rattle.triples.specs.Sizes.{word_count}
use Rattle.triples.specs.Sets.{words_of}
use Rattle.walks.specs.Index.{Indexed}
use Rattle.walks.proofs.IndexLaws.{indexed_kept}
use Rattle.walks.proofs.table.place.Goals.{then-not-seen+else-known-capacity, else-not-seen}
use Rattle.walks.proofs.table.place.Goals as goal

pub returns-then-known-capacity-clause-leaves : goal.returns-then-known-capacity-clause-leaves
returns-then-known-capacity-clause-leaves c = sym (store_full _ _ _ _ _ (sym c.seen.ensures ∙ c.if-not-seen.true) (c.if-known-capacity.true ∙ c.capacity.ensures))

pub invariant_of-known-clause-indexed : goal.invariant_of-known-clause-indexed
invariant_of-known-clause-indexed c =
    let k = c.args.known.now in
    subst (λ (t : List ℕ). Indexed t k.walk.rows k.index) (sym c.put_row.ensures) (indexed_kept k.table.now (words_of c.args.list) k.index k.walk.rows k.indexed (search rules))

pub note-requires : goal.note-requires
note-requires c =
    let k = c.args.known.now in
    let long : length c.put_row.new.table ≡ length k.table.now = search rules in
    let wide : length (words_of c.args.list) ≡ word_count = search rules in
    let fits = k.fits in
    let below : k.walk.rows < capacity_of word_count (length k.table.now) = omega (arith, c.capacity.ensures, c.if-known-capacity.false) in (
      subst (λ (n : ℕ). k.walk.rows < capacity_of word_count n) (sym long) below,
      ap (λ (t : List ℕ). row_of word_count t k.walk.rows) c.put_row.ensures ∙ row_same word_count k.table.now k.walk.rows (words_of c.args.list) wide (omega arith),
    )

pub returns-clause-leaves : goal.returns-clause-leaves
returns-clause-leaves c =
    elim c.if-not-seen.branch [
      | then-not-seen+else-known-capacity w ↦ let is : w.note.new.self.table.now ≡ set_row c.args.known.now.table.now c.args.known.now.walk.rows (words_of c.args.list) = w.note.ensures.counted.0 ∙ w.put_row.ensures in
          rw (w.known-is, w.note.ensures.counted.1, is) (sym (store_new _ _ _ _ _ (sym c.seen.ensures ∙ w.if-not-seen.true) (λ z. w.if-known-capacity.false (z ∙ sym w.capacity.ensures))))
      | else-not-seen w ↦ rw w.known-is (sym (store_known _ _ _ _ _ (sym c.seen.ensures ∙ w.if-not-seen.false)))
    ]
