-- `walks::index::Rows::note` meets its contract: a row that the index covers is put in, another one is not.
use Rattle.std.specs.Prelude.{◌≡◌, ◌+◌}
use mathlib.Core.Path.{refl, sym, subst}
use Rattle.triples.specs.Sets.{words_of}
use Rattle.walks.specs.Index.{noted_of, Indexed}
use Rattle.walks.proofs.IndexLaws.{noted_by, noted_past, indexed_noted}
use Rattle.walks.proofs.index.Rows.note.Goals.{then-p-lt-INDEXED_MOST, else-p-lt-INDEXED_MOST}
use Rattle.walks.proofs.index.Rows.note.Goals as goal

pub invariant_of-self-clause-indexed : goal.invariant_of-self-clause-indexed
invariant_of-self-clause-indexed c =
    let k = c.args.self.now in
    let w = words_of c.args.list in
    let more = indexed_noted k.table.now k.table.now w k.index k.walk.rows k.indexed (λ q l. refl) c.requires.1 in
    elim c.if-p-lt-INDEXED_MOST.branch [
      | then-p-lt-INDEXED_MOST v ↦ rw v.self-is (subst (Indexed k.table.now (k.walk.rows + 1)) (sym (noted_by k.index w k.walk.rows _ v.spot-s.ensures.0 v.if-p-lt-INDEXED_MOST.true)) more)
      | else-p-lt-INDEXED_MOST v ↦ rw v.self-is (subst (Indexed k.table.now (k.walk.rows + 1)) (sym (noted_past k.index w k.walk.rows v.if-p-lt-INDEXED_MOST.false)) more)
    ]

pub returns-clause-noted : goal.returns-clause-noted
returns-clause-noted c =
    let k = c.args.self.now in
    let w = words_of c.args.list in
    elim c.if-p-lt-INDEXED_MOST.branch [
      | then-p-lt-INDEXED_MOST v ↦ rw v.self-is (noted_by k.index w k.walk.rows _ v.spot-s.ensures.0 v.if-p-lt-INDEXED_MOST.true)
      | else-p-lt-INDEXED_MOST v ↦ rw v.self-is (noted_past k.index w k.walk.rows v.if-p-lt-INDEXED_MOST.false)
    ]
