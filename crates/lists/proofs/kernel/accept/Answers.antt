-- `lists::kernel::accept` meets its contract: the tests by sets of triples, in the order of their numbers.
use Rattle.std.proofs.Common.{◌≡◌, ◌∙◌, sym, ap, ℕ, List, Bool}
use Rattle.algebra.specs.Words.{inside_of}
use Rattle.circuits.proofs.FoundLaws.{found_count}
use Rattle.triples.specs.Sets.{words_of}
use Rattle.triples.proofs.SetLaws.{words-of}
use Rattle.lists.proofs.ByWords.{refuses_7, refuses_10, refuses_8, refuses_9, gives_list}
use Rattle.lists.proofs.kernel.accept.Goals as goal

-- the first test is that of the solid triples
solid : (w : List ℕ) {s r : List ℕ} {i : Bool} → s ≡ r → i ≡ inside_of w s → {b : Bool} → i ≡ b → inside_of w r ≡ b
solid w q p e = ap (inside_of w) (sym q) ∙ sym p ∙ e

pub returns-then-not-inside : goal.returns-then-not-inside
returns-then-not-inside c = refuses_7 _ _ c.requires.0 (words-of c.args.list c.well_formed.1.1.0) (solid (words_of c.args.list) (c.row_at.ensures ∙ c.requires.1.table.solid) c.inside.ensures c.if-not-inside.true)

pub returns-then-is_empty : goal.returns-then-is_empty
returns-then-is_empty c =
    refuses_10 _ _ c.requires.0 (words-of c.args.list c.well_formed.1.1.0) (solid (words_of c.args.list) (c.row_at.ensures ∙ c.requires.1.table.solid) c.inside.ensures c.if-not-inside.false) (sym c.is_empty.ensures ∙ c.if-is_empty.true)

pub returns-then-crossing : goal.returns-then-crossing
returns-then-crossing c =
    refuses_8 _ _ c.requires.0 (words-of c.args.list c.well_formed.1.1.0) (solid (words_of c.args.list) (c.row_at.ensures ∙ c.requires.1.table.solid) c.inside.ensures c.if-not-inside.false) _ _ c.requires.1.table.over_plus c.requires.1.table.over_minus (found_count _ c.requires.1.circuits)
    (sym c.is_empty.ensures ∙ c.if-is_empty.false) (sym c.crossing.ensures ∙ c.if-crossing.true)

pub returns-then-open : goal.returns-then-open
returns-then-open c =
    refuses_9 _ _ c.requires.0 (words-of c.args.list c.well_formed.1.1.0) (solid (words_of c.args.list) (c.row_at.ensures ∙ c.requires.1.table.solid) c.inside.ensures c.if-not-inside.false) _ _ c.requires.1.table.over_plus c.requires.1.table.over_minus (found_count _ c.requires.1.circuits)
    (sym c.is_empty.ensures ∙ c.if-is_empty.false) c.requires.1.table.edges (sym c.crossing.ensures ∙ c.if-crossing.false) (sym c.«open».ensures ∙ c.if-open.true)

pub returns : goal.returns
returns c =
    gives_list _ _ c.requires.0 (words-of c.args.list c.well_formed.1.1.0) (solid (words_of c.args.list) (c.row_at.ensures ∙ c.requires.1.table.solid) c.inside.ensures c.if-not-inside.false) _ _ c.requires.1.table.over_plus c.requires.1.table.over_minus (found_count _ c.requires.1.circuits)
    (sym c.is_empty.ensures ∙ c.if-is_empty.false) c.requires.1.table.edges (sym c.crossing.ensures ∙ c.if-crossing.false) (sym c.«open».ensures ∙ c.if-open.false)
