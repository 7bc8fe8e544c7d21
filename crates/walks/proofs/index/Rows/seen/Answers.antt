-- `walks::index::Rows::seen` meets its contract: the rows that the index does not cover, and then those of the list's place, from link to link.
use Rattle.std.specs.Prelude.{◌≡◌, ℕ, Bool, ◌||◌, List}
use mathlib.Core.Path.{sym, ◌∙◌, ap}
use Rattle.reach.specs.Walks.{seen_in}
use Rattle.triples.specs.Sizes.{word_count}
use Rattle.triples.specs.Sets.{words_of}
use Rattle.walks.specs.Index.{covered_of}
use Rattle.walks.proofs.IndexLaws.{chained-first, chained_next, chained_less, chained_found, chained_end}
use Rattle.walks.proofs.index.Rows.seen.Goals as goal

-- what is known of the list once the rows behind are looked through
looked : (t w : List ℕ) (n : ℕ) {r b : Bool} → seen_in word_count t n w ≡ r || seen_in word_count t (covered_of n) w → r ≡ b → seen_in word_count t n w ≡ b || seen_in word_count t (covered_of n) w
looked t w n e f = e ∙ ap (λ (x : Bool). x || seen_in word_count t (covered_of n) w) f

pub returns-then-behind : goal.returns-then-behind
returns-then-behind c = sym (looked c.args.self.now.table.now (words_of c.args.list) c.args.self.now.walk.rows c.behind.ensures c.if-behind.true)

pub loop-next-init : goal.loop-next-init
loop-next-init c = rw c.from-next.ensures (chained-first _ _ _ _ c.args.self.now.indexed _ c.spot.ensures.0)

pub returns-then-is_row : goal.returns-then-is_row
returns-then-is_row c =
    sym (looked c.args.self.now.table.now (words_of c.args.list) c.args.self.now.walk.rows c.behind.ensures c.if-behind.false ∙ chained_found _ _ _ _ c.loop-next-test.true c.is_row.ensures c.if-is_row.true c.loop-next.invariant)

pub loop-next-smaller : goal.loop-next-smaller
loop-next-smaller c = rw c.from-next-in-loop-next.ensures (chained_less _ _ _ _ c.args.self.now.indexed _ c.loop-next-test.true c.loop-next.invariant)

pub loop-next-preserved : goal.loop-next-preserved
loop-next-preserved c =
    rw c.from-next-in-loop-next.ensures (chained_next _ _ _ _ c.args.self.now.indexed _ c.loop-next-test.true c.is_row.ensures c.if-is_row.false c.loop-next.invariant)

pub returns : goal.returns
returns c = sym (looked c.args.self.now.table.now (words_of c.args.list) c.args.self.now.walk.rows c.behind.ensures c.if-behind.false ∙ chained_end _ _ _ _ c.loop-next-test.false c.loop-next.invariant)
