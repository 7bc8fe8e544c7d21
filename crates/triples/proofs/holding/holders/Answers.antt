-- `triples::holding::holders` meets its contract: the triples with shot k among those gone through.
use mathlib.Core.Path.{sym, ◌∙◌, ap}
use Prim.Native.Nat.{◌<◌}
use native.Mathlib.Omega.{arith}
use Rattle.algebra.specs.Sets.{is_on}
use Rattle.triples.specs.Sizes.{word_count}
use Rattle.triples.specs.Ranks.{triple_count, triple_at}
use Rattle.triples.specs.Sets.{words_of, holders_of}
use Rattle.triples.proofs.RankLaws.{ranked-first, ranked_next, triple_order, rank_room, past_off}
use Rattle.triples.proofs.SiftLaws.{sifted_none, sifted_in, sifted_out, sifted_end}
use Rattle.triples.proofs.holding.holders.Goals.{else-among, then-among}
use Rattle.triples.proofs.holding.holders.Goals as goal

pub loop-r-init : goal.loop-r-init
loop-r-init c = (c.none-t.ensures ∙ sifted_none _ _, ranked-first _)

pub with-t-requires : goal.with-t-requires
with-t-requires c = rank_room c.args.n c.loop-r.r c.requires c.count-r-end.ensures c.loop-r-test.true

pub next-s-requires : goal.next-s-requires
next-s-requires c =
    let l = c.loop-r in
    let low : l.r < triple_count c.args.n = omega (arith, c.count-r-end.ensures) in
    let o = triple_order c.args.n l.r low (l.invariant.1 low) in
    (o.0, o.1, o.2, c.requires)

pub loop-r-preserved : goal.loop-r-preserved
loop-r-preserved c =
    let a = c.args in
    let l = c.loop-r in
    let low : l.r < triple_count a.n = omega (arith, c.count-r-end.ensures) in
    let test = ap (is_on a.k) (sym (l.invariant.1 low)) ∙ sym c.among.ensures in (
      elim c.if-among.branch [
        | then-among w ↦ sifted_in word_count (λ r. is_on a.k (triple_at a.n r)) l.r (rank_room a.n l.r c.requires c.count-r-end.ensures c.loop-r-test.true) (test ∙ w.if-among.true) l.invariant.0 (ap words_of w.t-is ∙ w.with-t.ensures)
        | else-among w ↦ sifted_out word_count (λ r. is_on a.k (triple_at a.n r)) l.r (test ∙ w.if-among.false) (ap words_of w.t-is ∙ l.invariant.0)
      ],
      ranked_next a.n l.r l.invariant.1 c.next-s.ensures,
    )

pub returns : goal.returns
unfolding holders_of
returns c =
    let a = c.args in
    sifted_end word_count (λ r. is_on a.k (triple_at a.n r)) c.loop-r.r c.count-r-end.result c.loop-r-test.false (λ r h. past_off a.n r a.k (omega (arith, c.count-r-end.ensures))) c.loop-r.invariant.0
