-- `surfaces::placed::place` meets its contract: the list is folded over the edges so far.
use mathlib.Core.Path.{sym, ◌∙◌, ap, subst}
use native.Mathlib.Omega.{arith}
use Rattle.algebra.specs.Loops.{fold}
use Rattle.algebra.specs.Words.{Words, both_of, either_of}
use Rattle.algebra.proofs.LoopLaws.{fold_none, fold_more, fold_end}
use Rattle.triples.specs.Sizes.{word_count}
use Rattle.triples.specs.Sets.{words_of, holders_of}
use Rattle.triples.proofs.SetLaws.{words-of}
use Rattle.surfaces.specs.Placing.{with_edge, with_edges, place_shot}
use Rattle.surfaces.proofs.ByEdges.{with_edge_yes, with_edge_no}
use Rattle.surfaces.proofs.PlacedWords.{fold_words, with_edge_words, with_edges_words}
use Rattle.surfaces.proofs.placed.place.Goals.{then-sees, else-sees}
use Rattle.surfaces.proofs.placed.place.Goals as goal

pub loop-j-init : goal.loop-j-init
loop-j-init c = fold_none _ _

pub loop-i-init : goal.loop-i-init
loop-i-init c = fold_none _ _

pub loop-i-preserved : goal.loop-i-preserved
loop-i-preserved c =
    let l = c.args.ground.shots.now in
    let e = c.args.ground.counted in
    let w = words_of c.args.list in
    let g = words-of c.args.list c.well_formed.1.0 in
    let v = subst (Words word_count) (sym c.loop-j.invariant) (fold_words (with_edges l w c.args.m) (with_edges_words l w c.args.m) w c.loop-j.j g) in
    let u = subst (Words word_count) (sym c.loop-i.invariant) (fold_words (with_edge l w c.args.m c.loop-j.j) (with_edge_words l w c.args.m c.loop-j.j) _ c.loop-i.i v) in
    fold_more _ _ _ c.loop-i.invariant
    (elim c.if-sees.branch [
      | then-sees w ↦ ap words_of w.t-is ∙ w.either-t.ensures ∙ ap (either_of _) (w.corner.ensures ∙ (λ k. both_of (both_of (holders_of (e k) c.loop-i.i) (holders_of (e k) c.loop-j.j)) (holders_of (e k) c.args.m)))
          ∙ with_edge_yes _ _ _ _ _ (omega (arith, e, c.args.ground.held.few)) c.loop-i-test.true (omega (arith, e, c.loop-j-test.true)) _ (omega (arith, e, c.requires)) u (sym c.sees.ensures ∙ w.if-sees.true)
      | else-sees w ↦ ap words_of w.t-is ∙ with_edge_no _ _ _ _ _ _ (sym c.sees.ensures ∙ w.if-sees.false)
    ])

pub loop-j-preserved : goal.loop-j-preserved
unfolding with_edges
loop-j-preserved c = fold_more _ _ _ c.loop-j.invariant (fold_end _ _ _ _ c.loop-i.auto.i-end c.loop-i-test.false c.loop-i.invariant)

pub returns : goal.returns
unfolding place_shot
returns c =
    fold_end _ _ _ _ c.loop-j.auto.j-end c.loop-j-test.false c.loop-j.invariant
    ∙ ap (fold (with_edges c.args.ground.shots.now (words_of c.args.list) c.args.m) (words_of c.args.list)) c.args.ground.counted
