-- `lists::kernel::solid` meets its contract: the triples that are not flat among those gone through.
use Rattle.std.specs.Prelude.{◌≡◌, ℕ, ◌<◌, not, eqb, Bool, List, [], ◌∷◌, ℤ, pos}
use mathlib.Core.Path.{sym, ◌∙◌, ap}
use native.Mathlib.Omega.{arith}
use mir.Syntax.{w8}
use mir.Val.{of_z}
use borrow.Author.Tests.{eq-eqb, ne_eqb}
use Rattle.algebra.specs.Sign.{value}
use Rattle.algebra.proofs.SizeLaws.{sign_is_nought}
use Rattle.shots.specs.Patch.{count_of, orient_of}
use Rattle.triples.specs.Sizes.{word_count}
use Rattle.triples.specs.Ranks.{triple_count, triple_at}
use Rattle.triples.specs.Sets.{words_of}
use Rattle.lists.specs.Tests.{is_flat}
use Rattle.lists.specs.Held.{solid_of}
use Rattle.triples.proofs.RankLaws.{ranked-first, ranked_next, triple_shots, triple_order, rank_room}
use Rattle.triples.proofs.SiftLaws.{sifted_none, sifted_in, sifted_out, sifted_end}
use Rattle.lists.proofs.ByWords.{flat_past}
use Rattle.lists.proofs.kernel.solid.Goals.{else-sign-ne0, then-sign-ne0}
use Rattle.lists.proofs.kernel.solid.Invariants.{bent}
use Rattle.lists.proofs.kernel.solid.Goals as goal

-- by the code's test of the sign of its three shots
bent-sign : (l : List ℤ) (r i j k : ℕ) (z : ℤ) {b : Bool} → i ∷ j ∷ k ∷ [] ≡ triple_at (count_of l) r → z ≡ value (orient_of l i j k) → eqb (of_z w8 z) (of_z w8 (pos 0)) ≡ b → bent l r ≡ not b
unfolding is_flat
bent-sign l r i j k z e s h = ap (λ (t : List ℕ). not (is_flat l t)) (sym e) ∙ ap not (sym (sign_is_nought z (orient_of l i j k) s) ∙ h)

pub loop-r-init : goal.loop-r-init
loop-r-init c = (c.none-t.ensures ∙ sifted_none _ _, ranked-first _)

pub sign-requires : goal.sign-requires
sign-requires c =
    let l = c.loop-r in
    let low : l.r < triple_count (count_of c.args.shots.now) = omega (arith, c.count-r-end.ensures) in
    let h = triple_shots (count_of c.args.shots.now) l.r low (l.invariant.1 low) in
    (h.0, h.1, h.2, c.requires.0)

pub with-t-requires : goal.with-t-requires
with-t-requires c = rank_room _ c.loop-r.r c.requires.1 c.count-r-end.ensures c.loop-r-test.true

pub next-s-requires : goal.next-s-requires
next-s-requires c =
    let l = c.loop-r in
    let low : l.r < triple_count (count_of c.args.shots.now) = omega (arith, c.count-r-end.ensures) in
    let o = triple_order (count_of c.args.shots.now) l.r low (l.invariant.1 low) in
    (o.0, o.1, o.2, c.requires.1)

pub loop-r-preserved : goal.loop-r-preserved
loop-r-preserved c =
    let shots = c.args.shots.now in
    let l = c.loop-r in
    let low : l.r < triple_count (count_of shots) = omega (arith, c.count-r-end.ensures) in
    let here : l.s.i ∷ l.s.j ∷ l.s.k ∷ [] ≡ triple_at (count_of shots) l.r = l.invariant.1 low in (
      elim c.if-sign-ne0.branch [
        | then-sign-ne0 w ↦ sifted_in word_count (bent shots) l.r (rank_room _ l.r c.requires.1 c.count-r-end.ensures c.loop-r-test.true) (bent-sign shots l.r _ _ _ _ here c.sign.ensures (ne_eqb _ _ w.if-sign-ne0.true)) l.invariant.0 (ap words_of w.t-is ∙ w.with-t.ensures)
        | else-sign-ne0 w ↦ sifted_out word_count (bent shots) l.r (bent-sign shots l.r _ _ _ _ here c.sign.ensures (eq-eqb _ _ w.if-sign-ne0.false)) (ap words_of w.t-is ∙ l.invariant.0)
      ],
      ranked_next (count_of shots) l.r l.invariant.1 c.next-s.ensures,
    )

pub returns : goal.returns
unfolding solid_of
returns c =
    let l = c.args.shots.now in
    sifted_end word_count (bent l) c.loop-r.r _ c.loop-r-test.false (λ r h. ap not (flat_past l (count_of l) r (omega (arith, c.count-r-end.ensures)))) c.loop-r.invariant.0
