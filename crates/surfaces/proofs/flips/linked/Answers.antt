-- `surfaces::flips::linked` meets its contract: the triples with a shot of the link among those gone through.
use Rattle.std.specs.Prelude.{◌≡◌, ℕ, ◌+◌, Bool, true, false, ◌&&◌, List}
use mathlib.Core.Path.{refl, sym, ◌∙◌, ap}
use Rattle.algebra.specs.Sets.{is_on}
use Rattle.algebra.specs.Words.{member, either_of}
use Rattle.triples.specs.Sizes.{word_count}
use Rattle.triples.specs.Ranks.{triple_at}
use Rattle.triples.specs.Sets.{words_of, holders_of}
use Rattle.lists.proofs.ByWords.{member_holders}
use Rattle.surfaces.specs.Stars.{linked_at, linked_of}
use Rattle.surfaces.proofs.FlipLoops.{gathered_none, gathered_in, gathered_out, gathered_end}
use Rattle.surfaces.proofs.flips.linked.Goals.{else-linked_at, then-linked_at}
use Rattle.surfaces.proofs.flips.linked.Invariants.{holds, so_far}
use Rattle.surfaces.proofs.flips.linked.Goals as goal

module _ (n x : ℕ) (t w : List ℕ) (k : ℕ) where
  turn_in : (row : List ℕ) {b : Bool} {u v : List ℕ} → b ≡ linked_at n x t w k → b ≡ true → u ≡ so_far n x t w k → row ≡ holders_of n k → v ≡ either_of u row → v ≡ so_far n x t w (k + 1)
  turn_in row o b p q e =
      gathered_in word_count (λ r. true) (holds n x t w) k row
      (λ r l. ap (λ (y : List ℕ). member y r) q ∙ member_holders n k r l ∙ ap (λ (y : Bool). y && is_on k (triple_at n r)) (sym b ∙ o)) p e

  turn-out : {b : Bool} {u : List ℕ} → b ≡ linked_at n x t w k → b ≡ false → u ≡ so_far n x t w k → u ≡ so_far n x t w (k + 1)
  turn-out o b p = gathered_out word_count (λ r. true) (holds n x t w) k (λ r. rw (sym o ∙ b) refl) p

pub loop-k-init : goal.loop-k-init
loop-k-init c = c.none-t.ensures ∙ gathered_none word_count (λ r. true) (holds c.args.held.n c.args.x (words_of c.args.star) (words_of c.args.list))

pub loop-k-preserved : goal.loop-k-preserved
loop-k-preserved c =
    let k = c.loop-k.k in
    elim c.if-linked_at.branch [
      | then-linked_at w ↦ turn_in c.args.held.n c.args.x (words_of c.args.star) (words_of c.args.list) k (words_of w.row.result) c.linked_at.ensures w.if-linked_at.true c.loop-k.invariant
          w.row.ensures (ap words_of w.t-is ∙ w.either-t.ensures)
      | else-linked_at w ↦ turn-out c.args.held.n c.args.x (words_of c.args.star) (words_of c.args.list) k c.linked_at.ensures w.if-linked_at.false (ap words_of w.t-is ∙ c.loop-k.invariant)
    ]

pub returns : goal.returns
unfolding linked_of
returns c =
    gathered_end word_count (λ r. true) (holds c.args.held.n c.args.x (words_of c.args.star) (words_of c.args.list)) c.loop-k.k c.args.held.n
    c.loop-k.auto.k-end c.loop-k-test.false c.loop-k.invariant
