-- `triples::holding::around` meets its contract: the triples of the list that hold the shots of the mask gone through.
use mathlib.Core.Path.{◌≡◌, refl, sym, ◌∙◌, ap}
use mathlib.Core.Bool.{Bool, true, false, ◌&&◌, and-true, and_assoc}
use mathlib.Core.List.{List}
use Prim.Native.Nat.{ℕ, ◌+◌}
use native.Mathlib.Omega.{arith}
use native.Mathlib.Numerals.{add-one}
use Rattle.algebra.specs.Loops.{every}
use Rattle.algebra.specs.Sets.{is_on, bit}
use Rattle.algebra.specs.Words.{Words, member, both_of}
use Rattle.algebra.proofs.WordLaws.{sift_same, sift-member}
use Rattle.triples.specs.Sizes.{word_count}
use Rattle.triples.specs.Ranks.{triple_at}
use Rattle.triples.specs.Sets.{words_of, holders_of, mask_on, around_of}
use Rattle.triples.proofs.SetLaws.{words-of}
use Rattle.triples.proofs.SiftLaws.{both_sifted}
use Rattle.triples.proofs.holding.around.Goals.{else-on, then-on}
use Rattle.triples.proofs.holding.around.Invariants.{held, so_far}
use Rattle.triples.proofs.holding.around.Goals as goal

module _ (n x : ℕ) (w : List ℕ) where
  begin : Words word_count w → w ≡ so_far n x w 0
  unfolding every
  begin v = sym (sift-member word_count w v) ∙ sift_same word_count (member w) (λ r. member w r && true) (λ r l. sym (and-true (member w r)))

  step : (k r : ℕ) {b : Bool} → held n x r k ≡ b → ((member w r && every k (held n x r)) && b) ≡ (member w r && every (k + 1) (held n x r))
  unfolding every
  step k r {b} e = and_assoc (member w r) (every k (held n x r)) b ∙ rw add-one (ap (λ (c : Bool). member w r && (every k (held n x r) && c)) (sym e))

  turn_in : (k : ℕ) {t h u : List ℕ} → bit x k ≡ true → t ≡ so_far n x w k → h ≡ holders_of n k → u ≡ both_of t h → u ≡ so_far n x w (k + 1)
  unfolding holders_of
  turn_in k b p q e =
      both_sifted word_count (λ r. member w r && every k (held n x r)) (λ r. is_on k (triple_at n r)) p q e
      ∙ sift_same word_count (λ r. (member w r && every k (held n x r)) && is_on k (triple_at n r)) (λ r. member w r && every (k + 1) (held n x r)) (λ r l. step k r (rw b refl))

  turn-out : (k : ℕ) {t : List ℕ} → bit x k ≡ false → t ≡ so_far n x w k → t ≡ so_far n x w (k + 1)
  turn-out k b p =
      p ∙ sift_same word_count (λ r. member w r && every k (held n x r)) (λ r. member w r && every (k + 1) (held n x r))
      (λ r l. sym (and-true (member w r && every k (held n x r))) ∙ step k r (rw b refl))

pub loop-k-init : goal.loop-k-init
loop-k-init c = begin _ _ _ (words-of c.args.list c.well_formed.1.1.1.0)

pub loop-k-preserved : goal.loop-k-preserved
loop-k-preserved c =
    let a = c.args in
    let l = c.loop-k in
    elim c.if-on.branch [
      | then-on w ↦ turn_in a.n a.x (words_of a.list) l.k (sym c.on.ensures ∙ w.if-on.true) l.invariant (w.row_at.ensures ∙ c.requires.2 l.k c.loop-k-test.true) (ap words_of w.t-is ∙ w.both-t.ensures)
      | else-on w ↦ turn-out a.n a.x (words_of a.list) l.k (sym c.on.ensures ∙ w.if-on.false) (ap words_of w.t-is ∙ l.invariant)
    ]

pub returns : goal.returns
unfolding around_of mask_on
returns c =
    let a = c.args in
    let e : c.loop-k.k ≡ a.n = omega arith in
    c.loop-k.invariant ∙ ap (so_far a.n a.x (words_of a.list)) e
