-- `surfaces::flips::star` meets its contract: the triples that lack one of the side's shots gone through, and no other shot of the circuit.
use Rattle.std.specs.Prelude.{◌≡◌, ℕ, ◌+◌, ◌*◌, ◌<◌, Bool, true, false, not, ◌&&◌, List, length}
use native.Mathlib.Omega.{arith}
use mathlib.Core.Path.{refl, sym, ◌∙◌, ap}
use mathlib.Core.Bool.{and_assoc}
use Rattle.algebra.specs.Sets.{is_on, bit}
use Rattle.algebra.specs.Words.{word_bits, clear_bit, member, less_of}
use Rattle.algebra.proofs.WordLaws.{member_less}
use Rattle.triples.specs.Sizes.{word_count}
use Rattle.triples.specs.Ranks.{triple_at}
use Rattle.triples.specs.Sets.{words_of, full_of, holders_of, mask_on, around_of}
use Rattle.triples.specs.declared.Triples.{Triples}
use Rattle.lists.proofs.ByWords.{member_full, member_holders, member-around}
use Rattle.surfaces.specs.Stars.{star_of}
use Rattle.surfaces.proofs.FlipLoops.{gathered_none, gathered_in, gathered_out, gathered_end}
use Rattle.surfaces.proofs.flips.star.Invariants.{ranked, lacks, so_far}
use Rattle.surfaces.proofs.flips.star.Goals.{else-on, then-on}
use Rattle.surfaces.proofs.flips.star.Goals as goal

module _ (n a x i : ℕ) where
  -- what the code adds for shot i
  added : (rest row : Triples) {all : List ℕ} {y : ℕ} → length (words_of rest) ≡ word_count → bit a i ≡ true → all ≡ full_of n → y ≡ clear_bit x i → words_of rest ≡ around_of n y all → words_of row ≡ holders_of n i
      → (r : ℕ) → r < word_bits * word_count → member (less_of (words_of rest) (words_of row)) r ≡ (ranked n r && lacks n a x r i)
  added rest row z b f d e h r l =
      member_less (words_of rest) (words_of row) r (omega arith)
      ∙ (λ j. member ((e ∙ (λ m. around_of n (d m) (f m))) j) r && not (member (h j) r))
      ∙ (λ j. member-around n (clear_bit x i) (full_of n) r l j && not (member_holders n i r l j))
      ∙ ap (λ (c : Bool). (c && mask_on n (clear_bit x i) (triple_at n r)) && not (is_on i (triple_at n r))) (member_full n r l)
      ∙ and_assoc (ranked n r) (mask_on n (clear_bit x i) (triple_at n r)) (not (is_on i (triple_at n r)))
      ∙ ap (λ (c : Bool). ranked n r && (c && (mask_on n (clear_bit x i) (triple_at n r) && not (is_on i (triple_at n r))))) (sym b)

  turn-out : {t : List ℕ} → bit a i ≡ false → t ≡ so_far n a x i → t ≡ so_far n a x (i + 1)
  turn-out b p = gathered_out word_count (ranked n) (lacks n a x) i (λ r. rw b refl) p

pub loop-i-init : goal.loop-i-init
loop-i-init c = c.none-t.ensures ∙ gathered_none word_count (ranked c.args.held.n) (lacks c.args.held.n c.args.a c.args.x)

pub loop-i-preserved : goal.loop-i-preserved
loop-i-preserved c =
    let n = c.args.held.n in
    let i = c.loop-i.i in
    elim c.if-on.branch [
      | then-on w ↦ gathered_in word_count (ranked n) (lacks n c.args.a c.args.x) i (words_of w.less.result)
          (λ r h. ap (λ (u : List ℕ). member u r) w.less.ensures
          ∙ added n c.args.a c.args.x i w.around-rest.result w.row.result (omega arith) (sym c.on.ensures ∙ w.if-on.true) c.full-all.ensures w.dropped.ensures w.around-rest.ensures
          w.row.ensures r h)
          c.loop-i.invariant (ap words_of w.t-is ∙ w.either-t.ensures)
      | else-on w ↦ turn-out n c.args.a c.args.x i (sym c.on.ensures ∙ w.if-on.false) (ap words_of w.t-is ∙ c.loop-i.invariant)
    ]

pub returns : goal.returns
unfolding star_of
returns c =
    gathered_end word_count (ranked c.args.held.n) (lacks c.args.held.n c.args.a c.args.x) c.loop-i.i c.args.held.n c.loop-i.auto.i-end c.loop-i-test.false c.loop-i.invariant
