-- `surfaces::flips::exchange` meets its contract: each answer by the tests that led to it.
use Rattle.std.specs.Prelude.{◌≡◌, ℕ, true, false, List, Option, Some, None}
use mathlib.Core.Path.{refl, sym, ◌∙◌, ap}
use borrow.Author.Tests.{not-true, not-false}
use Rattle.algebra.specs.Words.{Words, both_of, either_of, less_of, meets_of, inside_of}
use Rattle.triples.specs.Sizes.{word_count}
use Rattle.triples.specs.Sets.{words_of}
use Rattle.triples.proofs.SetLaws.{words-of}
use Rattle.surfaces.specs.Stars.{linked_of, supported_by, turned_by, taken_by}
use Rattle.surfaces.proofs.FlipLoops.{less_covered}
use Rattle.surfaces.proofs.FourLaws.{four_unsupported}
use mathlib.Core.Bool.{not}
use Rattle.surfaces.proofs.flips.exchange.Goals as goal

module _ (n x : ℕ) (t u w : List ℕ) where
  -- what the contract says of the answer
  abbrev Answer : Option (List ℕ) → Type 0
  Answer o = o ≡ taken_by (supported_by n x t w) (turned_by n x t u w)

  no : supported_by n x t w ≡ false → Answer None
  no e = rw e refl

  yes-by : {v : List ℕ} → supported_by n x t w ≡ true → v ≡ turned_by n x t u w → Answer (Some v)
  yes-by e p = rw e (ap Some p)

  unmet : meets_of t w ≡ false → Answer None
  unfolding supported_by
  unmet m = no (rw m refl)

  -- the star meets the list
  module _ (m : meets_of t w ≡ true) where
    whole : {d v : List ℕ} → inside_of t w ≡ true → d ≡ less_of w t → v ≡ either_of d u → Answer (Some v)
    unfolding supported_by turned_by
    whole i p q = yes-by (rw (m, i) refl) (q ∙ ap (λ (y : List ℕ). either_of y u) p ∙ rw i refl)

    -- and is not inside it: by the cones of the link
    module _ (i : inside_of t w ≡ false) {cones : List ℕ} (r : cones ≡ linked_of n x t w) where
      beyond : inside_of (both_of t w) cones ≡ false → Answer None
      unfolding supported_by
      beyond h = no (rw (m, i, sym r) h)

      part : {d v : List ℕ} → Words word_count t → inside_of (both_of t w) cones ≡ true → d ≡ less_of w (both_of t cones) → v ≡ either_of d (both_of u cones) → Answer (Some v)
      unfolding supported_by turned_by
      part g h p q =
          yes-by (rw (m, i, sym r) h)
          (q ∙ (λ j. either_of ((p ∙ less_covered word_count t cones w g h) j) (both_of u (r j))) ∙ rw i refl)

pub returns-then-not-meets : goal.returns-then-not-meets
returns-then-not-meets c =
    let a = c.args in
    unmet a.held.n a.x (words_of a.star) (words_of a.other) (words_of a.list) (sym c.meets.ensures ∙ not-true c.meets.result (ap not c.if-not-meets.true))

pub returns-then-inside : goal.returns-then-inside
returns-then-inside c =
    let a = c.args in
    whole a.held.n a.x (words_of a.star) (words_of a.other) (words_of a.list) (sym c.meets.ensures ∙ not-false c.meets.result (ap not c.if-not-meets.false))
    (sym c.inside.ensures ∙ c.if-inside.true) c.less.ensures c.either.ensures

pub returns-then-x-eq4 : goal.returns-then-x-eq4
returns-then-x-eq4 c =
    let a = c.args in
    no a.held.n a.x (words_of a.star) (words_of a.other) (words_of a.list)
    (four_unsupported a.held.n a.x a.held.few c.requires.0 c.if-x-eq4.true (words_of a.star) (words_of a.list) c.requires.1 (sym c.inside.ensures ∙ c.if-inside.false))

pub returns-then-not-inside : goal.returns-then-not-inside
returns-then-not-inside c =
    let a = c.args in
    beyond a.held.n a.x (words_of a.star) (words_of a.other) (words_of a.list) (sym c.meets.ensures ∙ not-false c.meets.result (ap not c.if-not-meets.false))
    (sym c.inside.ensures ∙ c.if-inside.false) c.linked-cones.ensures
    (ap (λ (y : List ℕ). inside_of y (words_of c.linked-cones.result)) (sym c.both.ensures) ∙ sym c.inside-2.ensures ∙ not-true c.inside-2.result (ap not c.if-not-inside.true))

pub returns : goal.returns
returns c =
    let a = c.args in
    part a.held.n a.x (words_of a.star) (words_of a.other) (words_of a.list) (sym c.meets.ensures ∙ not-false c.meets.result (ap not c.if-not-meets.false))
    (sym c.inside.ensures ∙ c.if-inside.false) c.linked-cones.ensures (words-of a.star c.well_formed.1.1.0)
    (ap (λ (y : List ℕ). inside_of y (words_of c.linked-cones.result)) (sym c.both.ensures) ∙ sym c.inside-2.ensures ∙ not-false c.inside-2.result (ap not c.if-not-inside.false))
    (c.less-2.ensures ∙ ap (less_of (words_of a.list)) c.both-2.ensures) (c.either-2.ensures ∙ ap (either_of (words_of c.less-2.result)) c.both-3.ensures)
