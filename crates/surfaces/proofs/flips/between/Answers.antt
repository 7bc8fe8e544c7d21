-- `surfaces::flips::between` meets its contract: by whether the list has anything of either star, and whether the first side's pieces are supported.
use Rattle.std.proofs.Common.{◌≡◌, ◌∙◌, refl, sym, ap, ℕ, Bool, true, false, List, Option, None}
use mathlib.Core.Bool.{cond, not, ◌||◌}
use borrow.Author.Tests.{not-true}
use Rattle.algebra.specs.Words.{meets_of}
use Rattle.algebra.proofs.WordLaws.{misses_either}
use Rattle.triples.specs.Sizes.{word_count}
use Rattle.triples.specs.Sets.{words_of}
use Rattle.triples.proofs.SetLaws.{words-of}
use Rattle.surfaces.specs.Stars.{supported_by, turned_by, found_by, flipped_by, taken_by}
use Rattle.surfaces.proofs.flips.between.Goals as goal

-- a and b say which side is supported; t and u are the lists turned, w the list as it was
second-taken : (t u w : List ℕ) (a b : Bool) {o : Option (List ℕ)} → None ≡ taken_by a t → o ≡ taken_by b u → o ≡ taken_by (a || b) (cond a t (cond b u w))
second-taken t u w true b e p = cc
second-taken t u w false true e p = p
second-taken t u w false false e p = p

-- a star of which the list has nothing is not supported
by-neither : (n x : ℕ) (p m w : List ℕ) → (meets_of p w ≡ false) × (meets_of m w ≡ false) → None ≡ taken_by (found_by n x p m w) (flipped_by n x p m w)
unfolding supported_by
by-neither n x p m w e = rw (e.0, e.1) refl

pub returns-then-not-meets : goal.returns-then-not-meets
returns-then-not-meets c =
    let a = c.args in
    by-neither a.held.n a.x (words_of a.plus) (words_of a.minus) (words_of a.list)
    (misses_either word_count (words_of a.plus) (words_of a.minus) (words_of a.list) (words-of a.plus c.well_formed.1.1.0) (words-of a.minus c.well_formed.1.1.1.0)
    (ap (λ (u : List ℕ). meets_of u (words_of a.list)) (sym c.either.ensures) ∙ sym c.meets.ensures ∙ not-true c.meets.result (ap not c.if-not-meets.true)))

pub returns : goal.returns
returns c =
    let a = c.args in
    second-taken (turned_by a.held.n a.x (words_of a.plus) (words_of a.minus) (words_of a.list)) (turned_by a.held.n a.x (words_of a.minus) (words_of a.plus) (words_of a.list)) (words_of a.list) (supported_by a.held.n a.x (words_of a.plus) (words_of a.list)) (supported_by a.held.n a.x (words_of a.minus) (words_of a.list)) c.in_default.ensures c.exchange-2.ensures
