-- `triples::pieces::holders` meets its contract: 1 for each piece that holds the mask, summed.
use Rattle.std.proofs.Common.{rules, refl, ◌≡◌, ◌∙◌, ap, ℕ, ◌+◌, ◌≤◌, Bool, true, false, cond, List, [], ◌∷◌, length, arith}
use borrow.Author.Tests.{tests}
use Rattle.std.specs.List.{sum_by}
use Rattle.std.proofs.lemmas.Iterator.{YieldsList-from_slice, YieldsList-from_map}
use Rattle.std.proofs.lemmas.Iterator.Consumers.{YieldsList-at, sum_by_from_yields_List, fits_by_from_yields_list}
use Rattle.std.proofs.lemmas.List.Sums.{sum_by-cons}
use Rattle.algebra.specs.Loops.{sum_of}
use Rattle.triples.specs.Pieces.{holds, holder_count}
use Rattle.triples.proofs.pieces.holders.Goals as goal

abbrev one : ℕ → ℕ → ℕ
one x p = cond (holds x p) 1 0

all : (x : ℕ) (ps : List ℕ) → sum_by (one x) ps ≡ sum_of (one x) ps
all x [] = refl
all x (p ∷ ps) = sum_by-cons (one x) p ps ∙ ap (λ (n : ℕ). one x p + n) (all x ps)

few : (x : ℕ) (ps : List ℕ) → sum_by (one x) ps ≤ length ps
few x [] = omega arith
few x (p ∷ ps) = omega (arith, sum_by-cons (one x) p ps, few x ps, go (holds x p))
  where
    go : (b : Bool) → cond b 1 0 ≤ 1
    go true = omega arith
    go false = omega arith

pub sum-requires-clause-fits : goal.sum-requires-clause-fits
sum-requires-clause-fits c =
    let ps = c.args.pieces.now in
    fits_by_from_yields_list (one c.args.x) ps _ _
    (YieldsList-from_map _ (one c.args.x) (YieldsList-at c.map.ensures.source (YieldsList-from_slice ps c.iter.ensures.rest)) c.map.ensures.closure (λ x r q k. search (rules, tests)))
    (omega (arith, few c.args.x ps, c.requires))

pub returns : goal.returns
unfolding holder_count
returns c =
    let ps = c.args.pieces.now in
    sum_by_from_yields_List (one c.args.x) ps _ _ c.sum.ensures.ran
    (YieldsList-from_map _ (one c.args.x) (YieldsList-at c.map.ensures.source (YieldsList-from_slice ps c.iter.ensures.rest)) c.map.ensures.closure (λ x r q k. search (rules, tests)))
    ∙ all c.args.x ps
