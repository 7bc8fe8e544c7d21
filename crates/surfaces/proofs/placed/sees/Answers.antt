-- `surfaces::placed::sees` meets its contract: the edge has one triple, and some shot is its third across from m.
use Rattle.std.specs.Prelude.{◌≡◌, ℕ, ◌<◌, ◌≤◌, Bool, ◌&&◌, List, ℤ}
use Rattle.std.proofs.Common.{rules, refl}
use mathlib.Core.Path.{sym, ◌∙◌, ap}
use borrow.Author.Tests.{tests}
use native.Mathlib.Omega.{arith}
use Rattle.algebra.specs.Loops.{any}
use Rattle.algebra.specs.Words.{both_of, meets_of, alone_of}
use Rattle.algebra.proofs.ChainLaws.{any_called, road_upto}
use Rattle.shots.specs.Sizes.{shots_most}
use Rattle.shots.specs.Patch.{count_of, orient_of}
use Rattle.triples.specs.Sets.{words_of, holders_of}
use Rattle.surfaces.specs.Placing.{opposed, visible}
use Rattle.surfaces.proofs.ByEdges.{by_sees}
use Rattle.surfaces.proofs.placed.sees.Goals as goal

-- v makes a triple of t, and is across from m
abbrev facing : List ℤ → ℕ → ℕ → ℕ → List ℕ → ℕ → Bool
facing l m i j t v = meets_of t (holders_of (count_of l) v) && opposed (orient_of l i j v) (orient_of l i j m)

-- the two tests are `visible`; n shots are those of the patch
both-tests : (l : List ℤ) (w : List ℕ) (m i j : ℕ) {n : ℕ} {t e : List ℕ} → n ≡ count_of l → n ≤ shots_most → i < j → j < n → t ≡ both_of e w → e ≡ both_of (holders_of n i) (holders_of n j)
    → (alone_of t && any n (facing l m i j t)) ≡ visible l w m i j
both-tests l w m i j c few ij jn p q =
    let e = p ∙ ap (λ (u : List ℕ). both_of u w) (q ∙ ap (λ (n : ℕ). both_of (holders_of n i) (holders_of n j)) c) in
    (λ k. alone_of (e k) && any (c k) (facing l m i j (e k))) ∙ by_sees l w m i j (omega (arith, c, few)) ij (omega (arith, c, jn))

pub returns-then-alone : goal.returns-then-alone
returns-then-alone c =
    let a = c.args in
    let l = a.ground.shots.now in
    let f = facing l a.m a.i a.j (words_of c.both-star.result) in
    (λ k. (sym c.if-alone.true ∙ c.alone.ensures) k
    && any_called f a.ground.held.n _ _ c.any.result c.any.ensures.ran (road_upto _ refl) (λ x b q k. search (rules, tests)) k)
    ∙ both-tests l (words_of a.list) a.m a.i a.j a.ground.counted a.ground.held.few c.requires.0 c.requires.1 c.both-star.ensures c.edge.ensures

pub returns-else-alone : goal.returns-else-alone
returns-else-alone c =
    let a = c.args in
    let l = a.ground.shots.now in
    let f = facing l a.m a.i a.j (words_of c.both-star.result) in
    c.if-alone.false ∙ ap (λ (b : Bool). b && any a.ground.held.n f) (sym c.if-alone.false ∙ c.alone.ensures)
    ∙ both-tests l (words_of a.list) a.m a.i a.j a.ground.counted a.ground.held.few c.requires.0 c.requires.1 c.both-star.ensures c.edge.ensures
