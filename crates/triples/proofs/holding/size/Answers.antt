-- `triples::holding::size` meets its contract: the count is the tally so far.
use mathlib.Core.Path.{◌≡◌, refl, sym, ◌∙◌, ap}
use mathlib.Core.Bool.{false, cond}
use mathlib.Core.List.{List}
use Prim.Native.Nat.{ℕ, ◌+◌, ◌*◌, ◌<◌, ◌≤◌}
use native.Mathlib.Omega.{arith}
use native.Mathlib.Nat.{add-zero}
use Rattle.algebra.specs.Loops.{tally}
use Rattle.algebra.specs.Words.{word_bits, member}
use Rattle.algebra.proofs.LoopLaws.{found_on, found_less, tally_none, tally-turn}
use Rattle.triples.specs.Sizes.{word_count}
use Rattle.triples.specs.Sets.{words_of, size_of}
use Rattle.triples.proofs.RankLaws.{triples_few}
use Rattle.triples.proofs.holding.size.Lts
use Rattle.triples.proofs.holding.size.Reads
use Rattle.triples.proofs.holding.size.Tie
use Rattle.triples.proofs.holding.size.Invariants.{Counted}
use Rattle.triples.proofs.holding.size.Goals as goal

abbrev After-count-count : Type 0
After-count-count = Lts.After-count Tie.the-claims Reads.Pre Reads.Post goal.the-invariant-loop-r goal.the-decreases-loop-r

counted-on : (w : List ℕ) (k n r : ℕ) → r < n → member w r ≡ false → Counted w k r → Counted w k (r + 1)
counted-on w k n r l m p = (omega (arith, p.0), tally-turn (member w) (λ _. 1) r p.1 m (sym (add-zero k)))

room : (c : After-count-count) → c.count-count.result ≤ word_bits * word_count
room c = omega (arith, c.count-count.ensures, triples_few c.args.n c.requires)

pub loop-r-init : goal.loop-r-init
loop-r-init c =
    let w = words_of c.args.list in
    let n = c.count-count.result in
    found_on (member w) n _ (room c.before) (Counted w 0) 0 (counted-on w 0 n) (omega arith) (omega arith, tally_none _) c.from-r.ensures

pub loop-r-preserved : goal.loop-r-preserved
loop-r-preserved c =
    let l = c.before.before in
    let w = words_of l.args.list in
    let n = l.count-count.result in
    let v = l.loop-r in
    let h = c.loop-r-test.true in
    let p = v.invariant.0 h in
    found_on (member w) n _ (room c.before.before.before.before) (Counted w (v.k + 1)) (v.r + 1) (counted-on w (v.k + 1) n) (omega (arith, h))
    (omega (arith, p.1.0), tally-turn (member w) (λ _. 1) v.r p.1.1 p.0 refl) c.from-r-in-loop-r.ensures

pub returns : goal.returns
unfolding size_of
returns c =
    let l = c.before in
    let q = l.before.before in
    let w = words_of q.args.list in
    (l.loop-r.invariant.1 c.loop-r-test.false).1 ∙ ap (λ (x : ℕ). tally x (λ i. cond (member w i) 1 0)) q.count-count.ensures

pub overflow_add-k : goal.overflow_add-k
overflow_add-k c = omega (arith, room c.before.before.before, (c.loop-r.invariant.0 c.loop-r-test.true).1.0, c.loop-r-test.true)

pub overflow_add-r : goal.overflow_add-r
overflow_add-r c = omega (arith, room c.before.before.before, c.loop-r-test.true)

pub loop-r-smaller : goal.loop-r-smaller
loop-r-smaller c = found_less _ _ _ (room c.before.before.before.before) _ c.loop-r-test.true c.from-r-in-loop-r.ensures
