-- `surfaces::areas::sum` meets its contract: the sum is the tally so far, and no term is large.
use Rattle.std.specs.Prelude.{◌≡◌, ℕ, ◌+◌, ◌*◌, ◌<◌, ◌≤◌, false, cond, List, ℤ}
use mathlib.Core.Path.{sym, ◌∙◌, ap}
use native.Mathlib.Omega.{arith}
use native.Mathlib.Nat.{add-zero}
use Rattle.algebra.specs.Loops.{tally}
use Rattle.algebra.specs.Words.{word_bits, member}
use Rattle.algebra.proofs.LoopLaws.{found_on, found_less, tally_none, tally-turn}
use Rattle.shots.specs.Sizes.{shots_most}
use Rattle.shots.specs.Patch.{count_of}
use Rattle.triples.specs.Sizes.{word_count}
use Rattle.triples.specs.Ranks.{triple_count}
use Rattle.triples.specs.Sets.{words_of}
use Rattle.triples.proofs.RankLaws.{triples_few}
use Rattle.surfaces.specs.Areas.{area_sum_of}
use Rattle.surfaces.proofs.areas.sum.Invariants.{size_at, Summed}
use Rattle.surfaces.proofs.areas.sum.Goals as goal

summed-on : (l : List ℤ) (w : List ℕ) (s n r : ℕ) → r < n → member w r ≡ false → Summed l w s r → Summed l w s (r + 1)
summed-on l w s n r h m p = (omega (arith, p.0), tally-turn (member w) (size_at l) r p.1 m (sym (add-zero s)))

room : {n count : ℕ} → n ≤ shots_most → count ≡ triple_count n → count ≤ word_bits * word_count
room {n} h e = omega (arith, e, triples_few n h)

pub loop-r-init : goal.loop-r-init
loop-r-init c =
    let w = words_of c.args.list in
    let n = c.count-count.result in
    found_on (member w) n _ (room c.requires.1 c.count-count.ensures) (Summed c.args.shots.now w 0) 0 (summed-on c.args.shots.now w 0 n) (omega arith) (omega arith, tally_none _) c.from-r.ensures

pub of_rank-sum-requires : goal.of_rank-sum-requires
of_rank-sum-requires c = (c.requires.0, c.requires.1, omega (arith, c.count-count.ensures, c.loop-r-test.true))

pub overflow_add-sum : goal.overflow_add-sum
overflow_add-sum c = omega (arith, room c.requires.1 c.count-count.ensures, (c.loop-r.invariant.0 c.loop-r-test.true).1.0, c.loop-r-test.true, c.of_rank-sum.ensures.1)

pub loop-r-preserved : goal.loop-r-preserved
loop-r-preserved c =
    let x = c.args.shots.now in
    let w = words_of c.args.list in
    let v = c.loop-r in
    let h = c.loop-r-test.true in
    let p = v.invariant.0 h in
    let s = v.sum + c.of_rank-sum.result in
    found_on (member w) c.count-count.result _ (room c.requires.1 c.count-count.ensures) (Summed x w s) (v.r + 1) (summed-on x w s c.count-count.result) (omega (arith, h))
    (omega (arith, p.1.0, c.of_rank-sum.ensures.1), tally-turn (member w) (size_at x) v.r p.1.1 p.0 (ap (λ y. v.sum + y) c.of_rank-sum.ensures.0)) c.from-r-in-loop-r.ensures

pub returns : goal.returns
unfolding area_sum_of
returns c =
    let x = c.args.shots.now in
    let w = words_of c.args.list in
    (c.loop-r.invariant.1 c.loop-r-test.false).1 ∙ ap (λ (k : ℕ). tally k (λ i. cond (member w i) (size_at x i) 0)) c.count-count.ensures

pub overflow_add-r : goal.overflow_add-r
overflow_add-r c = omega (arith, room c.requires.1 c.count-count.ensures, c.loop-r-test.true)

pub loop-r-smaller : goal.loop-r-smaller
loop-r-smaller c = found_less _ _ _ (room c.requires.1 c.count-count.ensures) _ c.loop-r-test.true c.from-r-in-loop-r.ensures
