-- `triples::ranks::rank_in` meets its contract: all pieces but those after it and itself; those after it are counted by its numbers, from the first on.
use mathlib.Core.Path.{◌≡◌, ◌∙◌, ap}
use Prim.Native.Nat.{ℕ, suc, ◌+◌, ◌-◌, ◌^◌, ◌≤◌, ◌<◌}
use native.Mathlib.Omega.{arith}
use lib.Pow.{pow_mono}
use Rattle.algebra.specs.Sets.{set_of, lowest_of}
use Rattle.algebra.specs.Places.{choose, later_of}
use Rattle.algebra.specs.Words.{clear_bit}
use Rattle.algebra.proofs.ChooseLaws.{choose_most}
use Rattle.shots.specs.Sizes.{shots_most, mask_bits}
use Rattle.triples.specs.Ranks.{rank_in}
use Rattle.triples.specs.Pieces.{Piece}
use Rattle.triples.proofs.PieceLaws.{rank_by, Passed, passed_none, passed_some, passed_low, passed_more, passed_end}
use Rattle.triples.proofs.ranks.rank_in.Goals as goal

module _ (n size x : ℕ) (r : n ≤ shots_most) (p : Piece size n x) where
  -- the pieces before it, it, and those after it; they are few
  all : rank_in size n (set_of n x) + suc (later_of n (set_of n x)) ≡ choose n size
  all = rank_by size n x p

  few : choose n size ≤ 2 ^ shots_most
  few = omega (arith, choose_most n size, pow_mono r)

  -- at a number of it
  module _ {t m y : ℕ} (h : Passed n (set_of n x) t m y) (l : 0 < m) {i : ℕ} (e : i ≡ lowest_of mask_bits y) where
    low : i < n
    low = passed_low _ _ h mask_bits (omega (arith, r)) l e

    next : {c : ℕ} → c ≡ choose (n - 1 - i) (m - 1 + 1) → Passed n (set_of n x) (t + c) (m - 1) (clear_bit y i)
    next d = passed_more _ _ h mask_bits (omega (arith, r)) l e (d ∙ ap (choose (n - 1 - i)) (let z : m - 1 + 1 ≡ m = omega arith in z))

pub loop-left-init : goal.loop-left-init
loop-left-init c = passed_none _ _ _ c.requires.1

pub lowest-i-requires : goal.lowest-i-requires
lowest-i-requires c = passed_some _ _ c.loop-left.invariant c.loop-left-test.true

pub overflow_sub-n : goal.overflow_sub-n
overflow_sub-n c = omega (arith, low c.args.n c.args.size c.args.x c.requires.0 c.requires.1 c.loop-left.invariant c.loop-left-test.true c.lowest-i.ensures.0)

pub overflow_sub-n-in-loop-left : goal.overflow_sub-n-in-loop-left
overflow_sub-n-in-loop-left c = omega (arith, low c.args.n c.args.size c.args.x c.requires.0 c.requires.1 c.loop-left.invariant c.loop-left-test.true c.lowest-i.ensures.0)

pub overflow_add-after : goal.overflow_add-after
overflow_add-after c =
    let n = c.args.n in
    let k = c.args.size in
    let x = c.args.x in
    let p = next n k x c.requires.0 c.requires.1 c.loop-left.invariant c.loop-left-test.true c.lowest-i.ensures.0 c.choose-after.ensures in
    omega (arith, p.whole, all n k x c.requires.0 c.requires.1, few n k x c.requires.0 c.requires.1)

pub loop-left-preserved : goal.loop-left-preserved
loop-left-preserved c =
    rw c.without-y.ensures (next c.args.n c.args.size c.args.x c.requires.0 c.requires.1 c.loop-left.invariant c.loop-left-test.true c.lowest-i.ensures.0 c.choose-after.ensures)

pub overflow_sub-result : goal.overflow_sub-result
overflow_sub-result c = omega (arith, all c.args.n c.args.size c.args.x c.requires.0 c.requires.1, c.choose.ensures)

pub overflow_sub-result-2 : goal.overflow_sub-result-2
overflow_sub-result-2 c = omega (arith, all c.args.n c.args.size c.args.x c.requires.0 c.requires.1, c.choose.ensures, passed_end _ _ c.loop-left.invariant c.loop-left-test.false)

pub returns : goal.returns
returns c = omega (arith, all c.args.n c.args.size c.args.x c.requires.0 c.requires.1, c.choose.ensures, passed_end _ _ c.loop-left.invariant c.loop-left-test.false)
