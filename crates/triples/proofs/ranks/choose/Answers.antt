-- `triples::ranks::choose` meets its contract: after i turns it is the number for i, which is small.
use mathlib.Core.Path.{refl, sym, ◌∙◌, ap}
use Prim.Native.Nat.{ℕ, ◌-◌, ◌*◌, ◌+◌, ◌/◌, ◌^◌, ◌≤◌}
use native.Mathlib.Omega.{arith}
use native.Mathlib.Nat.{mul-le-mul}
use lib.Pow.{pow_mono}
use Rattle.algebra.specs.Places.{choose}
use Rattle.algebra.proofs.ChooseLaws.{choose_none, choose_step, choose_most}
use Rattle.shots.specs.Sizes.{shots_most}
use Rattle.triples.proofs.ranks.choose.Goals as goal

pub returns-then-m-k : goal.returns-then-m-k
returns-then-m-k c = sym (choose_none _ _ c.if-m-k.true)

pub loop-i-init : goal.loop-i-init
unfolding choose
loop-i-init c = refl

pub overflow_mul-c : goal.overflow_mul-c
overflow_mul-c c =
    let few : c.loop-i.c ≤ 2 ^ shots_most = omega (arith, c.loop-i.invariant, choose_most c.args.m c.loop-i.i, pow_mono c.requires) in
    omega (arith, mul-le-mul {n₁ = c.loop-i.c} {m₁ = c.args.m - c.loop-i.i} {n₂ = 2 ^ shots_most} {m₂ = shots_most} few (omega (arith, c.requires)))

pub loop-i-preserved : goal.loop-i-preserved
loop-i-preserved c = ap (λ (x : ℕ). x * (c.args.m - c.loop-i.i) / (c.loop-i.i + 1)) c.loop-i.invariant ∙ choose_step _ _
