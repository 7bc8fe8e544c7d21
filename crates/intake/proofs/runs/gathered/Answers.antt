-- `intake::runs::gathered` meets its contract: after i turns the first i shots are written.
use mathlib.Core.Path.{◌≡◌, refl, sym, ◌∙◌, ap}
use mathlib.Core.List.{List, ◌∷◌, [], ◌++◌}
use Prim.Native.Nat.{ℕ, ◌+◌, ◌≤◌, ◌<◌}
use native.Mathlib.Omega.{arith}
use native.Mathlib.Numerals.{add-one}
use lib.ListN.{length, take, drop, set, replicate, length-take}
use lib.Ieee.{Float, of_bits}
use Rattle.std.proofs.lemmas.List.{take_all, take_more_set}
use Rattle.algebra.specs.Loops.{tabulate}
use Rattle.algebra.specs.Writing.{wrote}
use Rattle.algebra.proofs.LoopLaws.{length-tabulate}
use Rattle.algebra.proofs.WritingLaws.{wrote-front}
use Rattle.shots.specs.Sizes.{shots_most}
use Rattle.intake.specs.Scaling.{at_origin}
use Rattle.intake.specs.Runs.{shot_in, shots_in}
use Rattle.intake.specs.declared.Shot.{Shot}
use Rattle.intake.proofs.runs.gathered.Goals as goal

pub loop-i-init : goal.loop-i-init
unfolding tabulate
loop-i-init c = refl

module _ (u : List ℕ) (v : List Float) (items : List Shot) (i : ℕ) (e : take i items ≡ tabulate i (shot_in u v)) where
  -- one shot more is written
  turn : {s : Shot} → i < length items → s ≡ shot_in u v i → take (i + 1) (set items i s) ≡ tabulate (i + 1) (shot_in u v)
  unfolding tabulate
  turn {s} h p = take_more_set items i s h ∙ (λ k. e k ++ p k ∷ []) ∙ ap (λ n. tabulate n (shot_in u v)) (sym (add-one i))

  -- all are, in front of those that were there
  written : (t : List Shot) → length items ≡ length u → length u ≤ i → i ≤ length u → length u ≤ length t → items ++ drop (length u) t ≡ wrote t 0 (shots_in u v)
  unfolding shots_in
  written t l h g w =
      let n : i ≡ length u = omega arith in
      let all : items ≡ tabulate (length u) (shot_in u v) = sym (take_all i items (omega (arith, l))) ∙ e ∙ ap (λ n. tabulate n (shot_in u v)) n in
      let long = length-tabulate (shot_in u v) (length u) in
      (λ k. all k ++ drop (sym long k) t) ∙ sym (wrote-front t (tabulate (length u) (shot_in u v)) (omega (arith, long)))

pub loop-i-preserved : goal.loop-i-preserved
unfolding of_bits
loop-i-preserved c = turn c.args.units.now c.args.values.now c.loop-i.shot-items c.loop-i.i c.loop-i.invariant (omega (arith, c.loop-i.auto.shot-items)) c.shot_in.ensures

pub returns : goal.returns
unfolding of_bits
returns c =
    let few : length c.args.units.now ≤ 10 = c.requires.0 in
    let front : length (take (length c.args.units.now) (replicate shots_most at_origin)) ≡ length c.args.units.now = omega (arith, length-take (length c.args.units.now) (replicate shots_most at_origin)) in
    written c.args.units.now c.args.values.now c.loop-i.shot-items c.loop-i.i c.loop-i.invariant (replicate shots_most at_origin) (c.loop-i.auto.shot-items ∙ front) (omega (arith, front, c.loop-i-test.false)) (omega (arith, front, c.loop-i.auto.i-end)) few
