-- `records::patches::coordinates` meets its contract: after i turns the first i coordinates stand in front of the zeros.
use mathlib.Core.Path.{◌≡◌, refl, sym, ◌∙◌}
use mathlib.Core.List.{List, ◌++◌}
use Prim.Native.Nat.{ℕ, ◌+◌, ◌*◌, ◌≤◌}
use native.Mathlib.Omega.{arith}
use lib.ListN.{length, get_or, drop, replicate, length-set}
use lib.IntN.{ℤ, pos}
use mir.Syntax.{w32}
use Rattle.algebra.specs.Loops.{tabulate}
use Rattle.algebra.specs.Writing.{wrote}
use Rattle.algebra.proofs.LoopLaws.{fill_none, fill_more, length-tabulate}
use Rattle.algebra.proofs.SizeLaws.{read_back}
use Rattle.algebra.proofs.WritingLaws.{wrote_parts}
use Rattle.shots.specs.Sizes.{coordinates_most}
use Rattle.records.specs.Reading.{coordinate_at, coordinates_of}
use Rattle.records.proofs.patches.coordinates.Goals as goal

pub loop-i-init : goal.loop-i-init
loop-i-init c = (refl, fill_none _ _)

pub loop-i-preserved : goal.loop-i-preserved
unfolding coordinate_at
loop-i-preserved c =
    let v = c.loop-i.invariant in (
      length-set c.loop-i.out _ _ ∙ v.0,
      fill_more _ _ _ (omega (arith, c.loop-i-test.true, c.requires)) v.1
          (read_back w32 c.four.result c.four.type_inv c.four.ensures),
    )

-- all of them stand in front
in-front : (b : List ℕ) (i : ℕ) (t : List ℤ) {u : List ℤ} → i ≡ 2 * get_or b 3 0 → i ≤ length t → u ≡ tabulate i (coordinate_at b) ++ drop i t → u ≡ wrote t 0 (coordinates_of b)
unfolding coordinates_of
in-front b i t e h p =
    let s = tabulate (2 * get_or b 3 0) (coordinate_at b) in
    let g : i ≡ 0 + length s = omega (arith, length-tabulate (coordinate_at b) (2 * get_or b 3 0)) in
    p ∙ (λ k. tabulate (e k) (coordinate_at b) ++ drop (g k) t) ∙ sym (wrote_parts t 0 s (omega arith))

pub returns : goal.returns
returns c =
    in-front c.args.b.now c.loop-i.i (replicate coordinates_most (pos 0)) (omega (arith, c.loop-i-test.false, c.loop-i.auto.i-end, c.requires.1)) (omega (arith, c.loop-i.auto.i-end, c.requires.0)) c.loop-i.invariant.1
