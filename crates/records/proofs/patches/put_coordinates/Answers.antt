-- `records::patches::put_coordinates` meets its contract: what is still to be written makes the same of the run as it stands as all of it makes of the run at the start.
use mathlib.Core.Path.{◌≡◌, refl, ◌∙◌, ap}
use mathlib.Core.List.{List}
use Prim.Native.Nat.{ℕ, ◌+◌, ◌*◌}
use native.Mathlib.Omega.{arith}
use lib.ListN.{length, get_or}
use lib.IntN.{ℤ, pos}
use mir.Syntax.{w32}
use Rattle.algebra.specs.Writing.{wrote}
use Rattle.algebra.proofs.SizeLaws.{read_back}
use Rattle.algebra.proofs.WritingLaws.{Putting, putting_none, putting-turn, putting_end, putting-length}
use Rattle.records.specs.Fields.{bytes_of, code_of}
use Rattle.records.specs.Formats.{coordinate_bytes}
use Rattle.records.proofs.FormatLaws.{coordinate-length}
use Rattle.records.proofs.patches.put_coordinates.Goals as goal

pub loop-i-init : goal.loop-i-init
loop-i-init c = putting_none (coordinate_bytes c.args.shots.now) (length c.args.shots.now) c.args.out.now 4

-- the length stays
kept : (l : List ℤ) (t out : List ℕ) (i : ℕ) → Putting (coordinate_bytes l) (length l) t 4 i out (4 + 4 * i) → length out ≡ length t
kept l t out i h = putting-length (coordinate_bytes l) (length l) t 4 i out (4 + 4 * i) h

pub put_four-requires : goal.put_four-requires
put_four-requires c =
    omega (arith, kept c.args.shots.now c.args.out.now c.loop-i.out c.loop-i.i c.loop-i.invariant, c.requires.1, c.loop-i-test.true)

pub loop-i-preserved : goal.loop-i-preserved
unfolding coordinate_bytes
loop-i-preserved c =
    let a = c.args in
    let i = c.loop-i.i in
    putting-turn (coordinate_bytes a.shots.now) (length a.shots.now) a.out.now 4 i c.loop-i.out (4 + 4 * i) c.loop-i.invariant c.loop-i-test.true
    (omega (arith, coordinate-length a.shots.now i), c.put_four.ensures ∙ ap (λ (x : ℤ). wrote c.loop-i.out (4 + 4 * i) (bytes_of 4 (code_of x))) (read_back w32 (get_or a.shots.now i (pos 0)) (omega arith) refl))

pub shape_of-out : goal.shape_of-out
shape_of-out c = kept c.args.shots.now c.args.out.now c.loop-i.out c.loop-i.i c.loop-i.invariant

pub returns : goal.returns
returns c =
    let a = c.args in
    (putting_end (coordinate_bytes a.shots.now) (length a.shots.now) a.out.now 4 c.loop-i.i c.loop-i.out (4 + 4 * c.loop-i.i) c.loop-i.invariant c.loop-i-test.false).1
