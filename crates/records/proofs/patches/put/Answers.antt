-- `records::patches::put` meets its contract: the length field, the version and the number of shots, then the coordinates behind them.
use Rattle.std.proofs.Common.{◌∙◌, ap, ℕ, ◌+◌, ◌*◌, length, List}
use Rattle.algebra.specs.Loops.{over}
use Rattle.algebra.specs.Writing.{wrote}
use Rattle.shots.specs.Patch.{count_of}
use Rattle.records.specs.Formats.{coordinate_bytes, patch_bytes}
use Rattle.records.proofs.FormatLaws.{head_set, head-put}
use Rattle.records.proofs.patches.put.Goals as goal

pub returns : goal.returns
unfolding patch_bytes
returns c =
    let l = c.args.shots.now in
    let n = count_of l in
    let s = over (coordinate_bytes l) 0 (length l) in
    c.put_coordinates.ensures ∙ ap (λ (u : List ℕ). wrote (head_set u n) 4 s) c.put_two.ensures ∙ head-put c.args.out.now (2 + 8 * n) n s
