-- `records::fields::put_four` meets its contract: the four bytes of the number's code are put one by one, the most significant first.
use mathlib.Core.Path.{◌≡◌, ◌∙◌, ap}
use mir.Syntax.{w32}
use mir.Val.{of_z}
use mir.Facts.{to_z-of_z}
use Rattle.std.specs.Int.{to_le_bytes}
use Rattle.records.specs.Fields.{code_of}
use Rattle.records.proofs.FieldLaws.{code_read, four_put}
use Rattle.records.proofs.fields.put_four.Goals as goal

pub returns : goal.returns
returns c =
    let a = c.args in
    let v = code_of a.x in
    let e : c.to_le_bytes.result ≡ to_le_bytes w32 v = c.to_le_bytes.ensures ∙ ap (to_le_bytes w32) (ap (of_z w32) (to_z-of_z c.ranges.x) ∙ code_read a.x) in
    rw e (four_put a.out.now a.at v)
