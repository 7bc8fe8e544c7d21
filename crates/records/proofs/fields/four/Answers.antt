-- `records::fields::four` meets its contract: four bytes, read as two's complement.
use mathlib.Core.Path.{◌≡◌, ◌∙◌, ap}
use mathlib.Core.List.{List}
use Prim.Native.Nat.{ℕ, ◌+◌, ◌*◌, ◌^◌, ◌<◌}
use native.Mathlib.Omega.{arith}
use native.Mathlib.Nat.{add-zero}
use lib.ListN.{get_or}
use mir.Syntax.{w32}
use mir.Val.{to_z}
use Rattle.algebra.proofs.SizeLaws.{read_back}
use Rattle.records.specs.Fields.{field_of}
use Rattle.records.proofs.FieldLaws.{signed_read}
use Rattle.records.proofs.fields.four.Goals as goal

field-four : (b : List ℕ) (at : ℕ) → get_or b at 0 * 16777216 + get_or b (at + 1) 0 * 65536 + get_or b (at + 2) 0 * 256 + get_or b (at + 3) 0 ≡ field_of 4 b at
unfolding field_of
field-four b at = omega (arith, ap (λ k. get_or b k 0) (add-zero at))

pub returns : goal.returns
returns c =
    let b = c.args.b.now in
    let at = c.args.at in
    let small : field_of 4 b at < 2 ^ 32 = omega (arith, field-four b at, c.type_inv.b at, c.type_inv.b (at + 1), c.type_inv.b (at + 2), c.type_inv.b (at + 3)) in
    read_back w32 c.from_be_bytes.result c.from_be_bytes.type_inv (c.from_be_bytes.ensures ∙ ap (to_z w32) (field-four b at) ∙ signed_read (field_of 4 b at) small)
