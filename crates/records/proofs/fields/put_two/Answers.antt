-- `records::fields::put_two` meets its contract: the two bytes are copied to their place.
use mathlib.Core.Path.{◌∙◌}
use native.Mathlib.Omega.{arith}
use Rattle.records.specs.Fields.{bytes_of}
use Rattle.records.proofs.FieldLaws.{bytes-length, two_bytes, wrote_range}
use Rattle.records.proofs.fields.put_two.Goals as goal

pub returns : goal.returns
returns c =
    let a = c.args in
    wrote_range a.out.now a.at _ (bytes_of 2 a.v) _ (c.copy_from_slice.ensures.after ∙ c.to_be_bytes.ensures ∙ two_bytes a.v) (omega (arith, bytes-length 2 a.v)) (omega arith)
