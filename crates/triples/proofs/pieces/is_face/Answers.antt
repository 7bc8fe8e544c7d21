-- `triples::pieces::is_face` meets its contract.
use mathlib.Core.Path.{ap}
use lib.Dec.{ltb}
use Rattle.triples.proofs.pieces.is_face.Goals as goal

pub returns : goal.returns
returns c = ap (ltb 0) c.holders.ensures
