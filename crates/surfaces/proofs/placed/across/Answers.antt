-- `surfaces::placed::across` meets its contract: the triples of the edge meet row v, and the two signs are opposite.
use Rattle.std.specs.Prelude.{◌&&◌, ℕ}
use mathlib.Core.Path.{sym, ◌∙◌, ap}
use Rattle.algebra.specs.Words.{meets_of}
use Rattle.triples.specs.Sets.{holders_of}
use Rattle.surfaces.proofs.ByEdges.{signs_fit, signs-opposed}
use Rattle.surfaces.proofs.placed.across.Goals as goal

pub overflow_mul-result : goal.overflow_mul-result
overflow_mul-result c = signs_fit _ _ c.sign.ensures c.sign-then-meets.ensures

pub returns-then-meets : goal.returns-then-meets
returns-then-meets c =
    (λ k. (sym c.if-meets.true ∙ c.meets.ensures ∙ ap (meets_of _) (c.row.ensures ∙ ap (λ (n : ℕ). holders_of n c.args.v) c.args.ground.counted)) k && signs-opposed _ _ c.sign.ensures c.sign-then-meets.ensures k)
