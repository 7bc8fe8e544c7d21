-- `surfaces::areas::of_rank` meets its contract: the size is that of the triple of the rank.
use mathlib.Core.Path.{◌∙◌, ap}
use native.Mathlib.Omega.{arith}
use Rattle.shots.specs.Patch.{count_of}
use Rattle.shots.proofs.Bounds.{area_small}
use Rattle.triples.proofs.RankLaws.{triple_shots}
use Rattle.surfaces.specs.Areas.{triple_area_of}
use Rattle.surfaces.proofs.areas.of_rank.Goals as goal

pub size-requires : goal.size-requires
size-requires c =
    let h = triple_shots (count_of c.args.shots.now) c.args.r c.requires.2 c.triple_at-s.ensures in
    (h.0, h.1, h.2, c.requires.0)

pub returns : goal.returns
unfolding triple_area_of
returns c =
    let l = c.args.shots.now in
    let x = c.triple_at-s.result in
    (c.size.ensures ∙ ap (triple_area_of l) c.triple_at-s.ensures, omega (arith, c.size.ensures, area_small l c.requires.0 x.i x.j x.k))
