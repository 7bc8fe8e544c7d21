use Rattle.std.specs.Prelude.{◌≡◌, map, take}
use Rattle.ready.specs.Ready.{stars_of}
use Rattle.ready.proofs.kernel.all_stars.Given as goal

abbrev pub invariant-loop-side : goal.invariant-loop-side
invariant-loop-side l = l.stars.items ≡ map (stars_of l.holders.n) (take l.side-index l.side-items)
