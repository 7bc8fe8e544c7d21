-- `ready::kernel::prepare` meets its contract: what a test reads, and the stars of the sides of its circuits.
use Rattle.std.proofs.Common.{rules, refl, ◌≡◌, ◌*◌, length}
use native.Mathlib.Omega.{arith}
use Rattle.shots.proofs.Patch.{patch_near, patch_few}
use Rattle.triples.specs.Sizes.{word_count}
use Rattle.lists.specs.Held.{held_rows}
use Rattle.lists.proofs.HeldLaws.{held_low, held_sides}
use Rattle.surfaces.proofs.ByStars.{sum_low}
use Rattle.ready.proofs.kernel.prepare.Goals as goal

pub prepare-requires : goal.prepare-requires
prepare-requires c = let l = c.args.shots.now in (patch_near l c.requires, (patch_few l c.requires).1)

pub invariant_of-holders : goal.invariant_of-holders
invariant_of-holders c =
    let few = (patch_few c.args.shots.now c.requires).1 in
    let long : length c.prepare.new.held.rows ≡ word_count * held_rows = search rules in
    record { few = few; room = omega (arith, few, long); holding = c.prepare.ensures.table.holding }

pub all_stars-requires : goal.all_stars-requires
all_stars-requires c z h =
    let l = c.args.shots.now in
    let low = held_low l c.prepare.ensures refl z h in
    sum_low l (patch_few l c.requires).1 z low _ _ (held_sides l c.prepare.ensures refl z low _ refl)
