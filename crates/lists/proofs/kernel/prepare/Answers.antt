-- `lists::kernel::prepare` meets its contract: the rows are written part by part, each part behind those that it reads.
use Rattle.std.proofs.Common.{rules}
use Rattle.lists.proofs.SideRows.{all_prepared}
use Rattle.lists.proofs.kernel.prepare.Goals as goal

pub returns : goal.returns
returns c =
    record {
      circuits = c.fill.ensures;
      table = all_prepared c.args.shots.now c.requires.1 c.fill.ensures _ _ _ c.fill-2.ensures.1 c.sides.ensures.1 c.sides.ensures.2 c.fill-3.ensures.2 c.fill-3.ensures.1 (search rules) (search rules) c.solid.ensures c.put_row.ensures;
    }
