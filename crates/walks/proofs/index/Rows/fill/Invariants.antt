use Rattle.std.proofs.Common.{◌≡◌}
use Rattle.walks.proofs.index.Rows.fill.Given as goal

abbrev pub invariant-loop-p : goal.invariant-loop-p
invariant-loop-p l =
    (l.self.table.ghost_name ≡ l.initial.self.table.ghost_name) × (l.self.table.now ≡ l.initial.self.table.now) × (l.self.walk.rows ≡ l.p) × (l.self.walk.step ≡ l.initial.self.walk.step)
