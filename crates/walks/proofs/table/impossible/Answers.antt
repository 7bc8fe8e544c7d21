-- `walks::table::impossible` meets its contract: no row, too many rows, or the step number against the product.
use Rattle.std.specs.Prelude.{ℕ, ◌*◌, ◌≤◌}
use native.Mathlib.Omega.{arith}
use native.Mathlib.Nat.{mul-le-mul}
use borrow.Author.Rules.{rules}
use borrow.Author.Tests.{tests}
use Rattle.reach.specs.Walks.{rows_most, impossible}
use Rattle.circuits.specs.Sizes.{circuits_most}
use Rattle.walks.proofs.table.impossible.Goals as goal

-- the product is small where the rows are few
few : (rows m count : ℕ) → rows ≤ m → m ≤ rows_most → count ≤ circuits_most → rows * count ≤ rows_most * circuits_most
few rows m count h k l = mul-le-mul {n₁ = rows} {n₂ = rows_most} (omega arith) l

pub overflow_mul-result : goal.overflow_mul-result
overflow_mul-result c =
    let a = c.args in
    let p = c.requires in
    record { fits = omega (arith, few a.walk.rows a.capacity a.count c.if-capacity-walk.false.1 p.0 p.1) }

pub returns-then-capacity-walk : goal.returns-then-capacity-walk
unfolding impossible
returns-then-capacity-walk c = search (rules, tests)

pub returns-else-capacity-walk : goal.returns-else-capacity-walk
unfolding impossible
returns-else-capacity-walk c = search (rules, tests)
