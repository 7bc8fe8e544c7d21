-- What the public call of this room answers, for every input.
--
--   test_of l w    accepted; or 1-4, 7 10 8 9
--
-- Source: document 01, "What a surface is".
use Rattle.std.specs.Prelude.{ℕ, List, ◌++◌, ℤ}
use Rattle.algebra.specs.Answer.{Answer, chain}
use Rattle.shots.specs.Tests.{shot_rules}
use Rattle.lists.specs.Tests.{list_rules}

unfoldable pub test_of : List ℤ → List ℕ → Answer (Unit {0})
test_of l w = chain (shot_rules l ++ list_rules l w) tt
