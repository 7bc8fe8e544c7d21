use Rattle.std.specs.Prelude.{ℤ, ℕ, List, [], ◌++◌, ◌+◌, map}
use Rattle.algebra.specs.Loops.{over}
use Rattle.circuits.specs.Sides.{TwoSides, masks}
use Rattle.circuits.specs.Numbering.{three, threes_with, threes_from, four, fours_upon, fours_with, fours_from, fours, circuits_of}
use Rattle.circuits.proofs.FoundLaws.{Pouring}
use Rattle.circuits.proofs.kernel.fill.Given as goal

-- the circuits still to come: threes and then all fours
abbrev threes_a : List ℤ → ℕ → ℕ → List TwoSides
threes_a l n a = over (threes_from l) a n ++ fours l

abbrev threes_b : List ℤ → ℕ → ℕ → ℕ → List TwoSides
threes_b l n a b = over (threes_with l a) b n ++ threes_a l n (a + 1)

abbrev threes_c : List ℤ → ℕ → ℕ → ℕ → ℕ → List TwoSides
threes_c l n a b c = over (three l a b) c n ++ threes_b l n a (b + 1)

-- fours alone
abbrev fours_a : List ℤ → ℕ → ℕ → List TwoSides
fours_a l n a = over (fours_from l) a n ++ []

abbrev fours_b : List ℤ → ℕ → ℕ → ℕ → List TwoSides
fours_b l n a b = over (fours_with l a) b n ++ fours_a l n (a + 1)

abbrev fours_c : List ℤ → ℕ → ℕ → ℕ → ℕ → List TwoSides
fours_c l n a b c = over (fours_upon l a b) c n ++ fours_b l n a (b + 1)

abbrev fours_d : List ℤ → ℕ → ℕ → ℕ → ℕ → ℕ → List TwoSides
fours_d l n a b c d = over (four l a b c) d n ++ fours_c l n a b (c + 1)

abbrev pub invariant-loop-a : goal.invariant-loop-a
invariant-loop-a l = Pouring (threes_a l.shots l.n l.a) l.found.items (map masks (circuits_of l.shots))

abbrev pub invariant-loop-b : goal.invariant-loop-b
invariant-loop-b l = Pouring (threes_b l.shots l.n l.a l.b) l.found.items (map masks (circuits_of l.shots))

abbrev pub invariant-loop-c : goal.invariant-loop-c
invariant-loop-c l = Pouring (threes_c l.shots l.n l.a l.b l.c) l.found.items (map masks (circuits_of l.shots))

abbrev pub invariant-loop-a-2 : goal.invariant-loop-a-2
invariant-loop-a-2 l = Pouring (fours_a l.shots l.n l.a) l.found.items (map masks (circuits_of l.shots))

abbrev pub invariant-loop-b-2 : goal.invariant-loop-b-2
invariant-loop-b-2 l = Pouring (fours_b l.shots l.n l.a l.b) l.found.items (map masks (circuits_of l.shots))

abbrev pub invariant-loop-c-2 : goal.invariant-loop-c-2
invariant-loop-c-2 l = Pouring (fours_c l.shots l.n l.a l.b l.c) l.found.items (map masks (circuits_of l.shots))

abbrev pub invariant-loop-d : goal.invariant-loop-d
invariant-loop-d l = Pouring (fours_d l.shots l.n l.a l.b l.c l.d) l.found.items (map masks (circuits_of l.shots))
