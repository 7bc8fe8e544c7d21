-- What each public call of this room answers, for every input: its contract is an equation with one of these.
--
--   read_signs, read_patch   what a call's `Result` says where an array stands beside the answer (specs/Refusals: `answered`, of the others)
--   accept_of l           accepted, or 1 2 3 4
--   orientation_of l a b c   the double area of three shots, with its sign; or 1-4, 7
--   double_area_of l a b c    the size of what `orientation` gives; or its refusal
--   Cocircuit            the answer of `cocircuit`, and the places of the array beside it
--   cocircuit_of l i j    the sign of what `orientation` gives for (i, j, k) at each shot k and 0 past them; or 1-4, 7, and 0 everywhere
--   border_call_of l       the number of sides; or 1-4
--   shots_rule l a b c, pair_rule l i j    7: one of three numbers is not a shot; not a pair i < j of shots
--   sign_at l i j k, signs_with a s        the sign of place k in the cocircuit of i, j; the array that goes with an answer
--   sides_of l j          how many i < j make a side with j
--   PatchRead            the answer of a call of a room above this one that hands out shots, how many, and the array beside it
--   coordinates_with a l  the array that goes with an answer
--   patch_given rs n l    what such a call answers: n shots, and their coordinates l in front of zeros; or a rule of rs, and 0 everywhere
--
-- Source: document 01, "Shots and orientation"; document 02, E1, E6.
use Rattle.std.specs.Prelude.{cond, ◌||◌, List, [], ◌∷◌, ◌++◌, ℕ, leb, ltb, replicate, ℤ, pos, nat_abs, Result, Ok, Err}
use Rattle.algebra.specs.Answer.{Answer, gives, refuses, on_value, Rule, chain}
use Rattle.algebra.specs.Loops.{tabulate, tally}
use Rattle.algebra.specs.Sign.{value}
use Rattle.algebra.specs.Writing.{wrote}
use Rattle.shots.specs.Sizes.{shots_most, coordinates_most}
use Rattle.shots.specs.Coordinates.{area_of}
use Rattle.shots.specs.Patch.{count_of, orient_of, side_pair_of}
use Rattle.shots.specs.Tests.{shot_rules}
use Rattle.shots.specs.Refusals.{number_of}
use Rattle.shots.specs.declared.refusal.Refusal.{Refusal}
use Rattle.shots.specs.declared.Handed.{Handed}

-- ---- what a `Result` says where an array stands beside the answer: 0 at each of its places where the call is refused

-- the answer, and the places of the array beside it
pub record Cocircuit : Type 0 where
  pub answer : Answer (Unit {0})
  pub signs : List ℤ

abbrev pub read_signs : Result (List ℤ) Refusal → Cocircuit
read_signs (Ok s) = record { answer = gives tt; signs = s }
read_signs (Err r) = record { answer = refuses (number_of r); signs = replicate shots_most (pos 0) }

pub record PatchRead : Type 0 where
  pub answer : Answer ℕ
  pub coordinates : List ℤ

abbrev pub read_patch : Result Handed Refusal → PatchRead
read_patch (Ok p) = record { answer = gives p.count; coordinates = p.coordinates }
read_patch (Err r) = record { answer = refuses (number_of r); coordinates = replicate coordinates_most (pos 0) }

-- the array that goes with an answer: the coordinates in front where nothing refuses
abbrev pub coordinates_with : Answer ℕ → List ℤ → List ℤ
coordinates_with (gives n) l = wrote (replicate coordinates_most (pos 0)) 0 l
coordinates_with (refuses n) l = replicate coordinates_most (pos 0)

abbrev pub patch_given : List Rule → ℕ → List ℤ → PatchRead
patch_given rs n l = record { answer = chain rs n; coordinates = coordinates_with (chain rs n) l }

-- ---- the calls

unfoldable pub accept_of : List ℤ → Answer (Unit {0})
accept_of l = chain (shot_rules l) tt

-- 7: one of three numbers is not a shot
abbrev pub shots_rule : List ℤ → ℕ → ℕ → ℕ → Rule
shots_rule l a b c = record { number = 7; broken = leb (count_of l) a || (leb (count_of l) b || leb (count_of l) c) }

unfoldable pub orientation_of : List ℤ → ℕ → ℕ → ℕ → Answer ℤ
orientation_of l a b c = chain (shot_rules l ++ shots_rule l a b c ∷ []) (area_of l a b c)

unfoldable pub double_area_of : List ℤ → ℕ → ℕ → ℕ → Answer ℕ
double_area_of l a b c = on_value nat_abs (orientation_of l a b c)

-- 7: not a pair i < j of shots
abbrev pub pair_rule : List ℤ → ℕ → ℕ → Rule
pair_rule l i j = record { number = 7; broken = leb (count_of l) i || (leb (count_of l) j || leb j i) }

-- the sign of place k in the cocircuit of i, j: 0 past the shots
unfoldable pub sign_at : List ℤ → ℕ → ℕ → ℕ → ℤ
sign_at l i j k = cond (ltb k (count_of l)) (value (orient_of l i j k)) (pos 0)

-- the array that goes with an answer: the signs where nothing refuses
abbrev pub signs_with : Answer (Unit {0}) → List ℤ → List ℤ
signs_with (gives v) s = s
signs_with (refuses n) s = replicate shots_most (pos 0)

unfoldable pub cocircuit_of : List ℤ → ℕ → ℕ → Cocircuit
cocircuit_of l i j =
    record {
      answer = chain (shot_rules l ++ pair_rule l i j ∷ []) tt;
      signs = signs_with (chain (shot_rules l ++ pair_rule l i j ∷ []) tt) (tabulate shots_most (sign_at l i j));
    }

-- how many i < j make a side with j
unfoldable pub sides_of : List ℤ → ℕ → ℕ
sides_of l j = tally j (λ i. cond (side_pair_of l i j) 1 0)

unfoldable pub border_call_of : List ℤ → Answer ℕ
border_call_of l = chain (shot_rules l) (tally (count_of l) (sides_of l))
