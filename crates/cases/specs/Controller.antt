-- Shots from a controller as document 02, E2 and E13, takes them, worked out by hand: floats that are exact in binary, so that a reader can check each.
--
--   Given         an edition, an array's shots, how many of them are given, and what `take` answers
--   controller    the cases: plain metres and feet, halves of both signs in both units, -0, what is past the count; 1; 16 and 2 in their order; 3 and 4 on the whole numbers; then the two editions beside each other, and 17
--
-- Theorem: proofs/Cases (`controller_right`).
use Rattle.std.specs.Prelude.{true, false, List, [], ◌∷◌, ℕ, replicate, ℤ, pos, negsuc, Float}
use Rattle.std.specs.Float.{nan, inf, fin}
use Rattle.algebra.specs.Answer.{gives, refuses}
use Rattle.shots.specs.Calls.{PatchRead}
use Rattle.intake.specs.declared.Shot.{Shot}
use Rattle.intake.specs.declared.Shot.TheVariants.{Metres, Feet}

pub record Given : Type 0 where
  pub edition : ℕ
  pub shots : List Shot
  pub count : ℕ
  pub stated : PatchRead

-- ---- numbers

abbrev nought : Float
nought = fin false 0 (pos 0)

abbrev below-nought : Float
below-nought = fin true 0 (pos 0)

-- 1 / 16, 3 / 16: 62.5 and 187.5 of a thousandth
abbrev sixteenth : Float
sixteenth = fin false 1 (negsuc 3)

abbrev three_sixteenths : Float
three_sixteenths = fin false 3 (negsuc 3)

-- 3937 / 256 and three times that, in US survey feet 4687.5 mm and 14062.5 mm; 3937 / 2, in those 600000 mm
abbrev foot_half : Float
foot_half = fin false 3937 (negsuc 7)

abbrev three_foot_halves : Float
three_foot_halves = fin false 11811 (negsuc 7)

abbrev far_foot : Float
far_foot = fin false 3937 (negsuc 0)

-- 5 / 8 and three times that, in international feet 190.5 mm and 571.5 mm
abbrev other_half : Float
other_half = fin false 5 (negsuc 2)

abbrev three_other_halves : Float
three_other_halves = fin false 15 (negsuc 2)

-- 3000, in US survey feet 914401.83 mm and in international feet 914400 mm
abbrev three_thousand : Float
three_thousand = fin false 375 (pos 3)

-- 419947 / 128, in US survey feet 1000000.79 mm and in international feet 999998.79 mm
abbrev edge : Float
edge = fin false 419947 (negsuc 6)

-- 2 ^ 1004: times 1200000 it is beyond every f64, times 1000 or 3048 it is not
abbrev huge : Float
huge = fin false 1 (pos 1004)

-- ---- answers

-- three shots, and 0 in the fourteen places past them
abbrev three : ℤ → ℤ → ℤ → ℤ → ℤ → ℤ → PatchRead
three a b c d e f = record { answer = gives 3; coordinates = a ∷ b ∷ c ∷ d ∷ e ∷ f ∷ replicate 14 (pos 0) }

abbrev refused : ℕ → PatchRead
refused n = record { answer = refuses n; coordinates = replicate 20 (pos 0) }

-- an array of ten: three shots, and seven that are not given
abbrev front : Shot → Shot → Shot → List Shot
front a b c = a ∷ b ∷ c ∷ replicate 7 (Metres nan nan)

abbrev given_in : ℕ → Shot → Shot → Shot → PatchRead → Given
given_in e a b c r = record { edition = e; shots = front a b c; count = 3; stated = r }

abbrev given : Shot → Shot → Shot → PatchRead → Given
given = given_in 1

-- two that are always in order
abbrev origin : Shot
origin = Metres nought nought

abbrev metre_east : Shot
metre_east = Metres (fin false 1 (pos 0)) nought

abbrev pub controller : List Given
controller =
    given origin metre_east (Metres nought (fin false 1 (pos 0))) (three (pos 0) (pos 0) (pos 1000) (pos 0) (pos 0) (pos 1000))
    ∷ given origin (Feet far_foot nought) (Metres below-nought (fin false 1 (negsuc 0))) (three (pos 0) (pos 0) (pos 600000) (pos 0) (pos 0) (pos 500))
    ∷ given origin (Metres sixteenth three_sixteenths) (Metres (fin true 1 (negsuc 3)) (fin true 3 (negsuc 3))) (refused 4)
    ∷ given metre_east (Metres sixteenth three_sixteenths) (Metres (fin true 1 (negsuc 3)) (fin true 3 (negsuc 3))) (three (pos 1000) (pos 0) (pos 62) (pos 188) (negsuc 61) (negsuc 187))
    ∷ given metre_east (Feet foot_half three_foot_halves) (Feet (fin true 3937 (negsuc 7)) (fin true 11811 (negsuc 7))) (three (pos 1000) (pos 0) (pos 4688) (pos 14062) (negsuc 4687) (negsuc 14061))
    ∷ record { edition = 1; shots = front origin metre_east origin; count = 2; stated = refused 1 }
    ∷ record { edition = 1; shots = front origin metre_east origin; count = 11; stated = refused 1 }
    ∷ given origin metre_east (Metres nan nought) (refused 16)
    ∷ given origin metre_east (Feet nought (inf true)) (refused 16)
    ∷ given origin metre_east (Feet huge nought) (refused 16)
    ∷ given origin metre_east (Metres huge nought) (refused 2)
    ∷ given origin metre_east (Metres huge nan) (refused 16)
    ∷ given origin (Metres nought huge) (Metres nan nought) (refused 2)
    ∷ given origin metre_east (Metres (fin false 1 (negsuc 10)) below-nought) (refused 3)
    ∷ given_in 1 metre_east (Feet three_thousand nought) (Feet nought (fin true 375 (pos 3))) (three (pos 1000) (pos 0) (pos 914402) (pos 0) (pos 0) (negsuc 914401))
    ∷ given_in 2 metre_east (Feet three_thousand nought) (Feet nought (fin true 375 (pos 3))) (three (pos 1000) (pos 0) (pos 914400) (pos 0) (pos 0) (negsuc 914399))
    ∷ given_in 2 metre_east (Feet other_half three_other_halves) (Feet (fin true 5 (negsuc 2)) (fin true 15 (negsuc 2))) (three (pos 1000) (pos 0) (pos 190) (pos 572) (negsuc 189) (negsuc 571))
    ∷ given_in 2 metre_east (Metres sixteenth three_sixteenths) (Metres (fin true 1 (negsuc 3)) (fin true 3 (negsuc 3))) (three (pos 1000) (pos 0) (pos 62) (pos 188) (negsuc 61) (negsuc 187))
    ∷ given_in 1 origin metre_east (Feet nought edge) (refused 2)
    ∷ given_in 2 origin metre_east (Feet nought edge) (three (pos 0) (pos 0) (pos 1000) (pos 0) (pos 0) (pos 999999))
    ∷ given_in 2 origin metre_east (Feet huge nought) (refused 2)
    ∷ given_in 2 origin metre_east (Feet (fin false 1 (pos 1014)) nought) (refused 16)
    ∷ record { edition = 2; shots = front origin metre_east origin; count = 2; stated = refused 1 }
    ∷ given_in 0 origin metre_east (Metres nought (fin false 1 (pos 0))) (refused 17)
    ∷ given_in 3 origin metre_east (Metres nan nought) (refused 17)
    ∷ record { edition = 257; shots = front origin metre_east origin; count = 2; stated = refused 17 }
    ∷ []
