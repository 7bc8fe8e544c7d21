-- What is made of a shot from a controller: the factors of its unit, each operation rounded once as `mul` and `div` of the language's f64 are, and then the nearest whole numbers.
--
--   float k              a whole number as an f64
--   factors t o          times t, then over o
--   survey_foot           the factors of the US survey foot
--   international_foot    those of the international foot, 0.3048 m
--   foot_of e             the foot of an edition: 1 the US survey foot, else the international foot; an edition that is neither 1 nor 2 is refused (17)
--   scaled_of foot s      a shot's east and north after the factors of its unit, in millimetres
--   answers_of foot s     its east, its north, and the answer of every operation on them
--   millimetres_of foot l the coordinates of the shots l, east then north of each
--   at_origin             the shot at 0, 0
--   InMetres s, AllInMetres l    a shot is given in metres, each of l is
--
-- Source: document 02, E2, E13.
use Rattle.std.specs.Prelude.{false, cond, List, [], ◌∷◌, ℕ, eqb, ℤ, pos, Float}
use Rattle.std.specs.Float.{fin, binary64}
use Rattle.std.specs.Float.Ieee.{of_int, mul, div}
use Rattle.intake.specs.Nearest.{whole_of}
use Rattle.intake.specs.declared.Shot.{Shot}
use Rattle.intake.specs.declared.Shot.TheVariants.{Metres, Feet}
use Rattle.intake.specs.declared.Foot.{Foot}
use Rattle.intake.specs.declared.Scaled.{Scaled}

unfoldable pub float : ℕ → Float
float k = of_int binary64 (pos k)

abbrev pub factors : ℕ → ℕ → Foot
factors t o = record { times = float t; over = float o }

abbrev pub survey_foot : Foot
survey_foot = factors 1200000 3937

abbrev pub international_foot : Foot
international_foot = factors 3048 10

unfoldable pub foot_of : ℕ → Foot
foot_of e = cond (eqb e 1) survey_foot international_foot

-- metres to millimetres, in one operation
abbrev pub of_metres : Float → Float
of_metres x = mul binary64 x (float 1000)

-- feet to millimetres, in two
abbrev pub multiplied : Foot → Float → Float
multiplied foot x = mul binary64 x foot.times

abbrev pub of_feet : Foot → Float → Float
of_feet foot x = div binary64 (multiplied foot x) foot.over

unfoldable pub scaled_of : Foot → Shot → Scaled
scaled_of foot (Metres e n) = record { east = of_metres e; north = of_metres n }
scaled_of foot (Feet e n) = record { east = of_feet foot e; north = of_feet foot n }

abbrev pub answers_of : Foot → Shot → List Float
answers_of foot (Metres e n) = e ∷ n ∷ of_metres e ∷ of_metres n ∷ []
answers_of foot (Feet e n) = e ∷ n ∷ multiplied foot e ∷ multiplied foot n ∷ of_feet foot e ∷ of_feet foot n ∷ []

abbrev pub millimetres_of : Foot → List Shot → List ℤ
millimetres_of foot [] = []
millimetres_of foot (s ∷ l) = whole_of (scaled_of foot s).east ∷ whole_of (scaled_of foot s).north ∷ millimetres_of foot l

abbrev pub at_origin : Shot
at_origin = Metres (fin false 0 (pos 0)) (fin false 0 (pos 0))

abbrev pub InMetres : Shot → Type 0
InMetres (Metres e n) = Unit {0}
InMetres (Feet e n) = ⊥

abbrev pub AllInMetres : List Shot → Type 0
AllInMetres [] = Unit {0}
AllInMetres (s ∷ l) = InMetres s × AllInMetres l
