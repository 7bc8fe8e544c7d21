-- The two sides of a circuit, as lists of shots and as masks over shots.
--
--   TwoSides        a circuit as document 01 writes it: the shots of its plus side and of its minus side, each in increasing order
--   Term            a shot with its sign
--   side s ts       the shots that have the sign s
--   split ts        the sides of a list of terms: the plus side is the side of its first shot
--   masks z         the code's form of a circuit: each side as a mask, shot i at bit i
--   sign_in z i      the sign of shot i in the circuit: plus on its plus side, minus on its minus side, else nought
--   mask_signs s i   the same of two masks: plus where bit i of the plus mask is set, minus where that of the minus mask is, else nought
--
-- Source: document 01, "Circuits".
use Rattle.std.specs.Prelude.{ℕ, cond, List, [], ◌∷◌}
use Rattle.algebra.specs.Sets.{is_on, mask_of, bit}
use Rattle.algebra.specs.Sign.{Sign, minus, nought, plus, opposite, same_sign}
use Rattle.matroid.specs.Circuits.{SignVector}
use Rattle.circuits.specs.declared.Sides.{Sides}

pub record TwoSides : Type 0 where
  pub plus : List ℕ
  pub minus : List ℕ

pub record Term : Type 0 where
  pub shot : ℕ
  pub sign : Sign

unfoldable pub side : Sign → List Term → List ℕ
side s [] = []
side s (t ∷ ts) = cond (same_sign s t.sign) (t.shot ∷ side s ts) (side s ts)

unfoldable pub split : List Term → TwoSides
split [] = record { plus = []; minus = [] }
split (t ∷ ts) = record { plus = side t.sign (t ∷ ts); minus = side (opposite t.sign) (t ∷ ts) }

abbrev pub masks : TwoSides → Sides
masks z = record { plus = mask_of z.plus; minus = mask_of z.minus }

unfoldable pub sign_in : TwoSides → SignVector
sign_in z i = cond (is_on i z.plus) plus (cond (is_on i z.minus) minus nought)

unfoldable pub mask_signs : Sides → SignVector
mask_signs s i = cond (bit s.plus i) plus (cond (bit s.minus i) minus nought)
