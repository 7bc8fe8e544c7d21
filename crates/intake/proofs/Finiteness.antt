-- What is finite: an operation's answer is so only where its first operand is.
--
--   neither          a NaN or an infinity is not finite
--   div-first        a quotient is finite only where its first operand is
--   last_tells       of a shot's east, its north and the answers of the operations none is not finite exactly where the last two are finite
use mathlib.Core.Path.{◌≡◌, refl, ap, ◌∙◌}
use mathlib.Core.Bool.{Bool, true, false, not, cond, ◌&&◌, ◌||◌}
use lib.Dec.{T, eqb}
use lib.Ieee.{Float, nan, inf, fin, Format, binary64, unlike, mul, div}
use lib.Ieee.Scale.{finite}
use Rattle.algebra.specs.Loops.{any_of}
use Rattle.intake.specs.Scaling.{float, of_metres, multiplied, of_feet, scaled_of, answers_of}
use Rattle.intake.specs.declared.Shot.{Shot}
use Rattle.intake.specs.declared.Shot.TheVariants.{Metres, Feet}
use Rattle.intake.specs.declared.Foot.{Foot}

-- ---- finite only where the first operand is

-- a NaN or an infinity is not
pub neither : {X : Type 0} (b s : Bool) → T (finite (cond b nan (inf s))) → X
neither true s h = absurd h
neither false s h = absurd h

mul-first : (f : Format) (x y : Float) → T (finite (mul f x y)) → T (finite x)
unfolding mul
mul-first f nan y h = h
mul-first f (inf s) nan h = h
mul-first f (inf s) (inf t) h = h
mul-first f (inf s) (fin t n d) h = neither (eqb n 0) (unlike s t) h
mul-first f (fin s m e) y h = tt

pub div-first : (f : Format) (x y : Float) → T (finite (div f x y)) → T (finite x)
unfolding div
div-first f nan y h = h
div-first f (inf s) nan h = h
div-first f (inf s) (inf t) h = h
div-first f (inf s) (fin t n d) h = h
div-first f (fin s m e) y h = tt

-- two tests that follow from the two behind them add nothing
adds : (a b c d : Bool) → (T c → T a) → (T d → T b) → (not a || (not b || not (c && d))) ≡ not (c && d)
adds true true c d p q = refl
adds false b true d p q = absurd (p tt)
adds false b false d p q = refl
adds true false c true p q = absurd (q tt)
adds true false true false p q = refl
adds true false false false p q = refl

-- the last two
both : (c d : Bool) → (not c || (not d || false)) ≡ not (c && d)
both true true = refl
both true false = refl
both false d = refl

pub last_tells : (foot : Foot) (s : Shot) → any_of (λ x. not (finite x)) (answers_of foot s) ≡ not (finite (scaled_of foot s).east && finite (scaled_of foot s).north)
unfolding any_of scaled_of
last_tells foot (Metres e n) =
    ap (λ (b : Bool). not (finite e) || (not (finite n) || b)) (both (finite (of_metres e)) (finite (of_metres n)))
    ∙ adds (finite e) (finite n) (finite (of_metres e)) (finite (of_metres n)) (mul-first binary64 e (float 1000)) (mul-first binary64 n (float 1000))
last_tells foot (Feet e n) =
    ap (λ (b : Bool). not (finite e) || (not (finite n) || (not (finite (multiplied foot e)) || (not (finite (multiplied foot n)) || b)))) (both (finite (of_feet foot e)) (finite (of_feet foot n)))
    ∙ ap (λ (b : Bool). not (finite e) || (not (finite n) || b))
    (adds (finite (multiplied foot e)) (finite (multiplied foot n)) (finite (of_feet foot e)) (finite (of_feet foot n)) (div-first binary64 (multiplied foot e) foot.over) (div-first binary64 (multiplied foot n) foot.over))
    ∙ adds (finite e) (finite n) (finite (of_feet foot e)) (finite (of_feet foot n))
    (λ h. mul-first binary64 e foot.times (div-first binary64 (multiplied foot e) foot.over h)) (λ h. mul-first binary64 n foot.times (div-first binary64 (multiplied foot n) foot.over h))
