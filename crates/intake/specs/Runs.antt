-- Shots as two lent runs, so that a C caller's memory holds them and every content is allowed: a byte for each shot's unit, and two floats for each shot.
--
--   shot_of b e n         the shot of a unit byte: 0 metres, anything else feet
--   shot_in u v i         shot i of the runs u and v: its byte at place i, its east and north at 2 * i and behind it
--   shots_in u v          as many as there are bytes
--   runs_rule u v         1: not 3 to 10 bytes, or not two floats for each
--
-- Source: document 02, E2; docs/DECISIONS.md.
use Rattle.std.specs.Prelude.{not, cond, ◌||◌, List, ℕ, ◌+◌, ◌*◌, eqb, length, get_or, Float}
use Rattle.std.specs.Float.{nan}
use Rattle.algebra.specs.Answer.{Rule}
use Rattle.algebra.specs.Loops.{tabulate}
use Rattle.intake.specs.Tests.{count_rule}
use Rattle.intake.specs.declared.Shot.{Shot}
use Rattle.intake.specs.declared.Shot.TheVariants.{Metres, Feet}

abbrev pub shot_of : ℕ → Float → Float → Shot
shot_of b e n = cond (eqb b 0) (Metres e n) (Feet e n)

unfoldable pub shot_in : List ℕ → List Float → ℕ → Shot
shot_in u v i = shot_of (get_or u i 0) (get_or v (2 * i) nan) (get_or v (2 * i + 1) nan)

unfoldable pub shots_in : List ℕ → List Float → List Shot
shots_in u v = tabulate (length u) (shot_in u v)

abbrev pub runs_rule : List ℕ → List Float → Rule
runs_rule u v = record { number = 1; broken = (count_rule (length u)).broken || not (eqb (length v) (2 * length u)) }
