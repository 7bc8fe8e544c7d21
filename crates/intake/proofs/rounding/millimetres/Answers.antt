-- `intake::rounding::millimetres` meets its contract.
use mathlib.Core.Path.{sym, ◌∙◌, ap}
use mathlib.Core.List.{[]}
use mir.Syntax.{w32}
use Rattle.algebra.specs.Answer.{gives, chain}
use Rattle.algebra.proofs.AnswerLaws.{chain_broken, chain_kept}
use Rattle.algebra.proofs.SizeLaws.{read_back}
use Rattle.intake.specs.Nearest.{whole_of}
use Rattle.intake.specs.Tests.{whole_in_range}
use Rattle.intake.proofs.rounding.millimetres.Goals as goal

pub returns-then-is_far : goal.returns-then-is_far
unfolding whole_in_range
returns-then-is_far c = chain_broken _ _ _ (sym c.if-is_far.ensures)

pub returns : goal.returns
unfolding whole_in_range chain
returns c = ap gives (read_back w32 c.whole.result c.whole.type_inv c.whole.ensures) ∙ chain_kept _ [] (whole_of c.args.x) (sym c.if-is_far.ensures)
