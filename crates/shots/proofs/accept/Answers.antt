-- `shots::accept` meets its contract: each answer by the tests that led there.
use mathlib.Core.Path.{sym, ◌∙◌}
use Rattle.algebra.specs.Answer.{chain}
use Rattle.shots.specs.Calls.{accept_of}
use Rattle.shots.proofs.Patch.{near_of}
use Rattle.shots.proofs.accept.Goals as goal

pub returns-then-bad_count : goal.returns-then-bad_count
unfolding accept_of chain
returns-then-bad_count c = simp (sym c.bad_count.ensures ∙ c.if-bad_count.true)

pub returns-then-some_far : goal.returns-then-some_far
unfolding accept_of chain
returns-then-some_far c = simp (sym c.bad_count.ensures ∙ c.if-bad_count.false, sym c.some_far.ensures ∙ c.if-some_far.true)

pub returns-then-some_same : goal.returns-then-some_same
unfolding accept_of chain
returns-then-some_same c = simp (sym c.bad_count.ensures ∙ c.if-bad_count.false, sym c.some_far.ensures ∙ c.if-some_far.false, sym c.some_same.ensures ∙ c.if-some_same.true)

pub some_bent-requires : goal.some_bent-requires
some_bent-requires c = near_of c.args.shots.now (sym c.some_far.ensures ∙ c.if-some_far.false)

pub returns-then-not-some_bent : goal.returns-then-not-some_bent
unfolding accept_of chain
returns-then-not-some_bent c = simp (sym c.bad_count.ensures ∙ c.if-bad_count.false, sym c.some_far.ensures ∙ c.if-some_far.false, sym c.some_same.ensures ∙ c.if-some_same.false, sym c.some_bent.ensures ∙ c.if-not-some_bent.true)

pub returns : goal.returns
unfolding accept_of chain
returns c = simp (sym c.bad_count.ensures ∙ c.if-bad_count.false, sym c.some_far.ensures ∙ c.if-some_far.false, sym c.some_same.ensures ∙ c.if-some_same.false, sym c.some_bent.ensures ∙ c.if-not-some_bent.false)
