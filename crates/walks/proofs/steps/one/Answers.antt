-- `walks::steps::one` meets its contract: a step is what it makes of the flip of its row.
use Rattle.std.proofs.Common.{◌∙◌, refl, sym}
use native.Mathlib.Omega.{arith}
use Rattle.reach.proofs.StepLaws.{after_none}
use Rattle.triples.specs.Sets.{words_of}
use Rattle.walks.specs.Calls.{ground_of, read_walk}
use Rattle.walks.proofs.StepsLaws.{going_step, step_turned}
use Rattle.walks.proofs.steps.one.Goals as goal

pub overflow_add-known : goal.overflow_add-known
overflow_add-known c = let h = going_step c.requires.0.going refl c.requires.0.ahead in record { fits = omega arith }

pub place-requires : goal.place-requires
place-requires c = going_step c.requires.0.going refl c.requires.0.ahead

pub returns-in-None-clause-leaves : goal.returns-in-None-clause-leaves
returns-in-None-clause-leaves c =
    let a = c.args in
    let r = c.requires.0 in
    sym (after_none (ground_of a.shots.now) a.known.now.table.now (read_walk a.known.now.walk) 13 refl) ∙ step_turned r.going refl (words_of a.row) a.z r.ahead r.stands c.requires.1 c.in-None.ensures

pub returns-in-Some-clause-leaves : goal.returns-in-Some-clause-leaves
returns-in-Some-clause-leaves c = let r = c.requires.0 in c.place.ensures.leaves ∙ step_turned r.going refl (words_of c.args.row) c.args.z r.ahead r.stands c.requires.1 c.in-Some.ensures
