-- `shots::cocircuit` meets its contract: the chain stops at the run, at the pair, or gives the signs.
use Rattle.std.proofs.Common.{rules, ◌≡◌, ◌∙◌, ap, refl, Err, ℕ}
use mathlib.Core.List.{List, [], ◌∷◌, ◌++◌}
use lib.IntN.{ℤ}
use Rattle.algebra.specs.Answer.{Answer, chain}
use Rattle.algebra.specs.Loops.{tabulate}
use Rattle.shots.specs.Sizes.{shots_most}
use Rattle.shots.specs.Patch.{count_of}
use Rattle.shots.specs.Tests.{shot_rules}
use Rattle.shots.specs.Calls.{Cocircuit, cocircuit_of, pair_rule, read_signs, sign_at, signs_with}
use Rattle.shots.proofs.Patch.{patch_near}
use Rattle.shots.proofs.Chains.{all_below, run_accepted, run_refused, rule_breaks, rule_keeps}
use Rattle.shots.proofs.cocircuit.Goals as goal

-- the array follows the answer
with-signs : (l : List ℤ) (i j : ℕ) {a : Answer (Unit {0})} {s : List ℤ} →
    a ≡ chain (shot_rules l ++ pair_rule l i j ∷ []) tt →
    s ≡ signs_with a (tabulate shots_most (sign_at l i j)) →
    ◌≡◌ {A = Cocircuit} (record { answer = a; signs = s }) (cocircuit_of l i j)
unfolding cocircuit_of
with-signs l i j {a} {s} p q = λ t. record { answer = p t; signs = (q ∙ ap (λ x. signs_with x (tabulate shots_most (sign_at l i j))) p) t }

pub returns-in_err-accept : goal.returns-in_err-accept
returns-in_err-accept c =
    let a = c.args in
    let e : c.from_residual.result ≡ Err c.in_err-accept.field-0.0 = search rules in
    ap read_signs e ∙ with-signs a.shots.now a.i a.j (run_refused a.shots.now (pair_rule a.shots.now a.i a.j ∷ []) tt c.in_err-accept.ensures) refl

pub returns-then-no_pair : goal.returns-then-no_pair
returns-then-no_pair c = let a = c.args in with-signs a.shots.now a.i a.j (rule_breaks a.shots.now (pair_rule a.shots.now a.i a.j) tt c.in_ok-accept.ensures c.no_pair.ensures c.if-no_pair.true) refl

pub signs_of-requires : goal.signs_of-requires
signs_of-requires c =
    let a = c.args in
    let n = count_of a.shots.now in
    let h = all_below n a.i n a.j a.j a.i c.no_pair.ensures c.if-no_pair.false in
    (h.0, h.1, patch_near a.shots.now (run_accepted a.shots.now c.in_ok-accept.ensures))

pub returns : goal.returns
returns c =
    let a = c.args in
    with-signs a.shots.now a.i a.j (rule_keeps a.shots.now (pair_rule a.shots.now a.i a.j) tt c.in_ok-accept.ensures c.no_pair.ensures c.if-no_pair.false refl) c.signs_of.ensures
