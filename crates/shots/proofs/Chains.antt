-- A chain of refusals that begins with the rules of shots, as each call has it: what the code has found out so far, and what that says of the chain.
--
--   shots_numbered    the rules of shots have numbers that are not 0
--   shots-refused     the run is refused, by the number r
--   shots_passed      it is accepted, and the chain goes on behind its rules
--   rule_broken, rule_kept    then one rule more is broken, or kept
--   run_accepted, accepted_run, run_refused, run_passed, rule_breaks, rule_keeps    the same by what `accept` answers
--   all_below         what is known where none of three tests of numbers refused
use mathlib.Core.Path.{◌≡◌, sym, ◌∙◌, ap}
use mathlib.Core.Bool.{Bool, true, false, ◌||◌}
use mathlib.Core.List.{List, [], ◌∷◌, ◌++◌}
use Prim.Native.Nat.{ℕ, ◌<◌}
use native.Mathlib.Omega.{arith}
use borrow.Author.Tests.{leb-false}
use lib.Dec.{leb}
use lib.IntN.{ℤ}
use Rattle.algebra.specs.Answer.{gives, refuses, Rule, chain, Numbered}
use Rattle.algebra.proofs.AnswerLaws.{chain_broken, chain_kept, chain_stop, chain_after, chain_stops, chain_goes, gives_unbroken, unbroken_gives, unbroken-refusal, refusal_unbroken}
use Rattle.algebra.proofs.LoopLaws.{or_parts}
use Rattle.shots.specs.Tests.{shot_rules, refusal_of}
use Rattle.shots.specs.Calls.{accept_of}

pub shots_numbered : (l : List ℤ) → Numbered (shot_rules l)
shots_numbered l = (omega arith, (omega arith, (omega arith, (omega arith, tt))))

-- `r` is what the callee gave
module _ {A : Type 0} (l : List ℤ) (ss : List Rule) (v : A) {r : ℕ} (e : r ≡ refusal_of l) where
  pub shots-refused : (r ≡ 0 → ⊥) → refuses r ≡ chain (shot_rules l ++ ss) v
  unfolding refusal_of
  shots-refused h = ap refuses e ∙ chain_stop (shot_rules l) ss v (λ z. h (e ∙ z))

  pub shots_passed : r ≡ 0 → chain ss v ≡ chain (shot_rules l ++ ss) v
  unfolding refusal_of
  shots_passed h = chain_after (shot_rules l) ss v (shots_numbered l) (sym e ∙ h)

module _ {A : Type 0} (l : List ℤ) (s : Rule) (v : A) {r : ℕ} (e : r ≡ refusal_of l) (h : r ≡ 0) {b : Bool} (p : b ≡ s.broken) where
  pub rule_broken : b ≡ true → refuses s.number ≡ chain (shot_rules l ++ s ∷ []) v
  rule_broken t = chain_broken s [] v (sym p ∙ t) ∙ shots_passed l (s ∷ []) v e h

  pub rule_kept : {w : A} → b ≡ false → w ≡ v → gives w ≡ chain (shot_rules l ++ s ∷ []) v
  unfolding chain
  rule_kept t q = ap gives q ∙ chain_kept s [] v (sym p ∙ t) ∙ shots_passed l (s ∷ []) v e h

pub all_below : (p q r s t u : ℕ) {b : Bool} → b ≡ (leb p q || (leb r s || leb t u)) → b ≡ false → (q < p) × (s < r) × (u < t)
all_below p q r s t u e h =
    let m = or_parts (leb p q) (leb r s || leb t u) (sym e ∙ h) in
    let n = or_parts (leb r s) (leb t u) m.1 in
    (leb-false p q m.0, leb-false r s n.0, leb-false t u n.1)

-- `accept` gave the answer
module _ {A : Type 0} (l : List ℤ) (ss : List Rule) (v : A) where
  pub run_refused : {n : ℕ} → refuses n ≡ accept_of l → refuses n ≡ chain (shot_rules l ++ ss) v
  unfolding accept_of
  run_refused e = chain_stops (shot_rules l) ss tt v (sym e)

  pub run_passed : {u : Unit {0}} → gives u ≡ accept_of l → chain ss v ≡ chain (shot_rules l ++ ss) v
  unfolding accept_of
  run_passed e = chain_goes (shot_rules l) ss tt v (sym e)

pub run_accepted : (l : List ℤ) {u : Unit {0}} → gives u ≡ accept_of l → refusal_of l ≡ 0
unfolding accept_of refusal_of
run_accepted l {u} e = unbroken-refusal (shot_rules l) (gives_unbroken (shot_rules l) tt u (sym e)).0

pub accepted_run : (l : List ℤ) → refusal_of l ≡ 0 → gives tt ≡ accept_of l
unfolding accept_of refusal_of
accepted_run l e = sym (unbroken_gives (shot_rules l) tt (refusal_unbroken (shot_rules l) (shots_numbered l) e))

module _ {A : Type 0} (l : List ℤ) (s : Rule) (v : A) {u : Unit {0}} (e : gives u ≡ accept_of l) {b : Bool} (p : b ≡ s.broken) where
  pub rule_breaks : b ≡ true → refuses s.number ≡ chain (shot_rules l ++ s ∷ []) v
  rule_breaks t = chain_broken s [] v (sym p ∙ t) ∙ run_passed l (s ∷ []) v e

  pub rule_keeps : {w : A} → b ≡ false → w ≡ v → gives w ≡ chain (shot_rules l ++ s ∷ []) v
  unfolding chain
  rule_keeps t q = ap gives q ∙ chain_kept s [] v (sym p ∙ t) ∙ run_passed l (s ∷ []) v e
