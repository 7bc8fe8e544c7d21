-- Chains of refusals that go on behind the list's own rules: what the code's test of the list says of the chain.
--
--   list_numbered   the rules of a list have numbers that are not 0
--   list-refused    the list is refused, by the number r
--   list_passed     it is accepted, and the chain goes on behind its rules
--   list_accepted, accepted_list   a list that the rules let pass has the number 0
use Rattle.std.specs.Prelude.{◌≡◌, ℕ, List, ◌++◌, ℤ}
use mathlib.Core.Path.{sym, ◌∙◌, ap}
use native.Mathlib.Omega.{arith}
use Rattle.algebra.specs.Answer.{Rule, gives, refuses, chain, Numbered}
use Rattle.algebra.proofs.AnswerLaws.{chain_stop, chain_after, gives_unbroken, unbroken_gives, unbroken-refusal, refusal_unbroken}
use Rattle.lists.specs.Tests.{list_rules, list_refusal_of}

pub list_numbered : (l : List ℤ) (w : List ℕ) → Numbered (list_rules l w)
list_numbered l w = (omega arith, (omega arith, (omega arith, (omega arith, tt))))

module _ {A : Type 0} (l : List ℤ) (w : List ℕ) (ss : List Rule) (v : A) {r : ℕ} (e : r ≡ list_refusal_of l w) where
  pub list-refused : (r ≡ 0 → ⊥) → refuses r ≡ chain (list_rules l w ++ ss) v
  unfolding list_refusal_of
  list-refused h = ap refuses e ∙ chain_stop (list_rules l w) ss v (λ z. h (e ∙ z))

  pub list_passed : r ≡ 0 → chain ss v ≡ chain (list_rules l w ++ ss) v
  unfolding list_refusal_of
  list_passed h = chain_after (list_rules l w) ss v (list_numbered l w) (sym e ∙ h)

pub list_accepted : (l : List ℤ) (w : List ℕ) {u : Unit {0}} → gives u ≡ chain {A = Unit {0}} (list_rules l w) tt → list_refusal_of l w ≡ 0
unfolding list_refusal_of
list_accepted l w {u} e = unbroken-refusal (list_rules l w) (gives_unbroken (list_rules l w) tt u (sym e)).0

pub accepted_list : (l : List ℤ) (w : List ℕ) → list_refusal_of l w ≡ 0 → gives tt ≡ chain {A = Unit {0}} (list_rules l w) tt
unfolding list_refusal_of
accepted_list l w e = sym (unbroken_gives (list_rules l w) tt (refusal_unbroken (list_rules l w) (list_numbered l w) e))
