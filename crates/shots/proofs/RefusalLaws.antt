-- A call's `Result` is known by what it says in the paper's terms: the number of a refusal names it.
--
--   refusal_at n     the refusal with the number n; `Count` where none has it
--   number_back      it is the one whose number is given
--   answer_one       two results with one reading are one result, where the reading of the value can be undone; `answered_one`: where the value is read as it is
use Rattle.std.proofs.Common.{◌≡◌, refl, ap, ℕ, Result, Ok, Err}
use mathlib.Core.Bool.{cond}
use lib.Dec.{eqb}
use Rattle.algebra.specs.Answer.{Answer, gives, refuses}
use Rattle.algebra.proofs.AnswerLaws.{one_answer}
use Rattle.shots.specs.Refusals.{number_of, answer_of, answered}
use Rattle.shots.specs.declared.refusal.Refusal.{Refusal}
use Rattle.shots.specs.declared.refusal.Refusal.TheVariants as R

abbrev pub refusal_at : ℕ → Refusal
refusal_at n =
    cond (eqb n 17) R.Edition (cond (eqb n 16) R.Infinite (cond (eqb n 15) R.Walk (cond (eqb n 13) R.Flip (cond (eqb n 12) R.Circuit (cond (eqb n 11) R.Room (cond (eqb n 10) R.Empty (cond (eqb n 9) R.Open
    (cond (eqb n 8) R.Crossing (cond (eqb n 7) R.Shot (cond (eqb n 6) R.Version (cond (eqb n 5) R.Length (cond (eqb n 4) R.Line (cond (eqb n 3) R.Equal (cond (eqb n 2) R.Far R.Count))))))))))))))

pub number_back : (r : Refusal) → refusal_at (number_of r) ≡ r
number_back R.Count = refl
number_back R.Far = refl
number_back R.Equal = refl
number_back R.Line = refl
number_back R.Length = refl
number_back R.Version = refl
number_back R.Shot = refl
number_back R.Crossing = refl
number_back R.Open = refl
number_back R.Empty = refl
number_back R.Room = refl
number_back R.Circuit = refl
number_back R.Flip = refl
number_back R.Walk = refl
number_back R.Infinite = refl
number_back R.Edition = refl

module _ {A B : Type 0} (f : A → B) (g : B → A) (undone : (x : A) → g (f x) ≡ x) where
  abbrev answer_as : Answer B → Result A Refusal
  answer_as (gives y) = Ok (g y)
  answer_as (refuses n) = Err (refusal_at n)

  answer_back : (r : Result A Refusal) → answer_as (answer_of f r) ≡ r
  answer_back (Ok x) = ap Ok (undone x)
  answer_back (Err e) = ap Err (number_back e)

  pub answer_one : {x : Answer B} {r r' : Result A Refusal} → answer_of f r ≡ x → answer_of f r' ≡ x → r ≡ r'
  answer_one = one_answer (answer_of f) answer_as answer_back

pub answered_one : {A : Type 0} {x : Answer A} {r r' : Result A Refusal} → answered r ≡ x → answered r' ≡ x → r ≡ r'
answered_one = answer_one (λ x. x) (λ x. x) (λ x. refl)
