-- Why a call is refused, and what a call's `Result` says in the paper's terms.
--
--   number_of r       the number of a refusal
--   Numbers           what the conversion to a byte gives
--   answer_of f r     a `Result` as an answer: its value, read by f, or the number that refuses the call
--   answered r        the same, of a value that is read as it is
--
-- Source: document 01, "Refusal numbers"; document 02, E2, E13.
use Rattle.std.specs.Prelude.{◌≡◌, ℕ, Result, Ok, Err}
use Rattle.algebra.specs.Answer.{Answer, gives, refuses}
use Rattle.shots.specs.declared.refusal.Refusal.{Refusal}
use Rattle.shots.specs.declared.refusal.Refusal.TheVariants as R

abbrev pub number_of : Refusal → ℕ
number_of R.Count = 1
number_of R.Far = 2
number_of R.Equal = 3
number_of R.Line = 4
number_of R.Length = 5
number_of R.Version = 6
number_of R.Shot = 7
number_of R.Crossing = 8
number_of R.Open = 9
number_of R.Empty = 10
number_of R.Room = 11
number_of R.Circuit = 12
number_of R.Flip = 13
number_of R.Walk = 15
number_of R.Infinite = 16
number_of R.Edition = 17

abbrev pub Numbers : Refusal → ℕ → Type 0
Numbers r n = n ≡ number_of r

abbrev pub answer_of : {A B : Type 0} → (A → B) → Result A Refusal → Answer B
answer_of f (Ok x) = gives (f x)
answer_of f (Err r) = refuses (number_of r)

abbrev pub answered : {A : Type 0} → Result A Refusal → Answer A
answered r = answer_of (λ x. x) r
