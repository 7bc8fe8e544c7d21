-- What a C caller gets of a call's answer: one number, and what is left at the places that it lent.
--
--   number_of a           what a call returns: 0 where it gives something, and else the number that refuses it
--   Apart a              0 is returned only where the call gives something: a is no refusal by the number 0
--   left_at x a           what stands at a lent place that held x: what the call gives, and x where it is refused
--   beside_at x a y       the same of what a call gives beside its answer a: y, and x where it is refused
--   south_at, north_at     the same of the lengths of two chains, each at a place of its own
--   plus_at, minus_at      the same of the two sides of a circuit
--   done_at d a           the lent flag, that held d: 1 where the walk is done, 0 where a step or run was made
--   done_flag p           what a step or run that is not refused writes there
--   Left                 what a walk's call leaves with its number: the record and the whole table
--   left_by, left_of       the same, from a number and the lent places; from what the walk's definition lands in
--   start_called          what a start lands in, from the words of the list
--
-- Laws: proofs/Promises. Source: document 01, "Refusal numbers".
use Rattle.std.specs.Prelude.{◌≡◌, List, ℕ, ℤ}
use Rattle.algebra.specs.Answer.{Answer, gives, refuses}
use Rattle.reach.specs.Walks.{WalkRecord, Begun, Reply, made, done, Landing, start_of}
use Rattle.outline.specs.declared.Lengths.{Lengths}
use Rattle.circuits.specs.declared.Sides.{Sides}
use Rattle.walks.specs.Calls.{ground_of, read_walk}
use Rattle.walks.specs.declared.Walk.{Walk}
use Rattle.walks.specs.declared.Progress.{Progress}
use Rattle.walks.specs.declared.Progress.TheVariants as P

abbrev pub number_of : {A : Type 0} → Answer A → ℕ
number_of (gives v) = 0
number_of (refuses n) = n

abbrev pub Apart : {A : Type 0} → Answer A → Type 0
Apart {A} a = number_of a ≡ 0 → (v : A) × (a ≡ gives v)

abbrev pub left_at : {A : Type 0} → A → Answer A → A
left_at x (gives v) = v
left_at x (refuses n) = x

abbrev pub beside_at : {A B : Type 0} → B → Answer A → B → B
beside_at x (gives v) y = y
beside_at x (refuses n) y = x

abbrev pub south_at : ℕ → Answer Lengths → ℕ
south_at x (gives k) = k.south
south_at x (refuses n) = x

abbrev pub north_at : ℕ → Answer Lengths → ℕ
north_at x (gives k) = k.north
north_at x (refuses n) = x

abbrev pub plus_at : ℕ → Answer Sides → ℕ
plus_at x (gives z) = z.plus
plus_at x (refuses n) = x

abbrev pub minus_at : ℕ → Answer Sides → ℕ
minus_at x (gives z) = z.minus
minus_at x (refuses n) = x

-- ---- the walk

-- the lent flag: 1 where the walk is done
abbrev pub done_flag : Progress → ℕ
done_flag P.Made = 0
done_flag P.Done = 1

abbrev pub done_at : ℕ → Answer Reply → ℕ
done_at d (gives made) = 0
done_at d (gives done) = 1
done_at d (refuses n) = d

pub record Left : Type 0 where
  pub number : ℕ
  pub walk : WalkRecord
  pub table : List ℕ

abbrev pub left_by : ℕ → Walk → List ℕ → Left
left_by n w t = record { number = n; walk = read_walk w; table = t }

abbrev pub left_of : {A : Type 0} → Landing A → Left
left_of l = record { number = number_of l.answer; walk = l.walk; table = l.table }

abbrev pub start_called : List ℤ → List ℕ → List ℕ → Walk → Landing Begun
start_called l w t r = start_of (ground_of l) t (read_walk r) w
