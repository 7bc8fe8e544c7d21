-- What a call answers in document 01's terms, and its table of refusals, once as tests that compute and once as statements.
--
--   Answer A        a value of A, or the number that refuses the call
--   on_value f a     f of the value that a gives; a refusal stays
--   Rule            a refusal number, and the test that says whether its rule is broken
--   chain rs v      the number of the first broken rule of rs, and v where none is broken
--   refusal rs      that number alone, and 0 where no rule is broken
--   Numbered rs     no rule of rs has the number 0
--   Line            a refusal number, and when it is given, as a statement: a line of document 01's table
--   First n ls      n is the number of a line of ls that holds, and no earlier line holds
--   Clear ls        no line of ls holds
--   Reflects A b    the test b decides the statement A
--   Decides rs ls   the rules rs decide the lines ls, one by one and under the same numbers
--
-- Laws: proofs/AnswerLaws (`chain_refuses`, `chain_gives`, `one_answer`). Source: document 01, "Refusal numbers".
use Rattle.std.specs.Prelude.{◌≡◌, ◌⊎◌, Bool, true, false, cond, List, [], ◌∷◌, ℕ, ◌<◌}

pub data Answer (A : Type 0) : Type 0 where
  gives : A → Answer A
  refuses : ℕ → Answer A

abbrev pub on_value : {A B : Type 0} → (A → B) → Answer A → Answer B
on_value f (gives v) = gives (f v)
on_value f (refuses n) = refuses n

pub record Rule : Type 0 where
  pub number : ℕ
  pub broken : Bool

unfoldable pub chain : {A : Type 0} → List Rule → A → Answer A
chain [] v = gives v
chain (r ∷ rs) v = cond r.broken (refuses r.number) (chain rs v)

unfoldable pub refusal : List Rule → ℕ
refusal [] = 0
refusal (r ∷ rs) = cond r.broken r.number (refusal rs)

abbrev pub Numbered : List Rule → Type 0
Numbered [] = Unit {0}
Numbered (r ∷ rs) = (0 < r.number) × Numbered rs

pub record Line : Type 1 where
  pub number : ℕ
  pub when : Type 0

abbrev pub First : ℕ → List Line → Type 0
First n [] = ⊥
First n (l ∷ ls) = (l.when × (n ≡ l.number)) ⊎ ((l.when → ⊥) × First n ls)

abbrev pub Clear : List Line → Type 0
Clear [] = Unit {0}
Clear (l ∷ ls) = (l.when → ⊥) × Clear ls

pub data Reflects (A : Type 0) : Bool → Type 0 where
  holds : A → Reflects A true
  fails : (A → ⊥) → Reflects A false

abbrev pub Decides : List Rule → List Line → Type 0
Decides [] [] = Unit {0}
Decides [] (l ∷ ls) = ⊥
Decides (r ∷ rs) [] = ⊥
Decides (r ∷ rs) (l ∷ ls) = (r.number ≡ l.number) × Reflects l.when r.broken × Decides rs ls
