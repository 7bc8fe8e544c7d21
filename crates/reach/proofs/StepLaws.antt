-- The cases of a step and of a start as equations, for whoever proves code or a theorem against them.
--
--   room_for                         a row below the capacity lies in the table
--   seen_reflects                    the test `seen_in` decides whether r is one of the first n rows
--   seen_at, unseen_all              what a scan of the rows has found
--   impossible_reflects              the test `impossible` decides the three causes of 15: impossible-zero, impossible_beyond, impossible_above
--   possible_facts, possible_holds   what a record says that is not impossible, and back
--   store_known, store_full, store_new    what a step makes of a flip's result, by what its finder says
--   only_either                      rules in front of a landing refuse, with everything as it was, or change nothing
--   walk_refused, walk-impossible, walk_passed    what the first rules make of any landing x
--   step_passed, run_passed          a step and a run behind the first rules
--   step_possible                    where a step is not refused, the record was possible
--   run_let                          where a run is not refused, it is its steps
--   try_done, try_flip               a step is done, or it tries a flip
--   after_none, after-refused        what it makes of a flip's refusal
--   start-refused, start_full, start_writes, start_facts    a start, by the test's answer and by the room; what is true where it was made
--   done_made, made_dec              done is not made; whether an answer is made
--   Goes g t w n l                   what n steps that are made leave: the step number is higher by n, there are as many rows or more, there is room for them still,
--                                    the step number is still at most rows × C, the earlier rows stay as they were, and each row that was written is a flip of some list
--   SomeFlip g r                     r is what the flip makes of some list of as many words
--   goes_none, goes_on, step_goes    no step, one more, one: each goes so where it is made
--   goes_possible                    a record that was possible is so after them
--   step_made_leaves                 what a step that is made leaves, by its two cases (specs/Leaving)
--   row_by_row                       the same row by row; tried_size: what a flip gives is as long as a row
--   step_unmade, step_keeps, done_keeps, start_keeps    a call that is not made changes nothing
--   step_stops                       a step that is not made is done or refuses
--   done_end                         done is answered at the end alone
--
-- Several steps: proofs/RunLaws. Source: document 01, "The walk", "Refusal numbers".
use mathlib.Core.Path.{◌≡◌, refl, sym, ap, ◌∙◌, subst}
use mathlib.Core.Logic.{◌⊎◌, inl, inr}
use mathlib.Core.Bool.{Bool, true, false, cond}
use mathlib.Core.List.{List, [], ◌∷◌}
use Prim.Native.Nat.{ℕ, suc, ◌+◌, ◌*◌, ◌/◌, ◌%◌, ◌<◌, ◌≤◌}
use native.Mathlib.Omega.{arith}
use native.Mathlib.Decide.{dec_lt}
use native.Mathlib.Nat.{min-le_left, mul-one, mul-add, mul-le-mul_left, mul-le-mul_right, mul-div-le}
use lib.Dec.{eqb}
use lib.ListN.{length}
use borrow.Author.Tests.{eq-eqb, ne_eqb, eqb-true, eqb-false}
use Rattle.algebra.specs.Answer.{Answer, gives, refuses, Rule, chain, refusal, Numbered, Reflects, holds, fails}
use Rattle.algebra.specs.Sets.{same_list}
use Rattle.algebra.specs.Words.{row_of, set_row}
use Rattle.algebra.proofs.AnswerLaws.{given-refused, chain_broken, chain_kept, chain_stop, chain_after, append_unbroken, gives_unbroken}
use Rattle.algebra.proofs.AnswerLaws.{reflects_yes, reflects_no, reflects_true, reflects_false, reflects-or, reflects_eqb, reflects_ltb}
use Rattle.algebra.proofs.LoopLaws.{reflects-any}
use Rattle.algebra.proofs.SetTests.{reflects_same}
use Rattle.algebra.proofs.WordLaws.{row-length, row_same, row_other, row_behind, set_row-length}
use Rattle.reach.specs.Walks.{Ground, WalkRecord, Begun, started, Reply, made, done, Landing, leaves, only_if, rows_most, capacity_of, seen_in, impossible, record_rule, walk_rules, counted, grown}
use Rattle.reach.specs.Walks.{store_of, after_flip, try_of, step_of, steps_of, run_of, begin, start_of}
use Rattle.reach.specs.Reach.{Stands}
use Rattle.reach.specs.Leaving.{tried_of, MadeStep, no_row, new_row, RowByRow}
use Rattle.reach.specs.Walked.{FlipsTo, Keeps}

-- ---- rows

pub room_for : (k m n : ℕ) → n < capacity_of k m → k * n + k ≤ m
room_for k m n l =
    let a = min-le_left (m / k) rows_most in
    let b : n + 1 ≤ m / k = omega arith in
    let c = mul-le-mul_left k b in
    let d = mul-div-le m k in
    omega arith

module _ (k : ℕ) (t : List ℕ) (n : ℕ) (r : List ℕ) where
  pub seen_reflects : Reflects (Stands k t n r) (seen_in k t n r)
  unfolding seen_in
  seen_reflects = reflects-any (λ p. row_of k t p ≡ r) (λ p. same_list (row_of k t p) r) n (λ p l. reflects_same (row_of k t p) r)

  pub seen_at : (p : ℕ) → p < n → same_list (row_of k t p) r ≡ true → seen_in k t n r ≡ true
  seen_at p l e = reflects_true seen_reflects (p, l, reflects_yes (reflects_same (row_of k t p) r) e)

  pub unseen_all : ((p : ℕ) → p < n → same_list (row_of k t p) r ≡ false) → seen_in k t n r ≡ false
  unseen_all h = reflects_false seen_reflects (λ s. reflects_no (reflects_same (row_of k t s.0) r) (h s.0 s.1) s.2)

-- ---- 15: an impossible record

module _ (m : ℕ) (w : WalkRecord) (c : ℕ) where
  abbrev Cause : Type 0
  Cause = (w.rows ≡ 0) ⊎ ((m < w.rows) ⊎ (w.rows * c < w.step))

  pub impossible_reflects : Reflects Cause (impossible m w c)
  unfolding impossible
  impossible_reflects = reflects-or (reflects_eqb w.rows 0) (reflects-or (reflects_ltb m w.rows) (reflects_ltb (w.rows * c) w.step))

  pub possible_facts : impossible m w c ≡ false → (0 < w.rows) × (w.rows ≤ m) × (w.step ≤ w.rows * c)
  possible_facts e = go (reflects_no impossible_reflects e)
    where
      go : (Cause → ⊥) → (0 < w.rows) × (w.rows ≤ m) × (w.step ≤ w.rows * c)
      go h =
          let a : ¬ (w.rows ≡ 0) = λ z. h (inl z) in
          let b : ¬ (m < w.rows) = λ l. h (inr (inl l)) in
          let d : ¬ (w.rows * c < w.step) = λ l. h (inr (inr l)) in
          (omega arith, omega arith, omega arith)

  pub possible_holds : 0 < w.rows → w.rows ≤ m → w.step ≤ w.rows * c → impossible m w c ≡ false
  possible_holds a b d = reflects_false impossible_reflects no_cause
    where
      no_cause : Cause → ⊥
      no_cause (inl z) = omega arith
      no_cause (inr (inl l)) = omega arith
      no_cause (inr (inr l)) = omega arith

  pub impossible-zero : w.rows ≡ 0 → impossible m w c ≡ true
  impossible-zero z = reflects_true impossible_reflects (inl z)

  pub impossible_beyond : m < w.rows → impossible m w c ≡ true
  impossible_beyond l = reflects_true impossible_reflects (inr (inl l))

  pub impossible_above : w.rows * c < w.step → impossible m w c ≡ true
  impossible_above l = reflects_true impossible_reflects (inr (inr l))

-- ---- a flip's result

module _ (k : ℕ) (find : List ℕ → Bool) (t : List ℕ) (w : WalkRecord) (r : List ℕ) where
  pub store_known : find r ≡ true → store_of k find t w r ≡ leaves t (counted w) (gives made)
  unfolding store_of
  store_known e = rw e

  pub store_full : find r ≡ false → w.rows ≡ capacity_of k (length t) → store_of k find t w r ≡ leaves t w (refuses 11)
  unfolding store_of
  store_full e q = rw (e, eq-eqb _ _ q)

  pub store_new : find r ≡ false → (w.rows ≡ capacity_of k (length t) → ⊥) → store_of k find t w r ≡ leaves (set_row t w.rows r) (grown w) (gives made)
  unfolding store_of
  store_new e ne = rw (e, ne_eqb _ _ ne)

-- ---- the first rules of a step and of a run

-- rules in front refuse, with everything as it was, or change nothing
pub only_either : {A : Type 0} (t : List ℕ) (w : WalkRecord) (P : Landing A → Type 0) (rs : List Rule) (x : Landing A) → ((n : ℕ) → P (leaves t w (refuses n))) → P x → P (only_if t w (chain rs x))
unfolding chain
only_either t w P [] x f h = h
only_either t w P (r ∷ rs) x f h = go r.broken (only_either t w P rs x f h)
  where
    go : (b : Bool) → P (only_if t w (chain rs x)) → P (only_if t w (cond b (refuses r.number) (chain rs x)))
    go true k = f r.number
    go false k = k

module _ (g : Ground) (t : List ℕ) (w : WalkRecord) where
  module _ (x : Landing Reply) where
    pub walk_refused : (refusal g.before ≡ 0 → ⊥) → only_if t w (chain (walk_rules g t w) x) ≡ leaves t w (refuses (refusal g.before))
    walk_refused h = ap (only_if t w) (sym (chain_stop g.before (record_rule g t w ∷ []) x h))

    pub walk-impossible : Numbered g.before → refusal g.before ≡ 0 → impossible (capacity_of g.words (length t)) w g.circuits ≡ true
        → only_if t w (chain (walk_rules g t w) x) ≡ leaves t w (refuses 15)
    walk-impossible n z e = ap (only_if t w) (sym (chain_broken (record_rule g t w) [] x e ∙ chain_after g.before (record_rule g t w ∷ []) x n z))

    pub walk_passed : Numbered g.before → refusal g.before ≡ 0 → impossible (capacity_of g.words (length t)) w g.circuits ≡ false
        → only_if t w (chain (walk_rules g t w) x) ≡ x
    unfolding chain
    walk_passed n z e = ap (only_if t w) (sym (chain_kept (record_rule g t w) [] x e ∙ chain_after g.before (record_rule g t w ∷ []) x n z))

  -- where they let a landing pass, by its answer: the record is possible, and they change nothing
  rules_let : {A : Type 0} (x : Landing A) {v : A} → (only_if t w (chain (walk_rules g t w) x)).answer ≡ gives v
      → (impossible (capacity_of g.words (length t)) w g.circuits ≡ false) × (only_if t w (chain (walk_rules g t w) x) ≡ x)
  rules_let {A} x {v} = go (chain (walk_rules g t w) x) refl
    where
      go : (a : Answer (Landing A)) → chain (walk_rules g t w) x ≡ a → (only_if t w a).answer ≡ gives v → (impossible (capacity_of g.words (length t)) w g.circuits ≡ false) × (only_if t w a ≡ x)
      go (refuses n) q e = given-refused (sym e)
      go (gives y) q e = let (u, is) = gives_unbroken (walk_rules g t w) x y q in ((append_unbroken g.before (record_rule g t w ∷ []) u).1.0, sym is)

  pub run_let : (b : ℕ) {v : Reply} → (run_of g t w b).answer ≡ gives v → run_of g t w b ≡ steps_of g b t w
  unfolding run_of
  run_let b e = (rules_let (steps_of g b t w) e).1

  pub step_possible : {v : Reply} → (step_of g t w).answer ≡ gives v → impossible (capacity_of g.words (length t)) w g.circuits ≡ false
  unfolding step_of
  step_possible e = (rules_let (try_of g t w) e).0

  pub step_passed : Numbered g.before → refusal g.before ≡ 0 → impossible (capacity_of g.words (length t)) w g.circuits ≡ false → step_of g t w ≡ try_of g t w
  unfolding step_of
  step_passed n z e = walk_passed (try_of g t w) n z e

  pub run_passed : (b : ℕ) → Numbered g.before → refusal g.before ≡ 0 → impossible (capacity_of g.words (length t)) w g.circuits ≡ false → run_of g t w b ≡ steps_of g b t w
  unfolding run_of
  run_passed b n z e = walk_passed (steps_of g b t w) n z e

  -- ---- a step behind them

  pub try_done : w.step ≡ w.rows * g.circuits → try_of g t w ≡ leaves t w (gives done)
  unfolding try_of
  try_done e = rw (eq-eqb _ _ e)

  pub try_flip : (w.step ≡ w.rows * g.circuits → ⊥) → try_of g t w ≡ after_flip g t w (g.flip (row_of g.words t (w.step / g.circuits)) (w.step % g.circuits))
  unfolding try_of
  try_flip ne = rw (ne_eqb _ _ ne)

  pub after_none : (n : ℕ) → n ≡ 13 → after_flip g t w (refuses n) ≡ leaves t (counted w) (gives made)
  after_none n e = rw (eq-eqb n 13 e)

  pub after-refused : (n : ℕ) → (n ≡ 13 → ⊥) → after_flip g t w (refuses n) ≡ leaves t w (refuses n)
  after-refused n ne = rw (ne_eqb n 13 ne)

  -- ---- a start

  module _ (r : List ℕ) where
    pub start-refused : (n : ℕ) → g.test r ≡ refuses n → start_of g t w r ≡ leaves t w (refuses n)
    unfolding start_of
    start-refused n e = ap (begin g t w r) e

    pub start_full : g.test r ≡ gives tt → capacity_of g.words (length t) ≡ 0 → start_of g t w r ≡ leaves t w (refuses 11)
    unfolding start_of
    start_full e q = ap (begin g t w r) e ∙ rw (eq-eqb _ _ q)

    pub start_writes : g.test r ≡ gives tt → (capacity_of g.words (length t) ≡ 0 → ⊥) → start_of g t w r ≡ leaves (set_row t 0 r) (record { rows = 1; step = 0 }) (gives started)
    unfolding start_of
    start_writes e ne = ap (begin g t w r) e ∙ rw (ne_eqb _ _ ne)

-- ---- what a step leaves

pub done_made : {X : Type 0} → ◌≡◌ {A = Answer Reply} (gives done) (gives made) → X
done_made e = let z : ◌≡◌ {A = ℕ} 0 1 = cc in absurd (omega arith)

pub made_dec : (a : Answer Reply) → Dec (a ≡ gives made)
made_dec (gives made) = yes refl
made_dec (gives done) = no done_made
made_dec (refuses n) = no (λ e. given-refused (sym e))

abbrev pub SomeFlip : Ground → List ℕ → Type 0
SomeFlip g r' = (r : List ℕ) × (z : ℕ) × (length r ≡ g.words) × FlipsTo g r z r'

pub record Goes (g : Ground) (t : List ℕ) (w : WalkRecord) (n : ℕ) (l : Landing Reply) : Type 0 where
  pub counts : l.walk.step ≡ w.step + n
  pub grows : w.rows ≤ l.walk.rows
  pub room : w.rows ≤ capacity_of g.words (length t) → l.walk.rows ≤ capacity_of g.words (length l.table)
  pub below : w.step ≤ w.rows * g.circuits → l.walk.step ≤ l.walk.rows * g.circuits
  pub stay : Keeps g → (p : ℕ) → p < w.rows → row_of g.words l.table p ≡ row_of g.words t p
  pub wrote : Keeps g → w.rows ≤ capacity_of g.words (length t) → (p : ℕ) → w.rows ≤ p → p < l.walk.rows → SomeFlip g (row_of g.words l.table p)

module _ {g : Ground} {t : List ℕ} {w : WalkRecord} where
  pub goes_none : Goes g t w 0 (leaves t w (gives made))
  goes_none = record { counts = omega arith; grows = omega arith; room = λ h. h; below = λ h. h; stay = λ k p l. refl; wrote = λ k f p h l. absurd (omega arith) }

  pub goes_on : {l m : Landing Reply} (n : ℕ) → Goes g t w 1 l → Goes g l.table l.walk n m → Goes g t w (suc n) m
  goes_on {l} {m} n a b = record {
    counts = let c = a.counts in let d = b.counts in omega arith;
    grows = let c = a.grows in let d = b.grows in omega arith;
    room = λ h. b.room (a.room h);
    below = λ h. b.below (a.below h);
    stay = λ k p l. b.stay k p (let c = a.grows in omega arith) ∙ a.stay k p l;
    wrote = λ k f p h i. wrote_on k f p h i (dec_lt p l.walk.rows);
  }
    where
      wrote_on : Keeps g → w.rows ≤ capacity_of g.words (length t) → (p : ℕ) → w.rows ≤ p → p < m.walk.rows → Dec (p < l.walk.rows) → SomeFlip g (row_of g.words m.table p)
      wrote_on k f p h i (yes j) = subst (SomeFlip g) (sym (b.stay k p j)) (a.wrote k f p h j)
      wrote_on k f p h i (no j) = b.wrote k (a.room f) p (omega arith) i

  pub goes_possible : {n : ℕ} {l : Landing Reply} → Goes g t w n l → impossible (capacity_of g.words (length t)) w g.circuits ≡ false
      → impossible (capacity_of g.words (length l.table)) l.walk g.circuits ≡ false
  goes_possible a e = let f = possible_facts _ w _ e in possible_holds _ _ _ (let c = a.grows in let d = f.0 in omega arith) (a.room f.1) (a.below f.2)

-- ---- a step that is made

-- what the flip tried gives is as long as a row
pub tried_size : (g : Ground) (t : List ℕ) (w : WalkRecord) → Keeps g → (r : List ℕ) → tried_of g t w ≡ gives r → length r ≡ g.words
tried_size g t w k r f = k _ r _ (row-length g.words t (w.step / g.circuits)) f

module _ {g : Ground} {t : List ℕ} {w : WalkRecord} where
  made_answer : {l : Landing Reply} → MadeStep g t w l → l.answer ≡ gives made
  made_answer (no_row _) = refl
  made_answer (new_row r f new room) = refl

  made_goes : {l : Landing Reply} → (w.step ≡ w.rows * g.circuits → ⊥) → MadeStep g t w l → Goes g t w 1 l
  made_goes ne (no_row _) = record { counts = refl; grows = omega arith; room = λ h. h; below = λ h. omega arith; stay = λ k p l. refl; wrote = λ k f p h l. absurd (omega arith) }
  made_goes ne (new_row r f new full) = record {
    counts = refl;
    grows = omega arith;
    room = λ h. rw set_row-length (omega arith);
    below = λ h. let m = mul-le-mul_right g.circuits (let i : w.rows ≤ w.rows + 1 = omega arith in i) in omega arith;
    stay = λ k p l. row_other g.words t w.rows p r (tried_size g t w k r f) (λ q. omega arith);
    wrote = λ k h p a b. subst (SomeFlip g) (written k (omega arith) p (omega arith)) (_, _, row-length g.words t (w.step / g.circuits), f);
  }
    where
      written : Keeps g → w.rows < capacity_of g.words (length t) → (p : ℕ) → w.rows ≡ p → r ≡ row_of g.words (set_row t w.rows r) p
      written k h p e = sym (row_same g.words t w.rows r (tried_size g t w k r f) (room_for g.words (length t) w.rows h)) ∙ ap (row_of g.words (set_row t w.rows r)) e

  pub row_by_row : {l : Landing Reply} → Keeps g → w.rows ≤ capacity_of g.words (length t) → MadeStep g t w l → RowByRow g t w l
  row_by_row k fits (no_row _) = record { counts = refl; rows = inl refl; stay = λ p h. refl; written = λ e. absurd (omega arith); rest = λ i h. refl }
  row_by_row k fits (new_row r f new full) = record {
    counts = refl;
    rows = inr refl;
    stay = λ p h. row_other g.words t w.rows p r (tried_size g t w k r f) (λ q. absurd (more (h (sym q))));
    written = λ _. (f ∙ ap gives (sym here), λ s. new (subst (Stands g.words t w.rows) here s));
    rest = λ i h. row_behind g.words t w.rows i r (tried_size g t w k r f) (let e = mul-add g.words w.rows 1 in let o = mul-one g.words in omega arith);
  }
    where
      more : w.rows + 1 ≡ w.rows → ⊥
      more e = omega arith

      here : row_of g.words (set_row t w.rows r) w.rows ≡ r
      here = row_same g.words t w.rows r (tried_size g t w k r f) (room_for g.words (length t) w.rows (omega arith))

-- a step is made; or everything is as it was, and it is done at the end, or refuses
data Outcome (g : Ground) (t : List ℕ) (w : WalkRecord) : Landing Reply → Type 0 where
  goes : {l : Landing Reply} → (w.step ≡ w.rows * g.circuits → ⊥) → MadeStep g t w l → Outcome g t w l
  ends : w.step ≡ w.rows * g.circuits → Outcome g t w (leaves t w (gives done))
  stays : (n : ℕ) → Outcome g t w (leaves t w (refuses n))

module _ (g : Ground) (t : List ℕ) (w : WalkRecord) where
  -- where a circuit is left to try
  module _ (ne : w.step ≡ w.rows * g.circuits → ⊥) where
    outcome_store : (r : List ℕ) → tried_of g t w ≡ gives r → Outcome g t w (store_of g.words (seen_in g.words t w.rows) t w r)
    unfolding store_of
    outcome_store r f = go (seen_reflects g.words t w.rows r) (reflects_eqb w.rows (capacity_of g.words (length t)))
      where
        go : {a b : Bool} → Reflects (Stands g.words t w.rows r) a → Reflects (w.rows ≡ capacity_of g.words (length t)) b
            → Outcome g t w (cond a (leaves t (counted w) (gives made)) (cond b (leaves t w (refuses 11)) (leaves (set_row t w.rows r) (grown w) (gives made))))
        go (holds h) d = goes ne (no_row (inr (r, f, h)))
        go (fails h) (holds e) = stays 11
        go (fails h) (fails e) = goes ne (new_row r f h e)

    outcome_flip : (x : Answer (List ℕ)) → tried_of g t w ≡ x → Outcome g t w (after_flip g t w x)
    outcome_flip (gives r) f = outcome_store r f
    outcome_flip (refuses n) f = go (reflects_eqb n 13)
      where
        go : {b : Bool} → Reflects (n ≡ 13) b → Outcome g t w (cond b (leaves t (counted w) (gives made)) (leaves t w (refuses n)))
        go (holds e) = goes ne (no_row (inl (f ∙ ap refuses e)))
        go (fails _) = stays n

  outcome_try : Outcome g t w (try_of g t w)
  unfolding try_of
  outcome_try = go (eqb w.step (w.rows * g.circuits)) refl
    where
      go : (b : Bool) → eqb w.step (w.rows * g.circuits) ≡ b → Outcome g t w (cond b (leaves t w (gives done)) (after_flip g t w (tried_of g t w)))
      go true e = ends (eqb-true _ _ e)
      go false e = outcome_flip (eqb-false _ _ e) (tried_of g t w) refl

  outcome : Outcome g t w (step_of g t w)
  unfolding step_of
  outcome = only_either t w (Outcome g t w) (walk_rules g t w) (try_of g t w) stays outcome_try

  -- ---- what that says of its answer

  pub step_unmade : ((step_of g t w).answer ≡ gives made → ⊥) → step_of g t w ≡ leaves t w (step_of g t w).answer
  step_unmade = go outcome
    where
      go : {l : Landing Reply} → Outcome g t w l → (l.answer ≡ gives made → ⊥) → l ≡ leaves t w l.answer
      go (goes _ x) h = absurd (h (made_answer x))
      go (ends q) h = refl
      go (stays n) h = refl

  pub step_stops : ((step_of g t w).answer ≡ gives made → ⊥) → ((step_of g t w).answer ≡ gives done) ⊎ ((n : ℕ) × ((step_of g t w).answer ≡ refuses n))
  step_stops = go outcome
    where
      go : {l : Landing Reply} → Outcome g t w l → (l.answer ≡ gives made → ⊥) → (l.answer ≡ gives done) ⊎ ((n : ℕ) × (l.answer ≡ refuses n))
      go (goes _ x) h = absurd (h (made_answer x))
      go (ends q) h = inl refl
      go (stays n) h = inr (n, refl)

  pub step_made_leaves : (step_of g t w).answer ≡ gives made → (w.step ≡ w.rows * g.circuits → ⊥) × MadeStep g t w (step_of g t w)
  step_made_leaves = go outcome
    where
      go : {l : Landing Reply} → Outcome g t w l → l.answer ≡ gives made → (w.step ≡ w.rows * g.circuits → ⊥) × MadeStep g t w l
      go (goes ne x) e = (ne, x)
      go (ends q) e = done_made e
      go (stays n) e = given-refused (sym e)

  -- l is what a callee leaves
  pub step_goes : {l : Landing Reply} → l ≡ step_of g t w → l.answer ≡ gives made → Goes g t w 1 l
  step_goes is = go (subst (Outcome g t w) (sym is) outcome)
    where
      go : {l : Landing Reply} → Outcome g t w l → l.answer ≡ gives made → Goes g t w 1 l
      go (goes ne x) e = made_goes ne x
      go (ends q) e = done_made e
      go (stays n) e = given-refused (sym e)

  pub done_end : (step_of g t w).answer ≡ gives done → w.step ≡ w.rows * g.circuits
  done_end = go outcome
    where
      go : {l : Landing Reply} → Outcome g t w l → l.answer ≡ gives done → w.step ≡ w.rows * g.circuits
      go (goes _ x) e = done_made (sym e ∙ made_answer x)
      go (ends q) e = q
      go (stays n) e = given-refused (sym e)

  pub step_keeps : (n : ℕ) → (step_of g t w).answer ≡ refuses n → step_of g t w ≡ leaves t w (refuses n)
  step_keeps n e = step_unmade (λ m. given-refused (sym m ∙ e)) ∙ ap (leaves t w) e

  pub done_keeps : (step_of g t w).answer ≡ gives done → step_of g t w ≡ leaves t w (gives done)
  done_keeps e = step_unmade (λ m. done_made (sym e ∙ m)) ∙ ap (leaves t w) e

  -- ---- what a start leaves

  module _ (r : List ℕ) where
    -- a start is refused and changes nothing, or it is made
    start_cases : {X : Type 0} → ((n : ℕ) → start_of g t w r ≡ leaves t w (refuses n) → X)
        → (g.test r ≡ gives tt → 0 < capacity_of g.words (length t) → start_of g t w r ≡ leaves (set_row t 0 r) (record { rows = 1; step = 0 }) (gives started) → X) → X
    start_cases {X} f h = go (g.test r) refl (eqb (capacity_of g.words (length t)) 0) refl
      where
        go : (a : Answer (Unit {0})) → g.test r ≡ a → (b : Bool) → eqb (capacity_of g.words (length t)) 0 ≡ b → X
        go (refuses n) e b q = f n (start-refused g t w r n e)
        go (gives v) e true q = f 11 (start_full g t w r e (eqb-true _ _ q))
        go (gives v) e false q = let ne = eqb-false _ _ q in h e (omega arith) (start_writes g t w r e ne)

    pub start_keeps : (n : ℕ) → (start_of g t w r).answer ≡ refuses n → start_of g t w r ≡ leaves t w (refuses n)
    start_keeps n e = start_cases (λ m q. q ∙ ap (leaves t w) (sym (ap (λ (l : Landing Begun). l.answer) q) ∙ e)) (λ p l q. given-refused (sym (ap (λ (l : Landing Begun). l.answer) q) ∙ e))

    pub start_facts : (start_of g t w r).answer ≡ gives started
        → (g.test r ≡ gives tt) × (0 < capacity_of g.words (length t)) × (start_of g t w r ≡ leaves (set_row t 0 r) (record { rows = 1; step = 0 }) (gives started))
    start_facts e = start_cases (λ m q. given-refused (sym e ∙ ap (λ (l : Landing Begun). l.answer) q)) (λ p l q. (p, l, q))
