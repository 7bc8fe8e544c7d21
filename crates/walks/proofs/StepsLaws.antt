-- Steps over what a run has worked out: what `Going` says of them, and what holds again after those that are made.
--
--   along_row            the step at circuit z of the row of step s: it is left to make, along the same row
--   turn_facts           how many of the b steps that are left are along the row of step s, with c circuits
--   flip_keeps           a flip of a patch keeps the number of words
--   Wrote l first t n    each of the first n rows of the table t is accepted, from row `first` on
--   far_written          a row that the steps of a patch wrote is accepted
--   going_fits, going_below, going_few, going_small    there is room for the rows; the step number is at most rows × circuits; the circuits are few; that product is small
--   going_ahead, going_some    where the step number is not at the end, it is below it, and there are circuits
--   going_step, going_room    below the end it is small, and the step's row lies in the table
--   going_count          the circuits that are worked out are all
--   going_stop           steps that are not made are all that is made of more
--   going_on, going_left    after steps that are made `Going` holds again, and those that are left answer what all of them do
--   step_counts, rows_grow, rows_stay, wrote_on    they raise the step number by so many; rows are added, and the earlier ones stay; those that they wrote are accepted
--   run_steps            a run is its steps
--   step_ends            a step is done at the end
--   step_turned          before the end it is what it makes of its row's flip
--   step_unlisted        where its row is refused, so is it
use Rattle.std.specs.Prelude.{◌≡◌, ℕ, ◌+◌, ◌-◌, ◌*◌, ◌/◌, ◌%◌, ◌<◌, ◌≤◌, min, Bool, true, false, cond, ◌||◌, List, length, ℤ}
use mathlib.Core.Path.{sym, ◌∙◌, ap, subst}
use native.Mathlib.Omega.{arith}
use native.Mathlib.Decide.{dec_lt}
use native.Mathlib.Nat.{add-zero, le-min, min-le_left, min-le_right, mul-le-mul, div-add-mod', div-eq_of_lt, div-lt_iff_lt-mul, mul-add-div_right, mul-add-mod_self_right, mod-lt, mod-eq_of_lt}
use borrow.Author.Tests.{eqb-true}
use Rattle.algebra.specs.Answer.{Answer, gives, refuses, chain}
use Rattle.algebra.specs.Words.{row_of}
use Rattle.algebra.proofs.AnswerLaws.{reflects_true, given-refused}
use Rattle.reach.specs.Walks.{WalkRecord, Reply, made, done, Landing, leaves, rows_most, capacity_of, after_flip, try_of, step_of, steps_of, run_of}
use Rattle.reach.specs.Walked.{Keeps}
use Rattle.reach.proofs.ReachLaws.{tried-row, tried_circuit}
use Rattle.reach.proofs.StepLaws.{possible_facts, step_passed, run_passed, try_done, try_flip, after-refused, Goes, goes_possible}
use Rattle.reach.proofs.RunLaws.{bundle_made, bundle_stop, bundle_goes}
use Rattle.shots.specs.Tests.{refusal_of}
use Rattle.shots.proofs.Patch.{patch_few}
use Rattle.shots.proofs.Chains.{shots_numbered, accepted_run}
use Rattle.circuits.specs.Sizes.{circuits_most}
use Rattle.circuits.specs.Numbering.{circuits_of}
use Rattle.circuits.proofs.FoundLaws.{found_count}
use Rattle.circuits.proofs.Bounds.{circuits-most}
use Rattle.triples.specs.Sizes.{word_count}
use Rattle.lists.specs.Tests.{past_last, some_flat, is_empty, crossing, open_edge, list_rules, list_refusal_of}
use Rattle.surfaces.specs.Calls.{flip_of}
use Rattle.lists.proofs.Promises.{accepted_decided}
use Rattle.surfaces.proofs.Promises.{flip-accepted, flip_words}
use Rattle.surfaces.proofs.CallChains.{flip_unlisted}
use Rattle.walks.specs.Calls.{ground_of}
use Rattle.ready.specs.declared.kernel.Ready.{Ready}
use Rattle.walks.specs.Going.{Going}

-- ---- the number of a step

-- step s + k by the row and the circuit of step s
split : (s c k : ℕ) → s + k ≡ s / c * c + (s % c + k)
split s c k = let e = div-add-mod' s c in omega arith

-- so many steps on it is still the same row's
row_on : (s c k : ℕ) → s % c + k < c → (s + k) / c ≡ s / c
row_on s c k h =
    ap (λ (n : ℕ). n / c) (split s c k)
    ∙ mul-add-div_right (omega arith) (s / c) (s % c + k) ∙ rw (div-eq_of_lt h) (add-zero (s / c))

circuit_on : (s c k : ℕ) → s % c + k < c → s % c + k ≡ (s + k) % c
circuit_on s c k h = sym (ap (λ (n : ℕ). n % c) (split s c k) ∙ mul-add-mod_self_right (s / c) c (s % c + k) ∙ mod-eq_of_lt h)

-- step s', at the circuit z of step s's row, with n rows
pub along_row : (s c z n s' : ℕ) → s % c ≤ z → z < c → s' + s % c ≡ s + z → s / c < n → (s' < n * c) × (s' / c ≡ s / c) × (z ≡ s' % c)
along_row s c z n s' low h e i =
    let k = z - s % c in
    let in_row : s % c + k < c = omega arith in
    let row : (s + k) / c ≡ s / c = row_on s c k in_row in
    let circuit : z ≡ s % c + k = omega arith in
    subst (λ (m : ℕ). (m < n * c) × (m / c ≡ s / c) × (z ≡ m % c)) (omega arith) ((div-lt_iff_lt-mul {k = c} {x = s + k} {y = n} (omega arith)).0 (omega arith), row, circuit ∙ circuit_on s c k in_row)

pub turn_facts : (s c b n : ℕ) → 0 < b → 0 < c → n ≡ min b (c - s % c) → (0 < n) × (n ≤ b) × (n ≤ c - s % c)
turn_facts s c b n h k e =
    let f = min-le_left b (c - s % c) in
    let g = min-le_right b (c - s % c) in
    let i = mod-lt s k in
    let j = le-min {k = 1} {a = b} {b = c - s % c} h (omega arith) in
    (omega arith, omega arith, omega arith)

-- ---- flips and lists of a patch

pub flip_keeps : (l : List ℤ) → Keeps (ground_of l)
flip_keeps l r r' z e f = (flip_words l r r' z e f).0

-- no list is refused with 13, the number of a flip that there is not
list_unflipped : (l : List ℤ) (w : List ℕ) {n : ℕ} → refuses n ≡ chain {A = Unit {0}} (list_rules l w) tt → n ≡ 13 → ⊥
unfolding chain
list_unflipped l w f q = go (past_last l w || some_flat l w) (is_empty l w) (crossing l w) (open_edge l w) (ap refuses (sym q) ∙ f)
  where
    other : (m : ℕ) → (13 ≡ m → ⊥) → ◌≡◌ {A = Answer (Unit {0})} (refuses 13) (refuses m) → ⊥
    other m ne e = ne cc

    go : (a b c d : Bool) → ◌≡◌ {A = Answer (Unit {0})} (refuses 13) (cond a (refuses 7) (cond b (refuses 10) (cond c (refuses 8) (cond d (refuses 9) (gives tt))))) → ⊥
    go true b c d e = other 7 (λ k. omega arith) e
    go false true c d e = other 10 (λ k. omega arith) e
    go false false true d e = other 8 (λ k. omega arith) e
    go false false false true e = other 9 (λ k. omega arith) e
    go false false false false e = given-refused (sym e)

-- ---- rows that a run has written

abbrev pub Wrote : List ℤ → ℕ → List ℕ → ℕ → Type 0
Wrote l first t n = (p : ℕ) → first ≤ p → p < n → list_refusal_of l (row_of word_count t p) ≡ 0

-- of a patch, whatever was worked out: n steps that were made leave x
module _ (l : List ℤ) (t : List ℕ) (w : WalkRecord) (n : ℕ) {x : Landing Reply} (is : x ≡ steps_of (ground_of l) n t w) (e : x.answer ≡ gives made) where
  pub far_written : refusal_of l ≡ 0 → w.rows ≤ capacity_of word_count (length t) → (p : ℕ) → w.rows ≤ p → p < x.walk.rows → list_refusal_of l (row_of word_count x.table p) ≡ 0
  far_written ok room p h i =
      let (r, z, size, f) = (bundle_goes (ground_of l) n t w is e).wrote (flip_keeps l) room p h i in
      eqb-true _ 0 (reflects_true (accepted_decided l ok (row_of word_count x.table p)) (flip-accepted l r (row_of word_count x.table p) z size f))

-- ---- what holds between them

module _ {l : List ℤ} {r : Ready} {t : List ℕ} {w : WalkRecord} (going : Going l r t w) where
  possible : (0 < w.rows) × (w.rows ≤ capacity_of word_count (length t)) × (w.step ≤ w.rows * length (circuits_of l))
  possible = possible_facts _ w (length (circuits_of l)) going.possible

  pub going_fits : w.rows ≤ capacity_of word_count (length t)
  going_fits = possible.1

  -- the code's number of circuits
  pub going_count : {c : ℕ} → c ≡ length r.held.circuits.items → c ≡ length (circuits_of l)
  going_count e = e ∙ found_count l going.ready.tests.circuits

  -- n steps leave x
  module _ (n : ℕ) {x : Landing Reply} (is : x ≡ steps_of (ground_of l) n t w) where
    pub going_stop : {b : ℕ} → n ≤ b → (x.answer ≡ gives made → ⊥) → x ≡ steps_of (ground_of l) b t w
    going_stop {b} h ne = sym (bundle_stop (ground_of l) t w n b h x is ne)

    module _ (e : x.answer ≡ gives made) where
      goes : Goes (ground_of l) t w n x
      goes = bundle_goes (ground_of l) n t w is e

      pub going_on : Going l r x.table x.walk
      going_on = record { patch = going.patch; ready = going.ready; possible = goes_possible goes going.possible }

      pub going_left : {b : ℕ} → n ≤ b → steps_of (ground_of l) b t w ≡ steps_of (ground_of l) (b - n) x.table x.walk
      going_left {b} h = bundle_made (ground_of l) t w n b h x is e

      pub step_counts : x.walk.step ≡ w.step + n
      step_counts = goes.counts

      pub rows_grow : w.rows ≤ x.walk.rows
      rows_grow = goes.grows

      pub rows_stay : (p : ℕ) → p < w.rows → row_of word_count x.table p ≡ row_of word_count t p
      rows_stay = goes.stay (flip_keeps l)

      pub wrote_on : {first : ℕ} → Wrote l first t w.rows → Wrote l first x.table x.walk.rows
      wrote_on {first} before p h i = go (dec_lt p w.rows)
        where
          go : Dec (p < w.rows) → list_refusal_of l (row_of word_count x.table p) ≡ 0
          go (yes k) = ap (list_refusal_of l) (rows_stay p k) ∙ before p h k
          go (no k) = far_written l t w n is e going.patch going_fits p (omega arith) i

  -- ---- a run and a step, which the first rules let pass

  step_tries : step_of (ground_of l) t w ≡ try_of (ground_of l) t w
  unfolding refusal_of
  step_tries = step_passed (ground_of l) t w (shots_numbered l) going.patch going.possible

  pub run_steps : (b : ℕ) → steps_of (ground_of l) b t w ≡ run_of (ground_of l) t w b
  unfolding refusal_of
  run_steps b = sym (run_passed (ground_of l) t w b (shots_numbered l) going.patch going.possible)

  -- ---- by the number c of circuits that the code has

  module _ {c : ℕ} (count : c ≡ length (circuits_of l)) where
    pub going_below : w.step ≤ w.rows * c
    going_below = rw count possible.2

    pub going_few : c ≤ circuits_most
    going_few = let h = circuits-most l (patch_few l going.patch).1 in omega (arith, count)

    pub going_small : w.rows * c ≤ rows_most * circuits_most
    going_small = mul-le-mul {n₁ = w.rows} {n₂ = rows_most} (let m = min-le_right (length t / word_count) rows_most in let h = going_fits in omega arith) going_few

    pub going_ahead : (w.step ≡ w.rows * c → ⊥) → w.step < w.rows * c
    going_ahead ne = let f = going_below in omega arith

    pub going_some : (w.step ≡ w.rows * c → ⊥) → 0 < c
    going_some ne = tried_circuit w.rows w.step c (going_ahead ne)

    pub going_step : w.step < w.rows * c → w.step < rows_most * circuits_most
    going_step h = let f = going_small in omega arith

    pub going_room : w.step < w.rows * c → w.step / c < capacity_of word_count (length t)
    going_room h = let i = tried-row w.rows w.step c h in let f = going_fits in omega arith

    pub step_ends : w.step ≡ w.rows * c → step_of (ground_of l) t w ≡ leaves t w (gives done)
    step_ends e = step_tries ∙ try_done (ground_of l) t w (e ∙ ap (λ (n : ℕ). w.rows * n) count)

    step-along : (r : List ℕ) → w.step < w.rows * c → r ≡ row_of word_count t (w.step / c) → step_of (ground_of l) t w ≡ after_flip (ground_of l) t w (flip_of l r (w.step % c))
    step-along r h e =
        step_tries ∙ try_flip (ground_of l) t w (λ q. let i = q ∙ ap (λ (n : ℕ). w.rows * n) (sym count) in omega arith)
        ∙ (λ k. after_flip (ground_of l) t w (flip_of l (row count k) (w.step % sym count k)))
      where
        row : {n : ℕ} → c ≡ n → row_of word_count t (w.step / n) ≡ r
        row q = ap (λ (n : ℕ). row_of word_count t (w.step / n)) (sym q) ∙ sym e

    pub step_turned : (r : List ℕ) (z : ℕ) → w.step < w.rows * c → r ≡ row_of word_count t (w.step / c) → z ≡ w.step % c → {x : Answer (List ℕ)} → x ≡ flip_of l r z → after_flip (ground_of l) t w x ≡ step_of (ground_of l) t w
    step_turned r z h e q f = ap (after_flip (ground_of l) t w) (f ∙ ap (flip_of l r) q) ∙ sym (step-along r h e)

    pub step_unlisted : (r : List ℕ) {n : ℕ} → w.step < w.rows * c → r ≡ row_of word_count t (w.step / c) → refuses n ≡ chain {A = Unit {0}} (list_rules l r) tt → step_of (ground_of l) t w ≡ leaves t w (refuses n)
    step_unlisted r {n} h e f =
        step-along r h e ∙ ap (after_flip (ground_of l) t w) (sym (flip_unlisted l r (w.step % c) (accepted_run l going.patch) f))
        ∙ after-refused (ground_of l) t w n (λ q. list_unflipped l r f q)
