-- Two ends of a call for C that its contract permits are the same: the number, and all that stands at the lent places. For every input.
--
--   ends_1, ends_2, ends_3, ends_5    what one, two, three or five equations with the same right sides determine; a contract for C has no other parts
--   left_one            the same of what a call of the walk leaves: its number, the record and the whole table
--   patch_accept_one, patch_orientation_one, patch_double_area_one, patch_cocircuit_one, patch_border_one, patch_chains_one, patch_take_runs_one, patch_circuits_one, patch_circuit_one, patch_test_one, patch_placing_one, patch_flip_one, patch_start_one, patch_step_one, patch_run_one,
--   patch_read_patch_one, patch_write_patch_one, patch_read_surface_one, patch_write_surface_one    the nineteen calls, each with the equations of its contract: r and r' are returned, u and u' left
--
-- The calls of the rooms have theirs in their own Promises.
use mathlib.Core.Path.{◌≡◌, sym, ◌∙◌, ap}
use mathlib.Core.List.{List}
use Prim.Native.Nat.{ℕ}
use lib.IntN.{ℤ}
use lib.Ieee.{Float}
use Rattle.shots.specs.Calls.{accept_of, orientation_of, double_area_of, cocircuit_of, border_call_of}
use Rattle.outline.specs.Calls.{chains_of}
use Rattle.intake.specs.Calls.{take_runs_of}
use Rattle.circuits.specs.Calls.{count_call_of, circuit_call_of}
use Rattle.lists.specs.Calls.{test_of}
use Rattle.surfaces.specs.Calls.{placing_of, flip_of}
use Rattle.records.specs.Calls.{read_patch_of, read_surface_of, write_patch_of, write_surface_of}
use Rattle.walks.specs.Calls.{walk_as, step_call_of, run_call_of}
use Rattle.walks.specs.declared.Walk.{Walk}
use Rattle.patch.specs.Returns.{number_of, left_at, beside_at, south_at, north_at, plus_at, minus_at, done_at, Left, left_by, left_of, start_called}

-- ---- the law

pub ends_1 : {A : Type 0} {r r' x : A} → r ≡ x → r' ≡ x → r ≡ r'
ends_1 p q = p ∙ sym q

pub ends_2 : {A B : Type 0} {r r' x : A} {u u' y : B} → (r ≡ x) × (u ≡ y) → (r' ≡ x) × (u' ≡ y) → (r ≡ r') × (u ≡ u')
ends_2 p q = (ends_1 p.0 q.0, ends_1 p.1 q.1)

pub ends_3 : {A B C : Type 0} {r r' x : A} {u u' y : B} {v v' z : C} → (r ≡ x) × (u ≡ y) × (v ≡ z) → (r' ≡ x) × (u' ≡ y) × (v' ≡ z) → (r ≡ r') × (u ≡ u') × (v ≡ v')
ends_3 p q = (ends_1 p.0 q.0, ends_1 p.1 q.1, ends_1 p.2 q.2)

pub ends_5 : {A B C D E : Type 0} {r r' x : A} {u u' y : B} {v v' z : C} {w w' a : D} {s s' b : E} → (r ≡ x) × (u ≡ y) × (v ≡ z) × (w ≡ a) × (s ≡ b) → (r' ≡ x) × (u' ≡ y) × (v' ≡ z) × (w' ≡ a) × (s' ≡ b)
    → (r ≡ r') × (u ≡ u') × (v ≡ v') × (w ≡ w') × (s ≡ s')
ends_5 p q = (ends_1 p.0 q.0, ends_1 p.1 q.1, ends_1 p.2 q.2, ends_1 p.3 q.3, ends_1 p.4 q.4)

pub left_one : {x : Left} {r r' : ℕ} {v v' : Walk} {u u' : List ℕ} → left_by r v u ≡ x → left_by r' v' u' ≡ x → (r ≡ r') × (v ≡ v') × (u ≡ u')
left_one p q = let e = ends_1 p q in (ap (λ (y : Left). y.number) e, ap (λ (y : Left). walk_as y.walk) e, ap (λ (y : Left). y.table) e)

-- ---- the calls

module _ (l : List ℤ) where
  pub patch_accept_one : {r r' : ℕ} → r ≡ number_of (accept_of l) → r' ≡ number_of (accept_of l) → r ≡ r'
  patch_accept_one = ends_1

  pub patch_orientation_one : (a b c : ℕ) (s : ℤ) {r r' : ℕ} {u u' : ℤ} → (r ≡ number_of (orientation_of l a b c)) × (u ≡ left_at s (orientation_of l a b c))
      → (r' ≡ number_of (orientation_of l a b c)) × (u' ≡ left_at s (orientation_of l a b c)) → (r ≡ r') × (u ≡ u')
  patch_orientation_one a b c s = ends_2

  pub patch_double_area_one : (a b c s : ℕ) {r r' u u' : ℕ} → (r ≡ number_of (double_area_of l a b c)) × (u ≡ left_at s (double_area_of l a b c))
      → (r' ≡ number_of (double_area_of l a b c)) × (u' ≡ left_at s (double_area_of l a b c)) → (r ≡ r') × (u ≡ u')
  patch_double_area_one a b c s = ends_2

  pub patch_cocircuit_one : (i j : ℕ) (s : List ℤ) {r r' : ℕ} {u u' : List ℤ}
      → (r ≡ number_of (cocircuit_of l i j).answer) × (u ≡ beside_at s (cocircuit_of l i j).answer (cocircuit_of l i j).signs)
      → (r' ≡ number_of (cocircuit_of l i j).answer) × (u' ≡ beside_at s (cocircuit_of l i j).answer (cocircuit_of l i j).signs) → (r ≡ r') × (u ≡ u')
  patch_cocircuit_one i j s = ends_2

  pub patch_border_one : (s : ℕ) {r r' u u' : ℕ} → (r ≡ number_of (border_call_of l)) × (u ≡ left_at s (border_call_of l)) → (r' ≡ number_of (border_call_of l)) × (u' ≡ left_at s (border_call_of l)) → (r ≡ r') × (u ≡ u')
  patch_border_one s = ends_2

  pub patch_chains_one : (s t : List ℕ) (j k : ℕ) {r r' w w' x x' : ℕ} {u u' v v' : List ℕ}
      → (r ≡ number_of (chains_of l s t).answer) × (u ≡ (chains_of l s t).south) × (v ≡ (chains_of l s t).north) × (w ≡ south_at j (chains_of l s t).answer) × (x ≡ north_at k (chains_of l s t).answer)
      → (r' ≡ number_of (chains_of l s t).answer) × (u' ≡ (chains_of l s t).south) × (v' ≡ (chains_of l s t).north) × (w' ≡ south_at j (chains_of l s t).answer) × (x' ≡ north_at k (chains_of l s t).answer)
      → (r ≡ r') × (u ≡ u') × (v ≡ v') × (w ≡ w') × (x ≡ x')
  patch_chains_one s t j k = ends_5

  pub patch_circuits_one : (s : ℕ) {r r' u u' : ℕ} → (r ≡ number_of (count_call_of l)) × (u ≡ left_at s (count_call_of l)) → (r' ≡ number_of (count_call_of l)) × (u' ≡ left_at s (count_call_of l)) → (r ≡ r') × (u ≡ u')
  patch_circuits_one s = ends_2

  pub patch_circuit_one : (z p m : ℕ) {r r' u u' v v' : ℕ} → (r ≡ number_of (circuit_call_of l z)) × (u ≡ plus_at p (circuit_call_of l z)) × (v ≡ minus_at m (circuit_call_of l z))
      → (r' ≡ number_of (circuit_call_of l z)) × (u' ≡ plus_at p (circuit_call_of l z)) × (v' ≡ minus_at m (circuit_call_of l z)) → (r ≡ r') × (u ≡ u') × (v ≡ v')
  patch_circuit_one z p m = ends_3

  pub patch_test_one : (w : List ℕ) {r r' : ℕ} → r ≡ number_of (test_of l w) → r' ≡ number_of (test_of l w) → r ≡ r'
  patch_test_one w = ends_1

  pub patch_placing_one : (s : List ℕ) {r r' : ℕ} {u u' : List ℕ} → (r ≡ number_of (placing_of l)) × (u ≡ left_at s (placing_of l)) → (r' ≡ number_of (placing_of l)) × (u' ≡ left_at s (placing_of l)) → (r ≡ r') × (u ≡ u')
  patch_placing_one s = ends_2

  pub patch_flip_one : (w : List ℕ) (z : ℕ) {r r' : ℕ} {u u' : List ℕ} → (r ≡ number_of (flip_of l w z)) × (u ≡ left_at w (flip_of l w z)) → (r' ≡ number_of (flip_of l w z)) × (u' ≡ left_at w (flip_of l w z)) → (r ≡ r') × (u ≡ u')
  patch_flip_one w z = ends_2

  pub patch_start_one : (w t : List ℕ) (s : Walk) {r r' : ℕ} {v v' : Walk} {u u' : List ℕ} → left_by r v u ≡ left_of (start_called l w t s) → left_by r' v' u' ≡ left_of (start_called l w t s) → (r ≡ r') × (v ≡ v') × (u ≡ u')
  patch_start_one w t s = left_one

  pub patch_step_one : (t : List ℕ) (s : Walk) (d : ℕ) {r r' f f' : ℕ} {v v' : Walk} {u u' : List ℕ} → (left_by r v u ≡ left_of (step_call_of l t s)) × (f ≡ done_at d (step_call_of l t s).answer)
      → (left_by r' v' u' ≡ left_of (step_call_of l t s)) × (f' ≡ done_at d (step_call_of l t s).answer) → ((r ≡ r') × (v ≡ v') × (u ≡ u')) × (f ≡ f')
  patch_step_one t s d p q = (left_one p.0 q.0, ends_1 p.1 q.1)

  pub patch_run_one : (t : List ℕ) (s : Walk) (b d : ℕ) {r r' f f' : ℕ} {v v' : Walk} {u u' : List ℕ} → (left_by r v u ≡ left_of (run_call_of l t s b)) × (f ≡ done_at d (run_call_of l t s b).answer)
      → (left_by r' v' u' ≡ left_of (run_call_of l t s b)) × (f' ≡ done_at d (run_call_of l t s b).answer) → ((r ≡ r') × (v ≡ v') × (u ≡ u')) × (f ≡ f')
  patch_run_one t s b d p q = (left_one p.0 q.0, ends_1 p.1 q.1)

  pub patch_write_patch_one : (t : List ℕ) (s : ℕ) {r r' v v' : ℕ} {u u' : List ℕ} → (r ≡ number_of (write_patch_of l t).answer) × (u ≡ (write_patch_of l t).buffer) × (v ≡ left_at s (write_patch_of l t).answer)
      → (r' ≡ number_of (write_patch_of l t).answer) × (u' ≡ (write_patch_of l t).buffer) × (v' ≡ left_at s (write_patch_of l t).answer) → (r ≡ r') × (u ≡ u') × (v ≡ v')
  patch_write_patch_one t s = ends_3

  pub patch_read_surface_one : (b s : List ℕ) {r r' : ℕ} {u u' : List ℕ} → (r ≡ number_of (read_surface_of l b)) × (u ≡ left_at s (read_surface_of l b))
      → (r' ≡ number_of (read_surface_of l b)) × (u' ≡ left_at s (read_surface_of l b)) → (r ≡ r') × (u ≡ u')
  patch_read_surface_one b s = ends_2

  pub patch_write_surface_one : (w t : List ℕ) (s : ℕ) {r r' v v' : ℕ} {u u' : List ℕ}
      → (r ≡ number_of (write_surface_of l w t).answer) × (u ≡ (write_surface_of l w t).buffer) × (v ≡ left_at s (write_surface_of l w t).answer)
      → (r' ≡ number_of (write_surface_of l w t).answer) × (u' ≡ (write_surface_of l w t).buffer) × (v' ≡ left_at s (write_surface_of l w t).answer) → (r ≡ r') × (u ≡ u') × (v ≡ v')
  patch_write_surface_one w t s = ends_3

pub patch_read_patch_one : (b : List ℕ) (s : List ℤ) (c : ℕ) {r r' v v' : ℕ} {u u' : List ℤ}
    → (r ≡ number_of (read_patch_of b).answer) × (u ≡ beside_at s (read_patch_of b).answer (read_patch_of b).coordinates) × (v ≡ left_at c (read_patch_of b).answer)
    → (r' ≡ number_of (read_patch_of b).answer) × (u' ≡ beside_at s (read_patch_of b).answer (read_patch_of b).coordinates) × (v' ≡ left_at c (read_patch_of b).answer) → (r ≡ r') × (u ≡ u') × (v ≡ v')
patch_read_patch_one b s c = ends_3

pub patch_take_runs_one : (e : ℕ) (b : List ℕ) (f : List Float) (s : List ℤ) (c : ℕ) {r r' v v' : ℕ} {u u' : List ℤ}
    → (r ≡ number_of (take_runs_of e b f).answer) × (u ≡ beside_at s (take_runs_of e b f).answer (take_runs_of e b f).coordinates) × (v ≡ left_at c (take_runs_of e b f).answer)
    → (r' ≡ number_of (take_runs_of e b f).answer) × (u' ≡ beside_at s (take_runs_of e b f).answer (take_runs_of e b f).coordinates) × (v' ≡ left_at c (take_runs_of e b f).answer) → (r ≡ r') × (u ≡ u') × (v ≡ v')
patch_take_runs_one e b f s c = ends_3
