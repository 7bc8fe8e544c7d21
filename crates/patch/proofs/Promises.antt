-- What the numbers promise: a call returns 0 only where it gives something, for every input.
--
--   chain_apart       a chain whose rules have numbers that are not 0 is apart: its answer is no refusal by the number 0
--   ground_step_apart, ground_run_apart    so are a step and a run, over any ground whose first rules have such numbers and whose flip is apart
--   ground_start_apart                     so is a start, where the test of its list is apart
--   accept_apart, orientation_apart, double_area_apart, cocircuit_apart, border_apart, chains_apart, take_runs_apart, count_apart, circuit_apart, test_apart, placing_apart, flip_apart,
--   start_apart, step_apart, run_apart, read_patch_apart, write_patch_apart, read_surface_apart, write_surface_apart    so are the nineteen calls
--
-- Source: document 01, "Refusal numbers".
use mathlib.Core.Path.{◌≡◌, refl, sym}
use mathlib.Core.Bool.{Bool, true, false, cond}
use mathlib.Core.List.{List, [], ◌∷◌, ◌++◌}
use Prim.Native.Nat.{ℕ, zero, suc, ◌*◌, ◌/◌, ◌%◌, ◌<◌}
use native.Mathlib.Omega.{arith}
use lib.Dec.{eqb}
use lib.ListN.{length, get_or}
use lib.IntN.{ℤ, nat_abs}
use lib.Ieee.{Float}
use Rattle.algebra.specs.Answer.{Answer, gives, refuses, on_value, Rule, chain, Numbered}
use Rattle.algebra.specs.Words.{row_of}
use Rattle.algebra.proofs.AnswerLaws.{given-refused, chain_ends, numbered-append}
use Rattle.reach.specs.Walks.{Ground, WalkRecord, started, Reply, made, done, Landing, only_if, capacity_of, seen_in, walk_rules}
use Rattle.reach.specs.Walks.{store_of, after_flip, try_of, step_of, go_on, steps_of, run_of, begin, start_of}
use Rattle.shots.specs.Patch.{count_of}
use Rattle.shots.specs.Tests.{shape_rules, shot_rules, place_rules}
use Rattle.shots.specs.Calls.{accept_of, shots_rule, orientation_of, double_area_of, pair_rule, cocircuit_of, border_call_of}
use Rattle.shots.proofs.Chains.{shots_numbered}
use Rattle.outline.specs.Calls.{rooms_rule, chains_of}
use Rattle.intake.specs.Scaling.{foot_of, millimetres_of}
use Rattle.intake.specs.Tests.{turn_rules, edition_rule}
use Rattle.intake.specs.Runs.{shots_in, runs_rule}
use Rattle.intake.specs.Calls.{take_runs_of}
use Rattle.intake.proofs.TurnLaws.{turns_numbered}
use Rattle.circuits.specs.Calls.{count_call_of, circuit_rule, circuit_call_of}
use Rattle.lists.specs.Tests.{list_rules}
use Rattle.lists.specs.Calls.{test_of}
use Rattle.lists.proofs.Chains.{list_numbered}
use Rattle.surfaces.specs.Calls.{placing_of, flip_rules, flip_of}
use Rattle.records.specs.Formats.{patch_bytes, surface_bytes}
use Rattle.records.specs.Reading.{coordinates_of, patch_frame, patch_rules, surface_frame, triple_rule, listed_of}
use Rattle.records.specs.Calls.{read_patch_of, read_surface_of, room_rule, write_of, write_patch_of, write_surface_of}
use Rattle.records.proofs.FormatLaws.{patch_numbered, surface_numbered}
use Rattle.walks.specs.Calls.{ground_of, read_walk, step_call_of, run_call_of}
use Rattle.walks.specs.declared.Walk.{Walk}
use Rattle.patch.specs.Returns.{Apart, start_called}

-- ---- answers and chains

given_apart : {A : Type 0} (v : A) → Apart (gives v)
given_apart v e = (v, refl)

refused_apart : {A : Type 0} {n : ℕ} → 0 < n → Apart {A = A} (refuses n)
refused_apart {A} {n} h e = absurd (clash e)
  where
    clash : n ≡ 0 → ⊥
    clash z = omega arith

apart-refused : {A : Type 0} {n : ℕ} → Apart {A = A} (refuses n) → 0 < n
apart-refused {A} {n} h = go (λ e. given-refused (sym (h e).1))
  where
    go : (n ≡ 0 → ⊥) → 0 < n
    go ne = omega arith

pub chain_apart : {A : Type 0} (rs : List Rule) (v : A) → Numbered rs → Apart (chain rs v)
chain_apart rs v h = chain_ends Apart rs v h (λ n l. refused_apart l) (given_apart v)

-- ---- the walk, over any ground

cond_apart : {A : Type 0} (b : Bool) (x y : Landing A) → Apart x.answer → Apart y.answer → Apart (cond b x y).answer
cond_apart true x y h k = h
cond_apart false x y h k = k

go_apart : (l m : Landing Reply) (a : Answer Reply) → Apart l.answer → Apart m.answer → Apart (go_on l a m).answer
go_apart l m (gives made) h k = k
go_apart l m (gives done) h k = h
go_apart l m (refuses n) h k = h

store_apart : (k : ℕ) (find : List ℕ → Bool) (t : List ℕ) (w : WalkRecord) (r : List ℕ) → Apart (store_of k find t w r).answer
unfolding store_of
store_apart k find t w r =
    cond_apart (find r) _ _ (given_apart made)
    (cond_apart (eqb w.rows (capacity_of k (length t))) _ _ (refused_apart (omega arith)) (given_apart made))

module _ (g : Ground) (numbered : Numbered g.before) where
  rules_apart : (t : List ℕ) (w : WalkRecord) (l : Landing Reply) → Apart l.answer → Apart (only_if t w (chain (walk_rules g t w) l)).answer
  rules_apart t w l h =
      chain_ends (λ a. Apart (only_if t w a).answer) (walk_rules g t w) l (numbered-append g.before _ numbered (omega arith, tt)) (λ n p. refused_apart p) h

  module _ (flips : (r : List ℕ) (z : ℕ) → Apart (g.flip r z)) where
    after_apart : (t : List ℕ) (w : WalkRecord) (x : Answer (List ℕ)) → Apart x → Apart (after_flip g t w x).answer
    after_apart t w (gives r) h = store_apart g.words (seen_in g.words t w.rows) t w r
    after_apart t w (refuses n) h = cond_apart (eqb n 13) _ _ (given_apart made) (refused_apart (apart-refused h))

    try_apart : (t : List ℕ) (w : WalkRecord) → Apart (try_of g t w).answer
    unfolding try_of
    try_apart t w = cond_apart (eqb w.step (w.rows * g.circuits)) _ _ (given_apart done) (after_apart t w _ (flips (row_of g.words t (w.step / g.circuits)) (w.step % g.circuits)))

    pub ground_step_apart : (t : List ℕ) (w : WalkRecord) → Apart (step_of g t w).answer
    unfolding step_of
    ground_step_apart t w = rules_apart t w (try_of g t w) (try_apart t w)

    steps_apart : (b : ℕ) (t : List ℕ) (w : WalkRecord) → Apart (steps_of g b t w).answer
    unfolding steps_of
    steps_apart zero t w = given_apart made
    steps_apart (suc b) t w = go_apart (step_of g t w) _ (step_of g t w).answer (ground_step_apart t w) (steps_apart b (step_of g t w).table (step_of g t w).walk)

    pub ground_run_apart : (t : List ℕ) (w : WalkRecord) (b : ℕ) → Apart (run_of g t w b).answer
    unfolding run_of
    ground_run_apart t w b = rules_apart t w (steps_of g b t w) (steps_apart b t w)

pub ground_start_apart : (g : Ground) (t : List ℕ) (w : WalkRecord) (r : List ℕ) → Apart (g.test r) → Apart (start_of g t w r).answer
unfolding start_of
ground_start_apart g t w r h = go (g.test r) h
  where
    go : (a : Answer (Unit {0})) → Apart a → Apart (begin g t w r a).answer
    go (gives v) h = cond_apart (eqb (capacity_of g.words (length t)) 0) _ _ (refused_apart (omega arith)) (given_apart started)
    go (refuses n) h = refused_apart (apart-refused h)

-- ---- the calls

value_apart : {A B : Type 0} (f : A → B) (a : Answer A) → Apart a → Apart (on_value f a)
value_apart f (gives v) h = given_apart (f v)
value_apart f (refuses n) h = refused_apart (apart-refused h)

-- the rules of the shots come first, then ss
shots_apart : {A : Type 0} (l : List ℤ) (ss : List Rule) (v : A) → Numbered ss → Apart (chain (shot_rules l ++ ss) v)
shots_apart l ss v h = chain_apart (shot_rules l ++ ss) v (numbered-append (shot_rules l) ss (shots_numbered l) h)

-- and behind them those of a list, then ss
list_apart : {A : Type 0} (l : List ℤ) (w : List ℕ) (ss : List Rule) (v : A) → Numbered ss → Apart (chain (shot_rules l ++ (list_rules l w ++ ss)) v)
list_apart l w ss v h = shots_apart l (list_rules l w ++ ss) v (numbered-append (list_rules l w) ss (list_numbered l w) h)

module _ (l : List ℤ) where
  pub accept_apart : Apart (accept_of l)
  unfolding accept_of
  accept_apart = shots_apart l [] tt tt

  pub orientation_apart : (a b c : ℕ) → Apart (orientation_of l a b c)
  unfolding orientation_of
  orientation_apart a b c = shots_apart l (shots_rule l a b c ∷ []) _ (omega arith, tt)

  pub double_area_apart : (a b c : ℕ) → Apart (double_area_of l a b c)
  unfolding double_area_of
  double_area_apart a b c = value_apart nat_abs (orientation_of l a b c) (orientation_apart a b c)

  pub cocircuit_apart : (i j : ℕ) → Apart (cocircuit_of l i j).answer
  unfolding cocircuit_of
  cocircuit_apart i j = shots_apart l (pair_rule l i j ∷ []) tt (omega arith, tt)

  pub border_apart : Apart (border_call_of l)
  unfolding border_call_of
  border_apart = shots_apart l [] _ tt

  pub chains_apart : (s t : List ℕ) → Apart (chains_of l s t).answer
  unfolding chains_of
  chains_apart s t = shots_apart l (rooms_rule l s t ∷ []) _ (omega arith, tt)

  pub count_apart : Apart (count_call_of l)
  unfolding count_call_of
  count_apart = shots_apart l [] _ tt

  pub circuit_apart : (z : ℕ) → Apart (circuit_call_of l z)
  unfolding circuit_call_of
  circuit_apart z = shots_apart l (circuit_rule l z ∷ []) _ (omega arith, tt)

  pub test_apart : (w : List ℕ) → Apart (test_of l w)
  unfolding test_of
  test_apart w = list_apart l w [] tt tt

  pub placing_apart : Apart (placing_of l)
  unfolding placing_of
  placing_apart = shots_apart l [] _ tt

  pub flip_apart : (w : List ℕ) (z : ℕ) → Apart (flip_of l w z)
  unfolding flip_of
  flip_apart w z = list_apart l w (flip_rules l w z) _ (omega arith, (omega arith, tt))

  pub start_apart : (w t : List ℕ) (r : Walk) → Apart (start_called l w t r).answer
  start_apart w t r = ground_start_apart (ground_of l) t (read_walk r) w (test_apart w)

  pub step_apart : (t : List ℕ) (r : Walk) → Apart (step_call_of l t r).answer
  step_apart t r = ground_step_apart (ground_of l) (shots_numbered l) flip_apart t (read_walk r)

  pub run_apart : (t : List ℕ) (r : Walk) (b : ℕ) → Apart (run_call_of l t r b).answer
  run_apart t r b = ground_run_apart (ground_of l) (shots_numbered l) flip_apart t (read_walk r) b

  pub write_patch_apart : (t : List ℕ) → Apart (write_patch_of l t).answer
  unfolding write_patch_of write_of
  write_patch_apart t = shots_apart l (room_rule (patch_bytes l) t ∷ []) _ (omega arith, tt)

  pub read_surface_apart : (b : List ℕ) → Apart (read_surface_of l b)
  unfolding read_surface_of
  read_surface_apart b =
      let n = count_of l in
      let rs = triple_rule n b ∷ list_rules l (listed_of n b) in
      shots_apart l (surface_frame n b ++ rs) (listed_of n b) (numbered-append (surface_frame n b) rs (surface_numbered n b) (omega arith, list_numbered l (listed_of n b)))

  pub write_surface_apart : (w t : List ℕ) → Apart (write_surface_of l w t).answer
  unfolding write_surface_of write_of
  write_surface_apart w t = list_apart l w (room_rule (surface_bytes (count_of l) w) t ∷ []) _ (omega arith, tt)

pub read_patch_apart : (b : List ℕ) → Apart (read_patch_of b).answer
unfolding read_patch_of
read_patch_apart b =
    let rs = place_rules (coordinates_of b) in
    chain_apart (patch_rules b) (get_or b 3 0) (numbered-append (patch_frame b) rs (patch_numbered b) (shots_numbered (coordinates_of b)).1)

pub take_runs_apart : (e : ℕ) (u : List ℕ) (v : List Float) → Apart (take_runs_of e u v).answer
unfolding take_runs_of
take_runs_apart e u v =
    let l = shots_in u v in
    let m = millimetres_of (foot_of e) l in
    let rs = turn_rules (foot_of e) l in
    chain_apart (edition_rule e ∷ runs_rule u v ∷ (rs ++ shape_rules m)) (length u) (omega arith, (omega arith, numbered-append rs (shape_rules m) (turns_numbered (foot_of e) l) (shots_numbered m).1.1))
