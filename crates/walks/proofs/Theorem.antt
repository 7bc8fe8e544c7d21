-- Demand 3 for a patch: what the walk's calls have written is what specs/Demand promises.
--
--   patch_sound          a patch is a ground that the theorem of the room `reach` speaks of
--   flip_is_published    of an accepted list the flips along the patch's numbered circuits are the published flips, along any published circuit
--   reach_published      so what is reached by the one is what is reached by the other
--   reach_bare           and by published flips of whose results nothing is asked
--   walk_passes          a table and a record that an accepted start and its walk's steps and runs have written pass the first tests of a step
--   refused_full         and 11 is the one number that refuses a step over them: there is no row for a new surface
--   walk_surfaces        a table and a record that an accepted start and its walk's steps and runs have written: the demand's conclusions
--   walk_whole           where its walk is done, its rows are what flips reach of whose results nothing is asked
--   demand_3             the same of what the calls left: an accepted `start`, and then `step` and `run`
--
-- For any flip: reach/proofs/Theorem. Source: demand 3; document 01, "The walk".
use Rattle.std.specs.Prelude.{◌≡◌, ℕ, ◌*◌, ◌/◌, ◌<◌, ◌≤◌, ◌↔◌, List, length, ℤ, Ok}
use mathlib.Core.Path.{refl, sym, ◌∙◌, ap, subst}
use mathlib.Core.Logic.{inl, inr, ⊎_elim}
use native.Mathlib.Omega.{arith}
use Rattle.algebra.specs.Answer.{gives, refuses, Clear}
use Rattle.algebra.specs.Words.{Words, row_of}
use Rattle.reach.specs.Walks.{WalkRecord, Begun, started, Reply, Landing, leaves, capacity_of, step_of, start_of}
use Rattle.reach.specs.Lines.{Impossible, Ahead, row_at}
use Rattle.reach.specs.Reach.{Reach, Along, Stands}
use Rattle.reach.specs.Walked.{FlipsTo, Sound, Walked, starts, steps, runs, moves, Listing, Ends}
use Rattle.reach.proofs.ReachLaws.{reach_as, tried-row, tried_all}
use Rattle.reach.proofs.LineLaws.{walk_clear, step_full}
use Rattle.reach.proofs.Theorem.{walk_tested, walked-run, walk_listing, row_kept, walk_ends, last_of, ends_from_start}
use Rattle.shots.specs.Patch.{count_of}
use Rattle.shots.specs.Tests.{refusal_of}
use Rattle.shots.specs.Lines.{shot_lines}
use Rattle.shots.proofs.Chains.{shots_numbered}
use Rattle.circuits.specs.Numbering.{circuits_of}
use Rattle.circuits.proofs.Promises.{number_signs, circuit-given}
use Rattle.triples.specs.Sizes.{word_count}
use Rattle.triples.specs.Sets.{words_of}
use Rattle.triples.specs.declared.Triples.{Triples}
use Rattle.shots.proofs.Promises.{shots_kept}
use Rattle.lists.proofs.Promises.{test_accepts}
use Rattle.surfaces.specs.Areas.{area_sum_of}
use Rattle.lists.specs.Lines.{list_lines, Accepted}
use Rattle.lists.proofs.Agreement.{accepted_iff_triangulation}
use Rattle.surfaces.proofs.Promises.{flip-accepted, flip_published, flip-any, flip_words}
use Rattle.surfaces.proofs.AreaKept.{flip_keeps_area}
use Rattle.walks.specs.Calls.{ground_of, read_walk, walk_as, start_landing, start_call_of}
use Rattle.walks.specs.Lines.{walk_lines}
use Rattle.walks.specs.Surfaces.{PublishedFlip, Reachable}
use Rattle.walks.specs.Reached.{BareFlip, BareReach}
use Rattle.walks.specs.Demand.{Later, at_once, by_step, by-run, moved, StepsMade, StepDone, NoStepRefused, HoldsAll, Demand-3}
use Rattle.walks.specs.declared.Walk.{Walk}
use Rattle.walks.proofs.StepsLaws.{flip_keeps}
use Rattle.walks.proofs.Promises.{patch_lined}

-- ---- the ground of a patch

pub patch_sound : (l : List ℤ) → Sound (ground_of l)
unfolding refusal_of
patch_sound l = record {
  numbered = shots_numbered l;
  keeps = flip_keeps l;
  passes = λ w e. (shots_kept l).0 ((test_accepts l w).0 e).0;
}

-- ---- the published flips

module _ (l : List ℤ) (c : Clear (shot_lines l)) where
  abbrev n : ℕ
  n = count_of l

  abbrev NumberedFlip : List ℕ → List ℕ → Type 0
  NumberedFlip = Along (length (circuits_of l)) (FlipsTo (ground_of l))

  abbrev Good : List ℕ → Type 0
  Good w = Accepted l w × Words word_count w

  module _ (w w' : List ℕ) (good : Good w) where
    bare_flips : BareFlip l w w' → NumberedFlip w w'
    bare_flips (X, x, f, v', k) = let (z, e) = (flip-any l c w w' good.0 good.1 v').1 (X, x, f, k) in (z, ((flip_published l w w' z good.1 v').0 e).2, e)

    flips_published : NumberedFlip w w' → PublishedFlip l w w'
    flips_published (z, h, e) =
        let v' = flip_words l w w' z good.1.0 e in
        let (X, x, f, _) = (flip-any l c w w' good.0 good.1 v').0 (z, e) in
        (X, x, f, v', flip-accepted l w w' z good.1.0 e)

  published_bare : (w w' : List ℕ) → PublishedFlip l w w' → BareFlip l w w'
  published_bare w w' (X, x, f, v', a') = (X, x, f, v', a'.0)

  pub flip_is_published : (w w' : List ℕ) → Accepted l w → Words word_count w → Along (length (circuits_of l)) (FlipsTo (ground_of l)) w w' ↔ PublishedFlip l w w'
  flip_is_published w w' a v = (flips_published w w' (a, v), λ p. bare_flips w w' (a, v) (published_bare w w' p))

  -- what it leads to is good again
  module _ (w₀ : List ℕ) (good : Good w₀) (w : List ℕ) where
    published_reach : Reach NumberedFlip w₀ w → Reachable l w₀ w
    published_reach h = (reach_as {G = PublishedFlip l} Good (λ x y q e. let p = flips_published x y q e in ((p.4, p.3), p)) good h).1

    numbered_reach : BareReach l w₀ w → Reach NumberedFlip w₀ w
    numbered_reach h = (reach_as {G = NumberedFlip} Good (λ x y q b. let e = bare_flips x y q b in let p = flips_published x y q e in ((p.4, p.3), e)) good h).1

    bare_reach : Reachable l w₀ w → BareReach l w₀ w
    bare_reach h = (reach_as {G = BareFlip l} Good (λ x y _ p. ((p.4, p.3), published_bare x y p)) good h).1

  pub reach_published : (w₀ : List ℕ) → Accepted l w₀ → Words word_count w₀ → (w : List ℕ) → Reach (Along (length (circuits_of l)) (FlipsTo (ground_of l))) w₀ w ↔ Reachable l w₀ w
  reach_published w₀ a₀ v₀ w = (published_reach w₀ (a₀, v₀) w, λ h. numbered_reach w₀ (a₀, v₀) w (bare_reach w₀ (a₀, v₀) w h))

  pub reach_bare : (w₀ : List ℕ) → Accepted l w₀ → Words word_count w₀ → (w : List ℕ) → Reachable l w₀ w ↔ BareReach l w₀ w
  reach_bare w₀ a₀ v₀ w = (bare_reach w₀ (a₀, v₀) w, λ h. published_reach w₀ (a₀, v₀) w (numbered_reach w₀ (a₀, v₀) w h))

-- ---- what a walk has written

module _ (l : List ℤ) (w₀ : List ℕ) (v₀ : Words word_count w₀) where
  abbrev WalkedTo : List ℕ → Walk → Type 0
  WalkedTo u v = Walked (ground_of l) w₀ u (read_walk v)

  -- the list that it began with was accepted
  first-row : {u : List ℕ} {w : WalkRecord} → Walked (ground_of l) w₀ u w → Clear (shot_lines l) × Accepted l w₀
  first-row h = let (c, p, g) = (test_accepts l w₀).0 (walk_tested h) in (c, (p, g))

  reach-listed : {u : List ℕ} {w : WalkRecord} → Walked (ground_of l) w₀ u w → (w' : List ℕ) → Reach (Along (length (circuits_of l)) (FlipsTo (ground_of l))) w₀ w' ↔ Reachable l w₀ w'
  reach-listed h = let (c, a) = first-row h in reach_published l c w₀ a v₀

  -- at the end it holds all that is reached
  all_held : {u : List ℕ} {w : WalkRecord} → Walked (ground_of l) w₀ u w → w.step ≡ w.rows * length (circuits_of l) → (w' : List ℕ) → Stands word_count u w.rows w' ↔ Reachable l w₀ w'
  all_held h e w' = let s = (walk_listing (patch_sound l) w₀ v₀.0 h).whole e w' in let q = reach-listed h w' in (λ x. q.0 (s.0 x), λ x. s.1 (q.1 x))

  -- each row is accepted, and has the first row's area
  rows_kept : {u : List ℕ} {w : WalkRecord} → Walked (ground_of l) w₀ u w → (p : ℕ) → p < w.rows
      → Accepted l (row_of word_count u p) × Words word_count (row_of word_count u p) × (area_sum_of l (row_of word_count u p) ≡ area_sum_of l w₀)
  rows_kept h = row_kept (patch_sound l) w₀ v₀.0 h (λ w. Accepted l w × Words word_count w × (area_sum_of l w ≡ area_sum_of l w₀))
      (λ w w' z _ (a, x, q) m e. (flip-accepted l w w' z x.0 e, flip_words l w w' z x.0 e, flip_keeps_area l w w' z x e ∙ q)) ((first-row h).1, v₀, refl)

  possible_there : {u : List ℕ} {w : WalkRecord} → Walked (ground_of l) w₀ u w → (0 < w.rows) × (w.rows ≤ capacity_of word_count (length u)) × (w.step ≤ w.rows * length (circuits_of l))
  possible_there h = (walk_listing (patch_sound l) w₀ v₀.0 h).possible

  -- a step passes its first tests, and is refused for want of a row alone
  pub walk_passes : {u : List ℕ} {w : WalkRecord} → Walked (ground_of l) w₀ u w → Clear (walk_lines l u w)
  walk_passes {u} {w} h = (walk_clear (patch_lined l) u w).1 ((first-row h).0, possible)
    where
      possible : Impossible (ground_of l) u w → ⊥
      possible (inl e) = omega (arith, (possible_there h).0)
      possible (inr (inl e)) = omega (arith, (possible_there h).1)
      possible (inr (inr e)) = omega (arith, (possible_there h).2)

  pub refused_full : (u : List ℕ) (w : WalkRecord) → Walked (ground_of l) w₀ u w → (m : ℕ) → (step_of (ground_of l) u w).answer ≡ refuses m → m ≡ 11
  refused_full u w h = step_full (patch_lined l) u w (walk_passes h) tried
    where
      -- the row that is tried is accepted
      tried : Ahead (ground_of l) w → Clear (list_lines l (row_at (ground_of l) u w))
      tried ahead = (accepted_iff_triangulation l (row_at (ground_of l) u w)).1
          (rows_kept h (w.step / length (circuits_of l)) (tried-row w.rows w.step (length (circuits_of l)) (omega (arith, (possible_there h).2)))).0

  -- where it ends
  module _ (u : List ℕ) (v : Walk) (h : WalkedTo u v) where
    abbrev TheEnd : Type 0
    TheEnd = Ends (ground_of l) u (read_walk v)

    the_end : TheEnd
    the_end = walk_ends (patch_sound l) w₀ v₀.0 h

    made_to : (e : TheEnd) → StepsMade l u v e.count (last_of e).table (walk_as (last_of e).walk)
    made_to e = ap (leaves (last_of e).table (last_of e).walk) (sym e.made_all) ∙ sym (walked-run (patch_sound l) w₀ v₀.0 h e.count)

    walked_there : (e : TheEnd) → Walked (ground_of l) w₀ (last_of e).table (last_of e).walk
    walked_there e = subst (λ (x : Landing Reply). Walked (ground_of l) w₀ x.table x.walk) (walked-run (patch_sound l) w₀ v₀.0 h e.count) (runs u (read_walk v) e.count h)

    held_there : (e : TheEnd) → StepDone l (last_of e).table (walk_as (last_of e).walk) → HoldsAll l w₀ (last_of e).table (walk_as (last_of e).walk)
    held_there e d = all_held (walked_there e) (e.counts ∙ e.ends_at d)

    -- no step is refused: so it is done
    done_there : NoStepRefused l u v → (e : TheEnd) → StepDone l (last_of e).table (walk_as (last_of e).walk)
    done_there none e = ⊎_elim (λ d. d) (λ r. absurd (none e.count (last_of e).table (walk_as (last_of e).walk) (made_to e) r)) e.stops

  -- t₀ and r₀ are what the start was lent
  module _ (t₀ : List ℕ) (r₀ : WalkRecord) (begun : (start_of (ground_of l) t₀ r₀ w₀).answer ≡ gives started) where
    abbrev t : List ℕ
    t = (start_of (ground_of l) t₀ r₀ w₀).table

    abbrev r : Walk
    r = walk_as (start_of (ground_of l) t₀ r₀ w₀).walk

    pub walk_surfaces : (u : List ℕ) (v : Walk) → Walked (ground_of l) w₀ u (read_walk v) → Demand-3 l w₀ (start_of (ground_of l) t₀ r₀ w₀).table (walk_as (start_of (ground_of l) t₀ r₀ w₀).walk) u v
    walk_surfaces u v h = record {
      patch = first.0;
      surface = first.1;
      ends = λ none.
          let b = starts t₀ r₀ begun in
          let e = the_end t r b in
          let d = done_there t r b none e in
          (e.count, (last_of e).table, walk_as (last_of e).walk, made_to t r b e, d, ends_from_start (ground_of l) t₀ r₀ w₀ begun e d, held_there t r b e d);
      ends_later = λ none. let e = the_end u v h in let d = done_there u v h none e in (e.count, (last_of e).table, walk_as (last_of e).walk, made_to u v h e, d, e.ends_at d, held_there u v h e d);
      stops = let e = the_end u v h in (e.count, (last_of e).table, walk_as (last_of e).walk, made_to u v h e, e.stops);
      done_at = listing.done_at;
      whole = all_held h;
      reached = λ p m. (reach-listed h (row_of word_count u p)).0 (listing.reached p m);
      once = listing.once;
      accepted = λ p m. (rows_kept h p m).0;
      first = listing.first;
      one_area = λ p m. (rows_kept h p m).2;
      neighbours = λ p w a (X, x, f, v', a').
          let (i, g, _) = circuit-given l first.0 X x in
          let m = (number_signs l X i g).0 in
          let (good, words, _) = rows_kept h p (tried_all p v.rows v.step (length (circuits_of l)) (omega arith) a (possible_there h).2) in
          let (z, k, e) = (flip_is_published l first.0 (row_of word_count u p) w good words).1 (X, x, f, v', a') in
          listing.neighbours p z w a k e;
    }
      where
        listing : Listing (ground_of l) w₀ u (read_walk v)
        listing = walk_listing (patch_sound l) w₀ v₀.0 h

        first : Clear (shot_lines l) × Accepted l w₀
        first = first-row h

  pub walk_whole : (u : List ℕ) (w : WalkRecord) → Walked (ground_of l) w₀ u w → w.step ≡ w.rows * length (circuits_of l) → (w' : List ℕ) → Stands word_count u w.rows w' ↔ BareReach l w₀ w'
  walk_whole u w h e w' = let (c, a) = first-row h in let s = all_held h e w' in let b = reach_bare l c w₀ a v₀ w' in (λ x. b.0 (s.0 x), λ x. s.1 (b.1 x))

-- ---- the demand

later_walked : {l : List ℤ} {w₀ t : List ℕ} {r : Walk} {u : List ℕ} {v : Walk} → Walked (ground_of l) w₀ t (read_walk r) → Later l t r u v → Walked (ground_of l) w₀ u (read_walk v)
later_walked h at_once = h
later_walked {l} {w₀} h (by_step k a u' v' e) = subst (λ (x : Landing Reply). Walked (ground_of l) w₀ x.table x.walk) (sym e) (steps _ _ (later_walked h k))
later_walked {l} {w₀} h (by-run k b a u' v' e) = subst (λ (x : Landing Reply). Walked (ground_of l) w₀ x.table x.walk) (sym e) (runs _ _ b (later_walked h k))
later_walked h (moved k u' room same) = moves _ u' _ (later_walked h k) room same

-- `Words`: the list is two words of 64 bits, as every list of the code is
pub demand_3 : (l : List ℤ) (s : Triples) → Words word_count (words_of s) → (t₀ : List ℕ) (r₀ : Walk) (t : List ℕ) (r : Walk) → start_landing (Ok tt) r t ≡ start_call_of l s t₀ r₀
    → (u : List ℕ) (v : Walk) → Later l t r u v → Demand-3 l (words_of s) t r u v
demand_3 l s v₀ t₀ r₀ t r begun u v k =
    let a = ap (λ (x : Landing Begun). x.answer) (sym begun) in
    let h = subst (λ (x : Landing Begun). Walked (ground_of l) (words_of s) x.table x.walk) (sym begun) (starts t₀ (read_walk r₀) a) in
    subst (λ (x : Landing Begun). Demand-3 l (words_of s) x.table (walk_as x.walk) u v) (sym begun) (walk_surfaces l (words_of s) v₀ t₀ (read_walk r₀) a u v (later_walked h k))
