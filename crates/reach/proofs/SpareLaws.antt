-- A walk does not depend on the spare rows of its table, where the flip keeps the number of words: over another table with the same rows in use, and room for those to come, it goes the same way.
--
--   SameRows k n t u      the first n rows of t, of k words each, are those of u
--   Matches k l m         two landings with one answer, one record, and the same rows in use
--   run_spare             runs over two tables with the same rows in use match; a refusal by 11 apart, where the one may have room and the other none
--   run_longer            a run that is not made, but done or refused, is the same with more steps asked for
--
-- Source: document 01, "The walk": "the same step can be asked again over a longer table with the same rows".
use mathlib.Core.Path.{◌≡◌, refl, sym, ap, ◌∙◌, subst}
use mathlib.Core.Bool.{Bool, true, false, cond}
use mathlib.Core.List.{List, [], ◌∷◌, ◌++◌}
use Prim.Native.Nat.{ℕ, zero, suc, ◌+◌, ◌*◌, ◌/◌, ◌%◌, ◌<◌, ◌≤◌}
use native.Mathlib.Omega.{arith}
use native.Mathlib.Decide.{ℕ_discrete}
use lib.Dec.{eqb}
use lib.ListN.{length}
use Rattle.algebra.specs.Answer.{Answer, gives, refuses, Rule, chain}
use Rattle.algebra.specs.Words.{row_of, set_row}
use Rattle.algebra.proofs.AnswerLaws.{given-refused, reflects_agree, reflects_iff}
use Rattle.algebra.proofs.WordLaws.{row-length, row_same, row_other}
use Rattle.reach.specs.Walks.{Ground, WalkRecord, Reply, made, done, Landing, leaves, only_if, capacity_of, seen_in, impossible, walk_rules, counted, grown, store_of, after_flip, try_of, step_of, steps_of, run_of}
use Rattle.reach.specs.Walked.{Keeps}
use Rattle.reach.proofs.ReachLaws.{tried-row}
use Rattle.reach.proofs.StepLaws.{room_for, seen_reflects, possible_facts, possible_holds, try_done, try_flip, store_known, store_full, store_new, goes_possible, step_goes, step_unmade}
use Rattle.reach.proofs.RunLaws.{steps_none, steps_first, bundle_stop}
use Rattle.reach.proofs.TableLaws.{step_long}

abbrev pub SameRows : ℕ → ℕ → List ℕ → List ℕ → Type 0
SameRows k n t u = (p : ℕ) → p < n → row_of k t p ≡ row_of k u p

pub record Matches (k : ℕ) (l m : Landing Reply) : Type 0 where
  pub answer : l.answer ≡ m.answer
  pub walk : l.walk ≡ m.walk
  pub rows : SameRows k l.walk.rows l.table m.table

seen_same : (k n : ℕ) (t u r : List ℕ) → SameRows k n t u → seen_in k t n r ≡ seen_in k u n r
seen_same k n t u r same =
    reflects_agree (seen_reflects k t n r) (reflects_iff (λ (p, h, e). (p, h, same p h ∙ e), λ (p, h, e). (p, h, sym (same p h) ∙ e)) (seen_reflects k u n r))

module _ (g : Ground) (keeps : Keeps g) where
  abbrev room : List ℕ → ℕ
  room t = capacity_of g.words (length t)

  -- two tables with the same rows in use, of a record that is possible over the one and has room in the other
  record Paired (t u : List ℕ) (w : WalkRecord) : Type 0 where
    pub possible : impossible (room t) w g.circuits ≡ false
    pub fits : w.rows ≤ room u
    pub same : SameRows g.words w.rows t u

  -- where the first has not run out of room, and the second has room for what it wrote
  abbrev Both : List ℕ → Landing Reply → Landing Reply → Type 0
  Both u l m = (l.answer ≡ refuses 11 → ⊥) → l.walk.rows ≤ room u → Matches g.words l m

  -- ---- a step

  module _ (t u : List ℕ) (w : WalkRecord) (h : Paired t u w) where
    facts : (0 < w.rows) × (w.rows ≤ room t) × (w.step ≤ w.rows * g.circuits)
    facts = possible_facts (room t) w g.circuits h.possible

    rules_same : walk_rules g t w ≡ walk_rules g u w
    rules_same = ap (λ (b : Bool). g.before ++ record { number = 15; broken = b } ∷ []) (h.possible ∙ sym (possible_holds (room u) w g.circuits facts.0 h.fits facts.2))

    stays : (v : WalkRecord) (a : Answer Reply) → v.rows ≡ w.rows → Both u (leaves t v a) (leaves u v a)
    stays v a e _ _ = record { answer = refl; walk = refl; rows = λ p l. h.same p (omega arith) }

    written : (r : List ℕ) → length r ≡ g.words → w.rows < room t → Both u (leaves (set_row t w.rows r) (grown w) (gives made)) (leaves (set_row u w.rows r) (grown w) (gives made))
    written r size a _ b = record { answer = refl; walk = refl; rows = λ p l. row p l (ℕ_discrete w.rows p) }
      where
        row : (p : ℕ) → p < w.rows + 1 → Dec (w.rows ≡ p) → row_of g.words (set_row t w.rows r) p ≡ row_of g.words (set_row u w.rows r) p
        row p l (yes e) =
            subst (λ (q : ℕ). row_of g.words (set_row t w.rows r) q ≡ row_of g.words (set_row u w.rows r) q) e
            (row_same g.words t w.rows r size (room_for g.words (length t) w.rows a) ∙ sym (row_same g.words u w.rows r size (room_for g.words (length u) w.rows (omega arith))))
        row p l (no ne) = row_other g.words t w.rows p r size ne ∙ h.same p (omega arith) ∙ sym (row_other g.words u w.rows p r size ne)

    store_spare : (r : List ℕ) → length r ≡ g.words → Both u (store_of g.words (seen_in g.words t w.rows) t w r) (store_of g.words (seen_in g.words u w.rows) u w r)
    store_spare r size = go (seen_in g.words t w.rows r) refl (ℕ_discrete w.rows (room t))
      where
        seen : seen_in g.words t w.rows r ≡ seen_in g.words u w.rows r
        seen = seen_same g.words w.rows t u r h.same

        go : (b : Bool) → seen_in g.words t w.rows r ≡ b → Dec (w.rows ≡ room t) → Both u (store_of g.words (seen_in g.words t w.rows) t w r) (store_of g.words (seen_in g.words u w.rows) u w r)
        go true e d = rw (store_known g.words (seen_in g.words t w.rows) t w r e, store_known g.words (seen_in g.words u w.rows) u w r (sym seen ∙ e)) (stays (counted w) (gives made) refl)
        go false e (yes q) = rw (store_full g.words (seen_in g.words t w.rows) t w r e q) (λ full. absurd (full refl))
        go false e (no ne) = rw (store_new g.words (seen_in g.words t w.rows) t w r e ne) (λ a b. new b a b)
          where
            new : w.rows + 1 ≤ room u → Both u (leaves (set_row t w.rows r) (grown w) (gives made)) (store_of g.words (seen_in g.words u w.rows) u w r)
            new b = rw (store_new g.words (seen_in g.words u w.rows) u w r (sym seen ∙ e) (λ q. absurd (omega arith))) (written r size (let k = facts.1 in omega arith))

    after_spare : (x : Answer (List ℕ)) → ((r : List ℕ) → x ≡ gives r → length r ≡ g.words) → Both u (after_flip g t w x) (after_flip g u w x)
    after_spare (gives r) size = store_spare r (size r refl)
    after_spare (refuses n) size = go (eqb n 13)
      where
        go : (b : Bool) → Both u (cond b (leaves t (counted w) (gives made)) (leaves t w (refuses n))) (cond b (leaves u (counted w) (gives made)) (leaves u w (refuses n)))
        go true = stays (counted w) (gives made) refl
        go false = stays w (refuses n) refl

    try_spare : Both u (try_of g t w) (try_of g u w)
    try_spare = go (ℕ_discrete w.step (w.rows * g.circuits))
      where
        go : Dec (w.step ≡ w.rows * g.circuits) → Both u (try_of g t w) (try_of g u w)
        go (yes e) = rw (try_done g t w e, try_done g u w e) (stays w (gives done) refl)
        go (no ne) = rw (try_flip g t w ne, try_flip g u w ne, ← row) (after_spare (g.flip tried (w.step % g.circuits)) (λ r f. keeps tried r (w.step % g.circuits) (row-length g.words t (w.step / g.circuits)) f))
          where
            tried : List ℕ
            tried = row_of g.words t (w.step / g.circuits)

            row : row_of g.words t (w.step / g.circuits) ≡ row_of g.words u (w.step / g.circuits)
            row = h.same (w.step / g.circuits) (tried-row w.rows w.step g.circuits (let k = facts.2 in omega arith))

    -- rules in front refuse both, or let both pass
    only_spare : (rs : List Rule) {l m : Landing Reply} → Both u l m → Both u (only_if t w (chain rs l)) (only_if u w (chain rs m))
    unfolding chain
    only_spare [] k = k
    only_spare (r ∷ rs) {l} {m} k = go r.broken (only_spare rs k)
      where
        go : (b : Bool) → Both u (only_if t w (chain rs l)) (only_if u w (chain rs m)) → Both u (only_if t w (cond b (refuses r.number) (chain rs l))) (only_if u w (cond b (refuses r.number) (chain rs m)))
        go true q = stays w (refuses r.number) refl
        go false q = q

    step_spare : Both u (step_of g t w) (step_of g u w)
    unfolding step_of
    step_spare = subst (λ (rs : List Rule). Both u (only_if t w (chain (walk_rules g t w) (try_of g t w))) (only_if u w (chain rs (try_of g u w)))) rules_same (only_spare (walk_rules g t w) try_spare)

  -- ---- steps, runs

  steps_grow : (b : ℕ) (t : List ℕ) (w : WalkRecord) → w.rows ≤ (steps_of g b t w).walk.rows
  steps_grow zero t w = rw (steps_none g t w) (omega arith)
  steps_grow (suc b) t w =
      steps_first g b t w (λ e q. rw q (let k = (step_goes g t w refl e).grows in let m = steps_grow b (step_of g t w).table (step_of g t w).walk in omega arith))
      (λ ne q. rw (q, step_unmade g t w ne) (omega arith))

  steps_spare : (b : ℕ) (t u : List ℕ) (w : WalkRecord) → Paired t u w → Both u (steps_of g b t w) (steps_of g b u w)
  steps_spare zero t u w h = rw (steps_none g t w, steps_none g u w) (stays t u w h w (gives made) refl)
  steps_spare (suc b) t u w h = steps_first g b t w (goes (λ k. steps_spare b (step_of g t w).table (step_of g u w).table (step_of g t w).walk k)) stops
    where
      l : Landing Reply
      l = step_of g t w

      m : Landing Reply
      m = step_of g u w

      long : room m.table ≡ room u
      long = ap (capacity_of g.words) (step_long g u w)

      paired : Matches g.words l m → l.answer ≡ gives made → l.walk.rows ≤ room u → Paired l.table m.table l.walk
      paired s e f = record { possible = goes_possible (step_goes g t w refl e) h.possible; fits = rw long f; same = s.rows }

      goes : (Paired l.table m.table l.walk → Both m.table (steps_of g b l.table l.walk) (steps_of g b m.table l.walk))
          → l.answer ≡ gives made → steps_of g (suc b) t w ≡ steps_of g b l.table l.walk → Both u (steps_of g (suc b) t w) (steps_of g (suc b) u w)
      goes further e q = rw q (λ full fits.
          let f : l.walk.rows ≤ room u = let k = steps_grow b l.table l.walk in omega arith in
          let s : Matches g.words l m = step_spare t u w h (λ z. given-refused (sym e ∙ z)) f in
          steps_first g b u w (λ _ q'. rw (q', ← s.walk) (further (paired s e f) full (rw long fits))) (λ ne _. absurd (ne (sym s.answer ∙ e))))

      stops : (l.answer ≡ gives made → ⊥) → steps_of g (suc b) t w ≡ l → Both u (steps_of g (suc b) t w) (steps_of g (suc b) u w)
      stops ne q = rw q (λ full fits.
          let s : Matches g.words l m = step_spare t u w h full fits in
          steps_first g b u w (λ e _. absurd (ne (s.answer ∙ e))) (λ _ q'. rw q' s))

  pub run_spare : (t u : List ℕ) (w : WalkRecord) (b : ℕ) → impossible (capacity_of g.words (length t)) w g.circuits ≡ false → w.rows ≤ capacity_of g.words (length u) → SameRows g.words w.rows t u
      → ((run_of g t w b).answer ≡ refuses 11 → ⊥) → (run_of g t w b).walk.rows ≤ capacity_of g.words (length u) → Matches g.words (run_of g t w b) (run_of g u w b)
  unfolding run_of
  run_spare t u w b e fits same =
      let h : Paired t u w = record { possible = e; fits = fits; same = same } in
      subst (λ (rs : List Rule). Both u (only_if t w (chain (walk_rules g t w) (steps_of g b t w))) (only_if u w (chain rs (steps_of g b u w)))) (rules_same t u w h)
      (only_spare t u w h (walk_rules g t w) (steps_spare b t u w h))

-- ---- more steps asked for

only_same : (t : List ℕ) (w : WalkRecord) (rs : List Rule) {l m : Landing Reply} → ((l.answer ≡ gives made → ⊥) → m ≡ l) → ((only_if t w (chain rs l)).answer ≡ gives made → ⊥) → only_if t w (chain rs m) ≡ only_if t w (chain rs l)
unfolding chain
only_same t w [] f ne = f ne
only_same t w (r ∷ rs) {l} {m} f ne = go r.broken (only_same t w rs f) ne
  where
    go : (b : Bool) → (((only_if t w (chain rs l)).answer ≡ gives made → ⊥) → only_if t w (chain rs m) ≡ only_if t w (chain rs l))
        → ((only_if t w (cond b (refuses r.number) (chain rs l))).answer ≡ gives made → ⊥) → only_if t w (cond b (refuses r.number) (chain rs m)) ≡ only_if t w (cond b (refuses r.number) (chain rs l))
    go true k ne = refl
    go false k ne = k ne

pub run_longer : (g : Ground) (t : List ℕ) (w : WalkRecord) (b c : ℕ) → b ≤ c → ((run_of g t w b).answer ≡ gives made → ⊥) → run_of g t w c ≡ run_of g t w b
unfolding run_of
run_longer g t w b c h ne = only_same t w (walk_rules g t w) (bundle_stop g t w b c h (steps_of g b t w) refl) ne
