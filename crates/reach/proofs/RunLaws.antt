-- Several steps, and runs: what they make of the steps one by one.
--
--   steps_none, steps_one, steps-add    no step, one step, a + b steps
--   bundle_made, bundle_stop         b steps, by what the first a of them answer
--   steps_stop, steps_first           the same by what the first one answers
--   bundle_goes, steps_count         so many steps that are made leave what `Goes` says; they raise the step number by so many
--   run_one                          a run of one step is a step
--   Stood g t w b l                  of b steps so many were made, and stand: the table and the record of l are theirs, and its answer is the next step's
--   steps_stand                      the earlier steps stand
--   StopsAt g t w b a k              k of b steps are made, and one more, still wanted, answers a
--   steps_stopped, stopped_steps     steps answer a, which is not made, exactly where it is so for some k; then they leave what k steps leave
--
-- Source: document 01, "The walk".
use mathlib.Core.Path.{◌≡◌, refl, sym, ap, ◌∙◌, subst}
use mathlib.Core.Logic.{◌⊎◌, inl, inr, ⊎_elim}
use mathlib.Core.Bool.{Bool, true, false, cond}
use mathlib.Core.List.{List, [], ◌∷◌}
use Prim.Native.Nat.{ℕ, zero, suc, ◌+◌, ◌-◌, ◌<◌, ◌≤◌}
use native.Mathlib.Omega.{arith}
use Rattle.algebra.specs.Answer.{Answer, gives, refuses, Rule, chain}
use Rattle.reach.specs.Walks.{Ground, WalkRecord, Reply, made, done, Landing, leaves, only_if, walk_rules}
use Rattle.reach.specs.Walks.{try_of, step_of, go_on, steps_of, run_of}
use Rattle.reach.proofs.StepLaws.{Goes, goes_none, goes_on, made_dec, step_goes, step_unmade}

-- ---- steps

-- k of what m left where m was made, and else m itself
abbrev onward : (Landing Reply → Landing Reply) → Landing Reply → Landing Reply
onward k m = go_on m m.answer (k m)

onward_made : (k : Landing Reply → Landing Reply) (l : Landing Reply) → l.answer ≡ gives made → onward k l ≡ k l
onward_made k l e = ap (λ (a : Answer Reply). go_on l a (k l)) e

onward_stops : (k : Landing Reply → Landing Reply) (l : Landing Reply) → (l.answer ≡ gives made → ⊥) → onward k l ≡ l
onward_stops k l h = go l.answer refl
  where
    go : (a : Answer Reply) → l.answer ≡ a → go_on l a (k l) ≡ l
    go (gives made) e = absurd (h e)
    go (gives done) e = refl
    go (refuses n) e = refl

-- one after the other, grouped either way
onward_grouped : (k : Landing Reply → Landing Reply) (m l : Landing Reply) → onward (λ _. onward k m) l ≡ onward k (onward (λ _. m) l)
onward_grouped k m l = go (made_dec l.answer)
  where
    go : Dec (l.answer ≡ gives made) → onward (λ _. onward k m) l ≡ onward k (onward (λ _. m) l)
    go (yes e) = onward_made (λ _. onward k m) l e ∙ ap (onward k) (sym (onward_made (λ _. m) l e))
    go (no h) = onward_stops (λ _. onward k m) l h ∙ sym (onward_stops k l h) ∙ ap (onward k) (sym (onward_stops (λ _. m) l h))

module _ (g : Ground) where
  abbrev steps_after : ℕ → Landing Reply → Landing Reply
  steps_after b l = steps_of g b l.table l.walk

  pub steps_none : (t : List ℕ) (w : WalkRecord) → steps_of g 0 t w ≡ leaves t w (gives made)
  unfolding steps_of
  steps_none t w = refl

  pub steps_one : (t : List ℕ) (w : WalkRecord) → steps_of g 1 t w ≡ step_of g t w
  unfolding steps_of
  steps_one t w = go (made_dec (step_of g t w).answer)
    where
      go : Dec ((step_of g t w).answer ≡ gives made) → onward (steps_after 0) (step_of g t w) ≡ step_of g t w
      go (yes e) = onward_made (steps_after 0) (step_of g t w) e ∙ ap (leaves (step_of g t w).table (step_of g t w).walk) (sym e)
      go (no h) = onward_stops (steps_after 0) (step_of g t w) h

  pub steps-add : (a b : ℕ) (t : List ℕ) (w : WalkRecord)
      → steps_of g (a + b) t w ≡ go_on (steps_of g a t w) (steps_of g a t w).answer (steps_of g b (steps_of g a t w).table (steps_of g a t w).walk)
  unfolding steps_of
  steps-add zero b t w = ap (λ (n : ℕ). steps_of g n t w) (let e : 0 + b ≡ b = omega arith in e)
  steps-add (suc a) b t w =
      let l : Landing Reply = step_of g t w in
      ap (λ (n : ℕ). steps_of g n t w) (let e : suc a + b ≡ suc (a + b) = omega arith in e)
      ∙ ap (λ (m : Landing Reply). onward (λ _. m) l) (steps-add a b l.table l.walk)
      ∙ onward_grouped (steps_after b) (steps_after a l) l

  -- by what the first a of b steps answer
  module _ (t : List ℕ) (w : WalkRecord) (a b : ℕ) (h : a ≤ b) (l : Landing Reply) (is : l ≡ steps_of g a t w) where
    parted : steps_of g b t w ≡ onward (steps_after (b - a)) l
    parted = ap (λ (n : ℕ). steps_of g n t w) (let e : b ≡ a + (b - a) = omega arith in e) ∙ steps-add a (b - a) t w ∙ ap (onward (steps_after (b - a))) (sym is)

    pub bundle_made : l.answer ≡ gives made → steps_of g b t w ≡ steps_of g (b - a) l.table l.walk
    bundle_made e = parted ∙ onward_made (steps_after (b - a)) l e

    pub bundle_stop : (l.answer ≡ gives made → ⊥) → steps_of g b t w ≡ l
    bundle_stop ne = parted ∙ onward_stops (steps_after (b - a)) l ne

  -- by what the first answers
  module _ (t : List ℕ) (w : WalkRecord) (b : ℕ) (h : 0 < b) (l : Landing Reply) (is : l ≡ step_of g t w) where
    pub steps_stop : (l.answer ≡ gives made → ⊥) → steps_of g b t w ≡ l
    steps_stop ne = bundle_stop t w 1 b h l (is ∙ sym (steps_one t w)) ne

  pub steps_first : {X : Type 0} (n : ℕ) (t : List ℕ) (w : WalkRecord)
      → ((step_of g t w).answer ≡ gives made → steps_of g (suc n) t w ≡ steps_of g n (step_of g t w).table (step_of g t w).walk → X)
      → (((step_of g t w).answer ≡ gives made → ⊥) → steps_of g (suc n) t w ≡ step_of g t w → X) → X
  unfolding steps_of
  steps_first {X} n t w f h = go (made_dec (step_of g t w).answer)
    where
      go : Dec ((step_of g t w).answer ≡ gives made) → X
      go (yes e) = f e (onward_made (steps_after n) (step_of g t w) e)
      go (no ne) = h ne (onward_stops (steps_after n) (step_of g t w) ne)

  pub bundle_goes : (n : ℕ) (t : List ℕ) (w : WalkRecord) {l : Landing Reply} → l ≡ steps_of g n t w → l.answer ≡ gives made → Goes g t w n l
  bundle_goes zero t w is e = subst (Goes g t w 0) (sym (is ∙ steps_none t w)) goes_none
  bundle_goes (suc n) t w is e =
      steps_first n t w (λ m q. goes_on n (step_goes g t w refl m) (bundle_goes n (step_of g t w).table (step_of g t w).walk (is ∙ q) e))
      (λ ne q. absurd (ne (sym (ap (λ (l : Landing Reply). l.answer) (is ∙ q)) ∙ e)))

  pub steps_count : (n : ℕ) (t : List ℕ) (w : WalkRecord) → (steps_of g n t w).answer ≡ gives made → (steps_of g n t w).walk.step ≡ w.step + n
  steps_count n t w e = (bundle_goes n t w refl e).counts

-- ---- runs

-- the same rules tested twice
rules_twice : (t : List ℕ) (w : WalkRecord) (rs : List Rule) (x : Landing Reply) → only_if t w (chain rs (only_if t w (chain rs x))) ≡ only_if t w (chain rs x)
unfolding chain
rules_twice t w [] x = refl
rules_twice t w (r ∷ rs) x = go r.broken (rules_twice t w rs x)
  where
    go : (b : Bool) → only_if t w (chain rs (only_if t w (chain rs x))) ≡ only_if t w (chain rs x)
        → only_if t w (cond b (refuses r.number) (chain rs (only_if t w (cond b (refuses r.number) (chain rs x))))) ≡ only_if t w (cond b (refuses r.number) (chain rs x))
    go true e = refl
    go false e = e

pub run_one : (g : Ground) (t : List ℕ) (w : WalkRecord) → run_of g t w 1 ≡ step_of g t w
unfolding run_of step_of
run_one g t w = ap (λ (l : Landing Reply). only_if t w (chain (walk_rules g t w) l)) (steps_one g t w) ∙ rules_twice t w (walk_rules g t w) (try_of g t w)

pub record Stood (g : Ground) (t : List ℕ) (w : WalkRecord) (b : ℕ) (l : Landing Reply) : Type 0 where
  pub count : ℕ
  pub most : count ≤ b
  pub made_all : (steps_of g count t w).answer ≡ gives made
  pub table_is : l.table ≡ (steps_of g count t w).table
  pub walk_is : l.walk ≡ (steps_of g count t w).walk
  pub answer_is : ((count ≡ b) × (l.answer ≡ gives made)) ⊎ ((l.answer ≡ (step_of g (steps_of g count t w).table (steps_of g count t w).walk).answer) × (l.answer ≡ gives made → ⊥))

module _ (g : Ground) where
  -- no step is made, one is made in front
  stood_none : (t : List ℕ) (w : WalkRecord) (b : ℕ) (l : Landing Reply) → l.table ≡ t → l.walk ≡ w
      → ((0 ≡ b) × (l.answer ≡ gives made)) ⊎ ((l.answer ≡ (step_of g t w).answer) × (l.answer ≡ gives made → ⊥)) → Stood g t w b l
  stood_none t w b l p q a = record {
    count = 0;
    most = omega arith;
    made_all = rw (steps_none g t w);
    table_is = rw (steps_none g t w) p;
    walk_is = rw (steps_none g t w) q;
    answer_is = rw (steps_none g t w) a;
  }

  stood_made : (t : List ℕ) (w : WalkRecord) (b : ℕ) (l : Landing Reply) → (step_of g t w).answer ≡ gives made → Stood g (step_of g t w).table (step_of g t w).walk b l → Stood g t w (suc b) l
  stood_made t w b l e s = record {
    count = suc s.count;
    most = let h = s.most in omega arith;
    made_all = rw more s.made_all;
    table_is = rw more s.table_is;
    walk_is = rw more s.walk_is;
    answer_is = rw more (⊎_elim (λ p. inl (ap suc p.0, p.1)) inr s.answer_is);
  }
    where
      more : steps_of g (suc s.count) t w ≡ steps_of g s.count (step_of g t w).table (step_of g t w).walk
      more = steps_first g s.count t w (λ m q. q) (λ ne q. absurd (ne e))

  pub steps_stand : (b : ℕ) (t : List ℕ) (w : WalkRecord) → Stood g t w b (steps_of g b t w)
  steps_stand zero t w = rw (steps_none g t w) (stood_none t w 0 (leaves t w (gives made)) refl refl (inl (refl, refl)))
  steps_stand (suc b) t w =
      steps_first g b t w (λ e q. rw q (stood_made t w b _ e (steps_stand b (step_of g t w).table (step_of g t w).walk))) (λ ne q. rw q (stops ne (step_unmade g t w ne)))
    where
      stops : ((step_of g t w).answer ≡ gives made → ⊥) → step_of g t w ≡ leaves t w (step_of g t w).answer → Stood g t w (suc b) (step_of g t w)
      stops ne e = rw e (stood_none t w (suc b) (leaves t w (step_of g t w).answer) refl refl (inr (refl, ne)))

-- ---- steps that stop

module _ (g : Ground) (t : List ℕ) (w : WalkRecord) (b : ℕ) (a : Answer Reply) where
  -- after k steps that were made, one more, still wanted, answers a
  abbrev pub StopsAt : ℕ → Type 0
  StopsAt k = (k < b) × ((steps_of g k t w).answer ≡ gives made) × ((step_of g (steps_of g k t w).table (steps_of g k t w).walk).answer ≡ a)

  module _ (ne : a ≡ gives made → ⊥) where
    pub steps_stopped : (steps_of g b t w).answer ≡ a → (k : ℕ) × StopsAt k × (steps_of g b t w ≡ leaves (steps_of g k t w).table (steps_of g k t w).walk a)
    steps_stopped e = go (steps_stand g b t w)
      where
        go : Stood g t w b (steps_of g b t w) → (k : ℕ) × StopsAt k × (steps_of g b t w ≡ leaves (steps_of g k t w).table (steps_of g k t w).walk a)
        go s =
            let below : s.count < b = let m = s.most in let k : ¬ (s.count ≡ b) = not_all in omega arith in
            (s.count, (below, s.made_all, ⊎_elim (λ p. absurd (not_all p.0)) (λ p. sym p.0 ∙ e) s.answer_is), λ i. leaves (s.table_is i) (s.walk_is i) (e i))
          where
            not_all : s.count ≡ b → ⊥
            not_all q = ne (sym e ∙ ap (λ (k : ℕ). (steps_of g k t w).answer) (sym q) ∙ s.made_all)

    pub stopped_steps : (k : ℕ) → StopsAt k → (steps_of g b t w).answer ≡ a
    stopped_steps k (h, m, e) =
        let x : Landing Reply = steps_of g k t w in
        let made-so-far = bundle_made g t w k b (omega arith) x refl m in
        let stopped-there = steps_stop g x.table x.walk (b - k) (omega arith) (step_of g x.table x.walk) refl (λ d. ne (sym e ∙ d)) in
        ap (λ (y : Landing Reply). y.answer) (made-so-far ∙ stopped-there) ∙ e
