-- When a start and a step are refused, and what they answer else, for any ground that refuses as its lines say. Runs: proofs/Runs.
--
--   start_refuses, step_refuses    a refusal number exactly when its line is the first that holds
--   start_starts              started exactly when no line holds
--   step_done, step_made      done exactly where the first rules and the record pass and the walk is at its end; made exactly where no line holds and it is not
--   step_full                 where its first rules, the record and the row that is tried pass, 11 is the one number that refuses a step
--   walk_clear                no line of the first tests holds exactly where no first line of the ground does and the record is possible
--   Fronted t w rs ks x, walk_fronted    rules in front of a landing: one is broken and its number is answered, with everything as it was, or they let it pass
--
-- That a refused start or step changes nothing: proofs/StepLaws. Source: document 01, "The walk", "Refusal numbers".
use mathlib.Core.Path.{◌≡◌, refl, sym, ◌∙◌, ap}
use mathlib.Core.Logic.{◌⊎◌, inl, inr, ⊎_elim, ◌↔◌}
use mathlib.Core.Bool.{Bool, cond}
use mathlib.Core.List.{List, [], ◌∷◌, ◌++◌}
use Prim.Native.Nat.{ℕ, ◌*◌, ◌<◌}
use native.Mathlib.Omega.{arith}
use native.Mathlib.Nat.{mod-lt}
use lib.Dec.{eqb}
use lib.ListN.{length}
use Rattle.algebra.specs.Answer.{Answer, gives, refuses, Rule, chain, Line, First, Clear, Reflects, holds, fails, Decides}
use Rattle.algebra.specs.Words.{set_row}
use Rattle.algebra.proofs.AnswerLaws.{given-refused, chain_refuses, chain_gives, first_clear, first_one, first-append, clear-append, decides-append, reflects_eqb}
use Rattle.reach.specs.Walks.{Ground, WalkRecord, started, Reply, made, done, Landing, leaves, only_if, capacity_of, seen_in, record_rule, walk_rules, counted, grown}
use Rattle.reach.specs.Walks.{store_of, after_flip, try_of, step_of, begin, start_of}
use Rattle.reach.specs.Reach.{Stands}
use Rattle.reach.specs.Lines.{Lines, Says, first-line, no_line, FlipSays, row-refused, no-flip, flipped, Lined, during, NoRow, start_lines}
use Rattle.reach.specs.Lines.{Impossible, walk_lines, Ahead, row_at, circuit_number, Flips, New, Full, step_lines}
use Rattle.reach.proofs.ReachLaws.{tried_circuit}
use Rattle.reach.proofs.StepLaws.{seen_reflects, impossible_reflects, after-refused, done_made}

-- ---- the first line that holds

first-during : {A : Type 0} (n : ℕ) (ls : List Line) → A → First n ls → First n (during A ls)
first-during n [] a f = f
first-during n (x ∷ ls) a (inl p) = inl ((a, p.0), p.1)
first-during n (x ∷ ls) a (inr p) = inr (λ q. p.0 q.1, first-during n ls a p.1)

clear-during : (A : Type 0) (ls : List Line) → Clear ls → Clear (during A ls)
clear-during A [] c = c
clear-during A (x ∷ ls) c = (λ q. c.0 q.1, clear-during A ls c.1)

clear_never : {A : Type 0} (ls : List Line) → (A → ⊥) → Clear (during A ls)
clear_never [] h = tt
clear_never (x ∷ ls) h = (λ q. h q.0, clear_never ls h)

-- with all but the last ruled out where A holds, it is the last
last-during : {A : Type 0} (n : ℕ) (ls : List Line) (x : Line) → (A → Clear ls) → First n (during A (ls ++ x ∷ [])) → n ≡ x.number
last-during n [] x c (inl p) = p.1
last-during n [] x c (inr p) = absurd p.1
last-during n (y ∷ ls) x c (inl p) = absurd ((c p.0.0).0 p.0.1)
last-during n (y ∷ ls) x c (inr p) = last-during n ls x (λ a. (c a).1) p.1

-- ---- what a table says

module _ {A : Type 0} {v : A} (ls : List Line) where
  says_refuses : {a : Answer A} → Says v ls a → (n : ℕ) → (a ≡ refuses n) ↔ First n ls
  says_refuses (first-line m f) n = (λ e. let q : m ≡ n = cc in rw q at f, λ g. ap refuses (first_one m n ls f g))
  says_refuses (no_line c) n = (λ e. given-refused e, λ f. first_clear n ls f c)

  says_gives : {a : Answer A} → Says v ls a → (u : A) → (a ≡ gives u) ↔ (Clear ls × (v ≡ u))
  says_gives (first-line m f) u = (λ e. given-refused (sym e), λ p. first_clear m ls f p.0)
  says_gives (no_line c) u = (λ e. (c, cc), λ p. ap gives p.1)

  says_before : (ks : List Line) {n : ℕ} → First n ks → Says v (ks ++ ls) (refuses n)
  says_before ks {n} f = first-line n ((first-append n ks ls).1 (inl f))

  says_behind : (ks : List Line) → Clear ks → {a : Answer A} → Says v ls a → Says v (ks ++ ls) a
  says_behind ks c (first-line n f) = first-line n ((first-append n ks ls).1 (inr (c, f)))
  says_behind ks c (no_line d) = no_line ((clear-append ks ls).1 (c, d))

  says-during : {B : Type 0} → B → {a : Answer A} → Says v ls a → Says v (during B ls) a
  says-during b (first-line n f) = first-line n (first-during n ls b f)
  says-during {B} b (no_line c) = no_line (clear-during B ls c)

-- rules in front of a landing: one is broken and its number is answered, or they let it pass
abbrev pub Fronted : List ℕ → WalkRecord → List Rule → List Line → Landing Reply → Type 0
Fronted t w rs ks x = ((n : ℕ) × First n ks × (only_if t w (chain rs x) ≡ leaves t w (refuses n))) ⊎ (Clear ks × (only_if t w (chain rs x) ≡ x))

fronted : (t : List ℕ) (w : WalkRecord) (rs : List Rule) (ks : List Line) (x : Landing Reply) → Decides rs ks → Fronted t w rs ks x
fronted t w rs ks x d = go (chain rs x) refl
  where
    go : (a : Answer (Landing Reply)) → chain rs x ≡ a → Fronted t w rs ks x
    go (refuses n) e = inl (n, (chain_refuses rs ks x n d).0 e, ap (only_if t w) e)
    go (gives y) e = let (c, q) = (chain_gives rs ks x y d).0 e in inr (c, ap (only_if t w) e ∙ sym q)

module _ {g : Ground} {L : Lines} (lined : Lined g L) (t : List ℕ) (w : WalkRecord) where
  -- ---- start

  module _ (r : List ℕ) where
    abbrev room_line : Line
    room_line = record { number = 11; when = NoRow g t }

    start_says : Says started (start_lines g L r t) (start_of g t w r).answer
    unfolding start_of
    start_says = go (lined.tests r)
      where
        room : {b : Bool} → Reflects (NoRow g t) b → Says started (room_line ∷ []) (cond b (leaves t w (refuses 11)) (leaves (set_row t 0 r) (record { rows = 1; step = 0 }) (gives started))).answer
        room (holds h) = first-line 11 (inl (h, refl))
        room (fails h) = no_line (h, tt)

        go : {a : Answer (Unit {0})} → Says tt (L.before ++ L.test r) a → Says started (start_lines g L r t) (begin g t w r a).answer
        go (first-line n f) = says_before (room_line ∷ []) (L.before ++ L.test r) f
        go (no_line c) = says_behind (room_line ∷ []) (L.before ++ L.test r) c (room (reflects_eqb (capacity_of g.words (length t)) 0))

    pub start_refuses : (n : ℕ) → ((start_of g t w r).answer ≡ refuses n) ↔ First n (start_lines g L r t)
    start_refuses n = says_refuses (start_lines g L r t) start_says n

    pub start_starts : ((start_of g t w r).answer ≡ gives started) ↔ Clear (start_lines g L r t)
    start_starts = let s = says_gives (start_lines g L r t) start_says started in (λ e. (s.0 e).0, λ c. s.1 (c, refl))

  -- ---- step

  abbrev record_line : Line
  record_line = record { number = 15; when = Impossible g t w }

  walk_decided : Decides (walk_rules g t w) (walk_lines g L t w)
  walk_decided =
      decides-append g.before (record_rule g t w ∷ []) L.before (record_line ∷ []) lined.decided
      (refl, impossible_reflects (capacity_of g.words (length t)) w g.circuits, tt)

  pub walk_fronted : (x : Landing Reply) → Fronted t w (walk_rules g t w) (walk_lines g L t w) x
  walk_fronted x = fronted t w (walk_rules g t w) (walk_lines g L t w) x walk_decided

  pub walk_clear : Clear (walk_lines g L t w) ↔ (Clear L.before × (Impossible g t w → ⊥))
  walk_clear = let c = clear-append L.before (record_line ∷ []) in (λ h. let (a, (b, _)) = c.0 h in (a, b), λ (a, b). c.1 (a, (b, tt)))

  abbrev row : List ℕ
  row = row_at g t w

  abbrev z : ℕ
  z = circuit_number g w

  -- the lines of a step that tries a flip
  abbrev full_line : Line
  full_line = record { number = 11; when = Flips g L t w × New g L t w × Full g t w }

  abbrev tried_lines : List Line
  tried_lines = L.row row z ++ full_line ∷ []

  -- a walk that is not at its end has a circuit to try
  circuit_below : (Impossible g t w → ⊥) → Ahead g w → z < g.circuits
  circuit_below possible ahead = mod-lt w.step (tried_circuit w.rows w.step g.circuits below)
    where
      below : w.step < w.rows * g.circuits
      below = let n : ¬ (w.rows * g.circuits < w.step) = λ h. possible (inr (inr h)) in omega arith

  -- the flip gives a list: it is known, or there is no room, or it is written
  store_says : Clear (L.row row z) → Flips g L t w → Says made tried_lines (store_of g.words (seen_in g.words t w.rows) t w (L.result row z)).answer
  unfolding store_of
  store_says c k = says_behind (full_line ∷ []) (L.row row z) c (go (seen_reflects g.words t w.rows (L.result row z)) (reflects_eqb w.rows (capacity_of g.words (length t))))
    where
      go : {a b : Bool} → Reflects (Stands g.words t w.rows (L.result row z)) a → Reflects (Full g t w) b
          → Says made (full_line ∷ [])
          (cond a (leaves t (counted w) (gives made)) (cond b (leaves t w (refuses 11)) (leaves (set_row t w.rows (L.result row z)) (grown w) (gives made)))).answer
      go (holds h) d = no_line (λ q. q.1 h, tt)
      go (fails h) (holds f) = first-line 11 (inl ((k, h, f), refl))
      go (fails h) (fails f) = no_line (λ q. f q.2, tt)

  -- by the row, or 13, which is no refusal of the step, or the list
  flip_says : {x : Answer (List ℕ)} → FlipSays L row z x → Says made tried_lines (after_flip g t w x).answer
  flip_says (row-refused n ne f) = rw (after-refused g t w n ne) (says_before (full_line ∷ []) (L.row row z) f)
  flip_says (no-flip c k) = no_line ((clear-append (L.row row z) (full_line ∷ [])).1 (c, (λ q. q.0 k, tt)))
  flip_says (flipped c k) = store_says c k

  -- what a step answers that is not refused
  abbrev reply_of : Reply
  reply_of = cond (eqb w.step (w.rows * g.circuits)) done made

  try_says : Clear (walk_lines g L t w) → Says reply_of (during (Ahead g w) tried_lines) (try_of g t w).answer
  unfolding try_of
  try_says c = go (reflects_eqb w.step (w.rows * g.circuits))
    where
      go : {b : Bool} → Reflects (w.step ≡ w.rows * g.circuits) b
          → Says (cond b done made) (during (Ahead g w) tried_lines) (cond b (leaves t w (gives done)) (after_flip g t w (g.flip row z))).answer
      go (holds e) = no_line (clear_never tried_lines (λ a. a e))
      go (fails a) = let (passed, possible) = walk_clear.0 c in says-during tried_lines a (flip_says (lined.flips passed row z (circuit_below possible a)))

  step_says : Says reply_of (step_lines g L t w) (step_of g t w).answer
  unfolding step_of
  step_says = go (walk_fronted (try_of g t w))
    where
      go : Fronted t w (walk_rules g t w) (walk_lines g L t w) (try_of g t w) → Says reply_of (step_lines g L t w) (only_if t w (chain (walk_rules g t w) (try_of g t w))).answer
      go (inl (n, f, e)) = rw e (says_before (during (Ahead g w) tried_lines) (walk_lines g L t w) f)
      go (inr (c, e)) = rw e (says_behind (during (Ahead g w) tried_lines) (walk_lines g L t w) c (try_says c))

  pub step_refuses : (n : ℕ) → ((step_of g t w).answer ≡ refuses n) ↔ First n (step_lines g L t w)
  step_refuses n = says_refuses (step_lines g L t w) step_says n

  pub step_full : Clear (walk_lines g L t w) → (Ahead g w → Clear (L.row (row_at g t w) (circuit_number g w))) → (n : ℕ) → (step_of g t w).answer ≡ refuses n → n ≡ 11
  step_full c r n e =
      ⊎_elim (λ f. first_clear n (walk_lines g L t w) f c) (λ (_, f). last-during n (L.row row z) full_line r f)
      ((first-append n (walk_lines g L t w) (during (Ahead g w) tried_lines)).0 ((step_refuses n).0 e))

  -- the two answers of a step that is not refused
  reply_done : (reply_of ≡ done) ↔ (w.step ≡ w.rows * g.circuits)
  reply_done = go (reflects_eqb w.step (w.rows * g.circuits))
    where
      go : {b : Bool} → Reflects (w.step ≡ w.rows * g.circuits) b → (cond b done made ≡ done) ↔ (w.step ≡ w.rows * g.circuits)
      go (holds e) = (λ _. e, λ _. refl)
      go (fails h) = (λ q. done_made (ap gives (sym q)), λ e. absurd (h e))

  reply_made : (reply_of ≡ made) ↔ Ahead g w
  reply_made = go (reflects_eqb w.step (w.rows * g.circuits))
    where
      go : {b : Bool} → Reflects (w.step ≡ w.rows * g.circuits) b → (cond b done made ≡ made) ↔ Ahead g w
      go (holds e) = (λ q. done_made (ap gives q), λ a. absurd (a e))
      go (fails h) = (λ _. h, λ _. refl)

  pub step_done : ((step_of g t w).answer ≡ gives done) ↔ (Clear (walk_lines g L t w) × (w.step ≡ w.rows * g.circuits))
  step_done =
      let s = says_gives (step_lines g L t w) step_says done in
      let c = clear-append (walk_lines g L t w) (during (Ahead g w) tried_lines) in
      (λ e. ((c.0 (s.0 e).0).0, reply_done.0 (s.0 e).1), λ p. s.1 (c.1 (p.0, clear_never tried_lines (λ a. a p.1)), reply_done.1 p.1))

  pub step_made : ((step_of g t w).answer ≡ gives made) ↔ (Clear (step_lines g L t w) × Ahead g w)
  step_made = let s = says_gives (step_lines g L t w) step_says made in (λ e. ((s.0 e).0, reply_made.0 (s.0 e).1), λ p. s.1 (p.0, reply_made.1 p.1))
