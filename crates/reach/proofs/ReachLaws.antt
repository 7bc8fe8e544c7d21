-- Laws of what is reached by flips, for any flip, and of the walk's invariant `Closed`, for any number of circuits and any numbered flip.
--
--   reach_as             where flips of one kind are flips of another on rows that have P, and keep P, what is reached by the one is reached by the other
--   reach_kept           what r₀ has and every flip keeps, each row has that is reached from r₀
--   tried_circuit        a step that is still to be made has a circuit
--   tried-row            and a row in use
--   tried_all            a row whose flips are all tried is in use
--   closed_start         the invariant holds of one row, with no step made
--   closed_moved         it holds of the same rows in another place
--   closed_count         it holds after a step that wrote nothing, where what its flip gives was known
--   closed_new           it holds after a step that wrote what its flip gives, where that was new: for a flip that is a function
--   closed_neighbours    once (p + 1) × C ≤ s, every flip of row p is one of the rows
--   closed_whole         where s is n × C, the rows are exactly what is reached
--
-- Source: document 01, "The walk"; demand 3.
use mathlib.Core.Path.{◌≡◌, sym, ap, ◌∙◌}
use mathlib.Core.Logic.{◌↔◌, ⊎_elim}
use mathlib.Core.List.{List}
use Prim.Native.Nat.{ℕ, zero, suc, ◌+◌, ◌*◌, ◌/◌, ◌%◌, ◌<◌, ◌≤◌}
use native.Mathlib.Omega.{arith}
use native.Mathlib.Nat.{mul-zero, add-mul, one-mul, add-zero, mul-le-mul_right, le_of_mul-le-mul_right, div-lt_iff_lt-mul, mul-add-div_right, mul-add-mod_self_right, div-eq_of_lt, mod-eq_of_lt, mod-lt}
use native.Mathlib.Numerals.{add-one}
use Rattle.algebra.proofs.LoopLaws.{last}
use Rattle.reach.specs.Reach.{Reach, here, by_flip, Flipping, Along, Among, Closed}

pub reach_as : {F G : List ℕ → List ℕ → Type 0} {r₀ r : List ℕ} (P : List ℕ → Type 0) → ((r r' : List ℕ) → P r → F r r' → P r' × G r r') → P r₀ → Reach F r₀ r → P r × Reach G r₀ r
reach_as P turn p here = (p, here)
reach_as {G = G} P turn p (by_flip {r = r} {r' = r'} h f) = let (q, k) = reach_as {G = G} P turn p h in let (q', g) = turn r r' q f in (q', by_flip k g)

pub reach_kept : {F : List ℕ → List ℕ → Type 0} {r₀ r : List ℕ} (P : List ℕ → Type 0) → ((r r' : List ℕ) → P r → F r r' → P r') → P r₀ → Reach F r₀ r → P r
reach_kept {F} P keeps p h = (reach_as {G = F} P (λ r r' q f. (keeps r r' q f, f)) p h).0

-- ---- the number of a step: its row and its circuit

pub tried_circuit : (n s C : ℕ) → s < n * C → 0 < C
tried_circuit n s zero l = let e = mul-zero n in absurd (omega arith)
tried_circuit n s (suc C) l = omega arith

pub tried-row : (n s C : ℕ) → s < n * C → s / C < n
tried-row n s C l = (div-lt_iff_lt-mul (tried_circuit n s C l)).1 l

pub tried_all : (p n s C : ℕ) → 0 < C → (p + 1) * C ≤ s → s ≤ n * C → p < n
tried_all p n s C h a b = let m : (p + 1) * C ≤ n * C = omega arith in let k = le_of_mul-le-mul_right m h in omega arith

row_more : (n C : ℕ) → (n + 1) * C ≡ n * C + C
row_more n C = add-mul n 1 C ∙ ap (λ (m : ℕ). n * C + m) (one-mul C)

step_row : (p z C : ℕ) → z < C → (p * C + z) / C ≡ p
step_row p z C l = mul-add-div_right (omega arith) p z ∙ rw (div-eq_of_lt l) (add-zero p)

step_circuit : (p z C : ℕ) → z < C → (p * C + z) % C ≡ z
step_circuit p z C l = mul-add-mod_self_right p C z ∙ mod-eq_of_lt l

-- below n + 1: below n, or n itself
most : {X : Type 0} (i n : ℕ) → i < n + 1 → (i < n → X) → (i ≡ n → X) → X
most i n l f g = ⊎_elim f g (last i n (rw add-one at l))

-- ---- the invariant, from the start on

module _ {C : ℕ} {F : Flipping} {r₀ : List ℕ} where
  pub closed_start : (row : ℕ → List ℕ) → row 0 ≡ r₀ → Closed C F r₀ row 1 0
  closed_start row e = record {
    some = omega arith;
    first = e;
    below = omega arith;
    once = λ i j l m h. absurd (omega arith);
    reached = λ i l. let z : i ≡ 0 = omega arith in rw (z, e) here;
    tried = λ k l. absurd (omega arith);
  }

  pub closed_moved : {row : ℕ → List ℕ} {n s : ℕ} (row' : ℕ → List ℕ) → ((i : ℕ) → i < n → row' i ≡ row i) → Closed C F r₀ row n s → Closed C F r₀ row' n s
  closed_moved {row} {n} {s} row' same c = record {
    some = c.some;
    first = same 0 c.some ∙ c.first;
    below = c.below;
    once = λ i j l m h. c.once i j l m (sym (same i (omega arith)) ∙ h ∙ same j m);
    reached = λ i l. rw (same i l) (c.reached i l);
    tried = λ k l r f.
        let b = c.below in
        let a = c.tried k l r (rw (same (k / C) (tried-row n k C (omega arith))) at f) in
        (a.0, a.1, same a.0 a.1 ∙ a.2);
  }

  module _ {row : ℕ → List ℕ} {n s : ℕ} (c : Closed C F r₀ row n s) where
    pub closed_count : s < n * C → ((r : List ℕ) → F (row (s / C)) (s % C) r → Among row n r) → Closed C F r₀ row n (s + 1)
    closed_count l known = record {
      some = c.some;
      first = c.first;
      below = omega arith;
      once = c.once;
      reached = c.reached;
      tried = λ k m r f. most k s m (λ q. c.tried k q r f) (λ e. known r (rw e at f));
    }

    -- a row more, r: it is what the flip of step s gives, and it was no row yet
    module _ (row' : ℕ → List ℕ) (same : (i : ℕ) → i < n → row' i ≡ row i) {r : List ℕ} (at_n : row' n ≡ r) where
      still : {x : List ℕ} → Among row n x → Among row' (n + 1) x
      still a = (a.0, let m = a.1 in omega arith, same a.0 a.1 ∙ a.2)

      pub closed_new : ((x : List ℕ) (z : ℕ) (a b : List ℕ) → F x z a → F x z b → a ≡ b) → s < n * C → F (row (s / C)) (s % C) r → (Among row n r → ⊥) → Closed C F r₀ row' (n + 1) (s + 1)
      closed_new det l f new = record {
        some = omega arith;
        first = same 0 c.some ∙ c.first;
        below = let e = row_more n C in let p = tried_circuit n s C l in omega arith;
        once = λ i j q m h. most j n m (λ b. c.once i j q b (sym (same i (omega arith)) ∙ h ∙ same j b)) (λ e. new (i, omega arith, sym (same i (omega arith)) ∙ h ∙ ap row' e ∙ at_n));
        reached = λ i m. most i n m (λ b. rw (same i b) (c.reached i b)) (λ e. rw (e, at_n) (by_flip (c.reached (s / C) (tried-row n s C l)) (s % C, mod-lt s (tried_circuit n s C l), f)));
        tried = λ k m x h. most k s m (λ b. still (c.tried k b x (rw (same (k / C) (tried-row n k C (omega arith))) at h)))
            (λ e. (n, omega arith, at_n ∙ det _ _ _ _ f (rw (e, same (s / C) (tried-row n s C l)) at h)));
      }

    -- ---- what it says of the rows

    pub closed_neighbours : (p z : ℕ) (r : List ℕ) → (p + 1) * C ≤ s → z < C → F (row p) z r → Among row n r
    closed_neighbours p z r h l f = let e = row_more p C in c.tried (p * C + z) (omega arith) r (rw (step_row p z C l, step_circuit p z C l) f)

    all_reached : s ≡ n * C → {r : List ℕ} → Reach (Along C F) r₀ r → Among row n r
    all_reached e here = (0, c.some, c.first)
    all_reached e (by_flip {r = x} {r' = r} w (z, l, f)) =
        let a = all_reached e w in
        closed_neighbours a.0 z r (let h = mul-le-mul_right C a.1 in rw (add-one, e) h) l (rw a.2 f)

    pub closed_whole : s ≡ n * C → (r : List ℕ) → Among row n r ↔ Reach (Along C F) r₀ r
    closed_whole e r = (λ a. rw (← a.2) (c.reached a.0 a.1), all_reached e)
