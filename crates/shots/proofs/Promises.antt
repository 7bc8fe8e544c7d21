-- What the public calls of this room promise: each gives a refusal number exactly when that number's line of document 01's table is the first that holds,
-- its value exactly when no line holds, and no other answer is permitted.
--
--   shots_decided, orientation_decided, cocircuit_decided    the rules of the calls decide the lines of their tables
--   shots_kept                                               no line of the shots holds exactly when the number that refuses the run is 0
--   accept_refuses, orientation_refuses, double_area_refuses, cocircuit_refuses, border_refuses
--   accept_gives, orientation_gives, double_area_gives, cocircuit_gives, border_gives
--   orientation_clear, cocircuit_clear                       no line holds exactly for three shots of an accepted patch, for a pair i < j of its shots
--   cocircuit_signs, cocircuit-refused                       the array beside the answer
--   accept_one, orientation_one, double_area_one, cocircuit_one, border_one    two permitted answers are the same
use mathlib.Core.Path.{◌≡◌, refl, ◌∙◌, ap}
use mathlib.Core.Logic.{◌⊎◌, inl, inr, ⊎_elim, ◌↔◌}
use mathlib.Core.List.{List, [], ◌∷◌, ◌++◌}
use Rattle.std.proofs.Common.{Result, Ok, Err}
use Prim.Native.Nat.{ℕ, ◌≤◌, ◌<◌}
use native.Mathlib.Omega.{arith}
use lib.ListN.{replicate}
use lib.IntN.{ℤ, pos, nat_abs}
use Rattle.algebra.specs.Answer.{Answer, gives, refuses, First, Clear, Decides}
use Rattle.algebra.specs.Loops.{tabulate, tally}
use Rattle.algebra.proofs.AnswerLaws.{chain_refuses, chain_gives, on_value_refuses, on_value_gives, clear-refusal, clear-append, one_answer, decides-append, reflects-or, reflects_leb}
use Rattle.shots.specs.Sizes.{shots_most}
use Rattle.shots.specs.Coordinates.{area_of}
use Rattle.shots.specs.Patch.{count_of}
use Rattle.shots.specs.Tests.{shot_rules, refusal_of}
use Rattle.shots.specs.Lines.{NotShot, NotPair, shot_lines, orientation_lines, cocircuit_lines}
use Rattle.shots.specs.Calls.{Cocircuit, read_signs, accept_of, shots_rule, orientation_of, double_area_of, pair_rule, sign_at, signs_with, cocircuit_of, sides_of, border_call_of}
use Rattle.shots.specs.Refusals.{answered}
use Rattle.shots.specs.declared.refusal.Refusal.{Refusal}
use Rattle.shots.proofs.Decided.{count_decided, far_decided, same_decided, line_decided}
use Rattle.shots.proofs.Chains.{shots_numbered}
use Rattle.shots.proofs.RefusalLaws.{refusal_at, number_back, answered_one}

module _ (l : List ℤ) where
  -- ---- the rules decide the lines

  pub shots_decided : Decides (shot_rules l) (shot_lines l)
  shots_decided = (refl, count_decided l, (refl, far_decided l, (refl, same_decided l, (refl, line_decided l, tt))))

  pub orientation_decided : (a b c : ℕ) → Decides (shot_rules l ++ shots_rule l a b c ∷ []) (orientation_lines l a b c)
  orientation_decided a b c =
      decides-append (shot_rules l) (shots_rule l a b c ∷ []) (shot_lines l) (record { number = 7; when = NotShot l a ⊎ (NotShot l b ⊎ NotShot l c) } ∷ []) shots_decided
      (refl, reflects-or (reflects_leb (count_of l) a) (reflects-or (reflects_leb (count_of l) b) (reflects_leb (count_of l) c)), tt)

  pub cocircuit_decided : (i j : ℕ) → Decides (shot_rules l ++ pair_rule l i j ∷ []) (cocircuit_lines l i j)
  cocircuit_decided i j =
      decides-append (shot_rules l) (pair_rule l i j ∷ []) (shot_lines l) (record { number = 7; when = NotPair l i j } ∷ []) shots_decided
      (refl, reflects-or (reflects_leb (count_of l) i) (reflects-or (reflects_leb (count_of l) j) (reflects_leb j i)), tt)

  -- a number that is a shot
  below : (i : ℕ) → (NotShot l i → ⊥) → i < count_of l
  below i h = omega arith

  pub orientation_clear : (a b c : ℕ) → Clear (orientation_lines l a b c) ↔ (Clear (shot_lines l) × ((a < count_of l) × (b < count_of l) × (c < count_of l)))
  orientation_clear a b c =
      let s = clear-append (shot_lines l) (record { number = 7; when = NotShot l a ⊎ (NotShot l b ⊎ NotShot l c) } ∷ []) in (
        λ h. let (k, (n, _)) = s.0 h in (k, (below a (λ x. n (inl x)), below b (λ x. n (inr (inl x))), below c (λ x. n (inr (inr x))))),
        λ (k, (p, q, r)). s.1 (k, (⊎_elim (λ h. omega arith) (⊎_elim (λ h. omega arith) (λ h. omega arith)), tt)),
      )

  pub cocircuit_clear : (i j : ℕ) → Clear (cocircuit_lines l i j) ↔ (Clear (shot_lines l) × ((i < j) × (j < count_of l)))
  cocircuit_clear i j =
      let s = clear-append (shot_lines l) (record { number = 7; when = NotPair l i j } ∷ []) in (
        λ h. let (k, (n, _)) = s.0 h in (k, (let o : (j ≤ i → ⊥) = λ x. n (inr (inr x)) in omega arith, below j (λ x. n (inr (inl x))))),
        λ (k, (p, q)). s.1 (k, (⊎_elim (λ h. omega arith) (⊎_elim (λ h. omega arith) (λ h. omega arith)), tt)),
      )

  -- ---- accept

  pub accept_refuses : (n : ℕ) → (accept_of l ≡ refuses n) ↔ First n (shot_lines l)
  unfolding accept_of
  accept_refuses n = chain_refuses (shot_rules l) (shot_lines l) tt n shots_decided

  pub accept_gives : (v : Unit {0}) → (accept_of l ≡ gives v) ↔ (Clear (shot_lines l) × (tt ≡ v))
  unfolding accept_of
  accept_gives v = chain_gives (shot_rules l) (shot_lines l) tt v shots_decided

  -- ---- orientation

  pub orientation_refuses : (a b c n : ℕ) → (orientation_of l a b c ≡ refuses n) ↔ First n (orientation_lines l a b c)
  unfolding orientation_of
  orientation_refuses a b c n = chain_refuses _ (orientation_lines l a b c) _ n (orientation_decided a b c)

  pub orientation_gives : (a b c : ℕ) (v : ℤ) → (orientation_of l a b c ≡ gives v) ↔ (Clear (orientation_lines l a b c) × (area_of l a b c ≡ v))
  unfolding orientation_of
  orientation_gives a b c v = chain_gives _ (orientation_lines l a b c) _ v (orientation_decided a b c)

  -- ---- double area

  pub double_area_refuses : (a b c n : ℕ) → (double_area_of l a b c ≡ refuses n) ↔ First n (orientation_lines l a b c)
  unfolding double_area_of
  double_area_refuses a b c n =
      let s = on_value_refuses nat_abs (orientation_of l a b c) n in
      let k = orientation_refuses a b c n in
      (λ e. k.0 (s.0 e), λ f. s.1 (k.1 f))

  pub double_area_gives : (a b c v : ℕ) → (double_area_of l a b c ≡ gives v) ↔ (Clear (orientation_lines l a b c) × (nat_abs (area_of l a b c) ≡ v))
  unfolding double_area_of
  double_area_gives a b c v =
      let s = on_value_gives nat_abs (orientation_of l a b c) v in
      let k = orientation_gives a b c in
      (λ e. let (x, o, q) = s.0 e in let (h, r) = (k x).0 o in (h, ap nat_abs r ∙ q), λ (h, q). s.1 (area_of l a b c, (k (area_of l a b c)).1 (h, refl), q))

  -- ---- cocircuit

  pub cocircuit_refuses : (i j n : ℕ) → ((cocircuit_of l i j).answer ≡ refuses n) ↔ First n (cocircuit_lines l i j)
  unfolding cocircuit_of
  cocircuit_refuses i j n = chain_refuses _ (cocircuit_lines l i j) tt n (cocircuit_decided i j)

  pub cocircuit_gives : (i j : ℕ) (v : Unit {0}) → ((cocircuit_of l i j).answer ≡ gives v) ↔ (Clear (cocircuit_lines l i j) × (tt ≡ v))
  unfolding cocircuit_of
  cocircuit_gives i j v = chain_gives _ (cocircuit_lines l i j) tt v (cocircuit_decided i j)

  pub cocircuit_signs : (i j : ℕ) → Clear (cocircuit_lines l i j) → (cocircuit_of l i j).signs ≡ tabulate shots_most (sign_at l i j)
  unfolding cocircuit_of
  cocircuit_signs i j h = ap (λ (x : Answer (Unit {0})). signs_with x (tabulate shots_most (sign_at l i j))) ((cocircuit_gives i j tt).1 (h, refl))

  pub cocircuit-refused : (i j n : ℕ) → First n (cocircuit_lines l i j) → (cocircuit_of l i j).signs ≡ replicate shots_most (pos 0)
  unfolding cocircuit_of
  cocircuit-refused i j n h = ap (λ (x : Answer (Unit {0})). signs_with x (tabulate shots_most (sign_at l i j))) ((cocircuit_refuses i j n).1 h)

  -- ---- border

  pub border_refuses : (n : ℕ) → (border_call_of l ≡ refuses n) ↔ First n (shot_lines l)
  unfolding border_call_of
  border_refuses n = chain_refuses (shot_rules l) (shot_lines l) _ n shots_decided

  pub border_gives : (v : ℕ) → (border_call_of l ≡ gives v) ↔ (Clear (shot_lines l) × (tally (count_of l) (sides_of l) ≡ v))
  unfolding border_call_of
  border_gives v = chain_gives (shot_rules l) (shot_lines l) _ v shots_decided

pub shots_kept : (l : List ℤ) → Clear (shot_lines l) ↔ (refusal_of l ≡ 0)
unfolding refusal_of
shots_kept l = let k = clear-refusal (shot_rules l) (shot_lines l) (shots_numbered l) (shots_decided l) in (k.1, k.0)

-- ---- one answer: each reading can be undone

abbrev signs_as : Cocircuit → Result (List ℤ) Refusal
signs_as c = go c.answer
  where
    go : Answer (Unit {0}) → Result (List ℤ) Refusal
    go (gives v) = Ok c.signs
    go (refuses n) = Err (refusal_at n)

signs_back : (r : Result (List ℤ) Refusal) → signs_as (read_signs r) ≡ r
signs_back (Ok s) = refl
signs_back (Err e) = ap Err (number_back e)

pub accept_one : (l : List ℤ) (r r' : Result (Unit {0}) Refusal) → answered r ≡ accept_of l → answered r' ≡ accept_of l → r ≡ r'
accept_one l r r' = answered_one

pub orientation_one : (l : List ℤ) (a b c : ℕ) (r r' : Result ℤ Refusal) → answered r ≡ orientation_of l a b c → answered r' ≡ orientation_of l a b c → r ≡ r'
orientation_one l a b c r r' = answered_one

pub double_area_one : (l : List ℤ) (a b c : ℕ) (r r' : Result ℕ Refusal) → answered r ≡ double_area_of l a b c → answered r' ≡ double_area_of l a b c → r ≡ r'
double_area_one l a b c r r' = answered_one

pub cocircuit_one : (l : List ℤ) (i j : ℕ) (r r' : Result (List ℤ) Refusal) → read_signs r ≡ cocircuit_of l i j → read_signs r' ≡ cocircuit_of l i j → r ≡ r'
cocircuit_one l i j r r' = one_answer read_signs signs_as signs_back

pub border_one : (l : List ℤ) (r r' : Result ℕ Refusal) → answered r ≡ border_call_of l → answered r' ≡ border_call_of l → r ≡ r'
border_one l r r' = answered_one
