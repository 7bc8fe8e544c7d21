-- What the tests of the two calls have found out so far, and what that says of the answer. r is the rule of the number of shots, l the shots, n their number.
--
--   count_few          where the rule of the number of shots is kept, the array has room for them
--   take_miscounted    the rule of the number of shots refuses
--   take_turned        a shot is refused
--   shots_placed       the whole numbers' own rules 1 and 2 are kept, so the room shots refuses them by 3 or 4
--   take_unplaced      they are refused by 3 or 4
--   take_taken         none is
--   taken_same         the array that is made of two runs holds their shots, so they are taken as the array's
--   edition_known      the edition is not refused, so the shots are taken by its foot
--   take_unknown, take_known    the edition is refused; its foot is known
--   front_fit          neither the edition nor the number of shots is refused
--   take_unfit, runs_unfit    one of them is
use mathlib.Core.Path.{◌≡◌, refl, sym, ◌∙◌, ap}
use mathlib.Core.Bool.{Bool, true, false, not, cond, ◌||◌, or-false}
use mathlib.Core.List.{List, [], ◌∷◌, ◌++◌}
use Prim.Native.Nat.{ℕ, ◌*◌, ◌≤◌}
use native.Mathlib.Omega.{arith}
use borrow.Author.Tests.{eq-eqb, ltb-false}
use lib.Dec.{ltb}
use lib.ListN.{length, take, replicate}
use lib.IntN.{ℤ, pos}
use lib.Ieee.{Float}
use Rattle.algebra.specs.Answer.{Answer, gives, refuses, Rule, chain, refusal}
use Rattle.algebra.specs.Writing.{wrote}
use Rattle.algebra.proofs.AnswerLaws.{chain_broken, chain_kept, chain_stops, Unbroken, unbroken_after, unbroken-append, refusal_unbroken, gives_unbroken, reflects_false}
use Rattle.algebra.proofs.LoopLaws.{or_parts, length-tabulate}
use Rattle.algebra.proofs.WritingLaws.{wrote_taken}
use Rattle.shots.specs.Sizes.{shots_least, shots_most, coordinates_most}
use Rattle.shots.specs.Tests.{bad_count, some_far, shape_rules, refusal_of}
use Rattle.shots.specs.Calls.{PatchRead, accept_of}
use Rattle.shots.proofs.Decided.{count_test, far_decided}
use Rattle.shots.proofs.HandedLaws.{handed, handed_done, handed_stops}
use Rattle.intake.specs.Scaling.{foot_of, millimetres_of, at_origin}
use Rattle.intake.specs.Tests.{turn_rules, count_rule, intake_rules, edition_rule, front_rules, foot_in, coordinates_of}
use Rattle.intake.specs.Runs.{shot_in, shots_in, runs_rule}
use Rattle.intake.specs.Calls.{taken_by, taken_in}
use Rattle.intake.specs.declared.Shot.{Shot}
use Rattle.intake.specs.declared.Foot.{Foot}
use Rattle.intake.proofs.TurnLaws.{turns_near, millimetres-length}

pub count_few : (n : ℕ) → (count_rule n).broken ≡ false → n ≤ shots_most
count_few n h = ltb-false shots_most n (or_parts (ltb n shots_least) (ltb shots_most n) h).1

abbrev Refused : ℕ → PatchRead
Refused k = record { answer = refuses k; coordinates = replicate coordinates_most (pos 0) }

module _ (foot : Foot) (l : List Shot) (n : ℕ) where
  abbrev places : List ℤ
  places = millimetres_of foot l

  abbrev written : List ℤ
  written = wrote (replicate coordinates_most (pos 0)) 0 places

  pub take_miscounted : (r : Rule) → r.broken ≡ true → Refused r.number ≡ taken_by foot r l n
  take_miscounted r h = handed (intake_rules foot r l) n places (chain_broken r (turn_rules foot l ++ shape_rules places) n h)

  -- 1 and 2 are kept
  module _ (h : (count_rule n).broken ≡ false) (u : Unbroken (turn_rules foot l)) (m : length l ≡ n) where
    right : bad_count places ≡ false
    right = count_test places n (millimetres-length foot l ∙ ap (λ (k : ℕ). 2 * k) m) ∙ h

    near : some_far places ≡ false
    near = reflects_false (far_decided places) (λ (i, _, f). let b = turns_near foot l u i in omega arith)

    pub shots_placed : refusal_of places ≡ refusal (shape_rules places)
    unfolding refusal_of refusal
    shots_placed = rw (right, near) refl

    shots_accepted : accept_of places ≡ chain (shape_rules places) tt
    unfolding accept_of chain
    shots_accepted = rw (right, near) refl

  -- the coordinates were written, or a shot is refused
  pub take_turned : {k : ℕ} → (count_rule n).broken ≡ false → refuses k ≡ coordinates_of foot l → Refused k ≡ taken_by foot (count_rule n) l n
  unfolding coordinates_of
  take_turned h p =
      handed (intake_rules foot (count_rule n) l) n places
      (chain_stops (turn_rules foot l) (shape_rules places) written n (sym p) ∙ chain_kept (count_rule n) (turn_rules foot l ++ shape_rules places) n h)

  module _ (h : (count_rule n).broken ≡ false) (m : length l ≡ n) {t : List ℤ} (p : gives t ≡ coordinates_of foot l) where
    turned : Unbroken (turn_rules foot l) × (written ≡ t)
    unfolding coordinates_of
    turned = gives_unbroken (turn_rules foot l) written t (sym p)

    many : length places ≡ 2 * n
    many = millimetres-length foot l ∙ ap (λ (k : ℕ). 2 * k) m

    take_front : take (2 * n) t ≡ places
    take_front = (λ k. take (sym many k) (sym turned.1 k)) ∙ wrote_taken (replicate coordinates_most (pos 0)) places (omega (arith, many, count_few n h))

    -- by what `accept` answers of what is in front
    shaped : {a : Answer (Unit {0})} → a ≡ accept_of (take (2 * n) t) → chain (shape_rules places) tt ≡ a
    shaped q = sym (q ∙ ap accept_of take_front ∙ shots_accepted h turned.0 m)

    pub take_unplaced : {k : ℕ} → refuses k ≡ accept_of (take (2 * n) t) → Refused k ≡ taken_by foot (count_rule n) l n
    take_unplaced q =
        handed (intake_rules foot (count_rule n) l) n places
        (chain_stops (shape_rules places) [] tt n (shaped q) ∙ unbroken_after (turn_rules foot l) (shape_rules places) n turned.0 ∙ chain_kept (count_rule n) (turn_rules foot l ++ shape_rules places) n h)

    pub take_taken : {v : Unit {0}} → gives v ≡ accept_of (take (2 * n) t) → record { answer = gives n; coordinates = t } ≡ taken_by foot (count_rule n) l n
    take_taken {v} q =
        handed_done (intake_rules foot (count_rule n) l) n places
        (h, unbroken-append (turn_rules foot l) (shape_rules places) turned.0 (gives_unbroken (shape_rules places) tt v (shaped q)).0) (sym turned.1)

-- ---- two runs

module _ (u : List ℕ) (v : List Float) where
  runs_shots : length u ≤ shots_most → take (length u) (wrote (replicate shots_most at_origin) 0 (shots_in u v)) ≡ shots_in u v
  unfolding shots_in
  runs_shots h =
      let m = length-tabulate (shot_in u v) (length u) in
      ap (λ (k : ℕ). take k (wrote (replicate shots_most at_origin) 0 (shots_in u v))) (sym m) ∙ wrote_taken (replicate shots_most at_origin) (shots_in u v) (omega (arith, h, m))

  many_shots : length (shots_in u v) ≡ length u
  unfolding shots_in
  many_shots = length-tabulate (shot_in u v) (length u)

  -- where there are two floats for each unit, the rule of the runs is that of the count
  pub taken_same : (foot : Foot) → length u ≤ shots_most → length v ≡ 2 * length u → {l : List Shot} → l ≡ wrote (replicate shots_most at_origin) 0 (shots_in u v) → let t = take (length u) l in taken_by foot (count_rule (length t)) t (length t) ≡ taken_by foot (runs_rule u v) (shots_in u v) (length u)
  taken_same foot h e {l} p =
      let s = ap (take (length u)) p ∙ runs_shots h in
      let m = ap length s ∙ many_shots in
      λ k. taken_by foot (record { number = 1; broken = (ap (λ n. (count_rule n).broken) m ∙ kept) k }) (s k) (m k)
    where
      kept : (count_rule (length u)).broken ≡ (runs_rule u v).broken
      kept = sym (or-false (count_rule (length u)).broken) ∙ ap (λ (b : Bool). (count_rule (length u)).broken || not b) (sym (eq-eqb (length v) (2 * length u) e))

-- ---- the edition

-- it is not refused, so the shots are taken by its foot
pub edition_known : (e : ℕ) (r : Rule) (l : List Shot) (n : ℕ) → (edition_rule e).broken ≡ false → taken_by (foot_of e) r l n ≡ taken_in e r l n
edition_known e r l n h = let rs = intake_rules (foot_of e) r l in handed (edition_rule e ∷ rs) n (millimetres_of (foot_of e) l) (chain_kept (edition_rule e) rs n h)

module _ (e : ℕ) (r : Rule) (l : List Shot) (n : ℕ) where
  pub take_unknown : {k : ℕ} → refuses k ≡ foot_in e → Refused k ≡ taken_in e r l n
  unfolding foot_in
  take_unknown p =
      let rs = intake_rules (foot_of e) r l in
      handed (edition_rule e ∷ rs) n (millimetres_of (foot_of e) l) (chain_stops (edition_rule e ∷ []) rs (foot_of e) n (sym p))

  pub take_known : {foot : Foot} → gives foot ≡ foot_in e → taken_by foot r l n ≡ taken_in e r l n
  unfolding foot_in
  take_known {foot} p =
      let (k, is) = gives_unbroken (edition_rule e ∷ []) (foot_of e) foot (sym p) in
      ap (λ (f : Foot). taken_by f r l n) (sym is) ∙ edition_known e r l n k.0

-- by the number that refuses it before any shot is looked at
module _ (e n : ℕ) {k : ℕ} (p : k ≡ refusal (front_rules e n)) where
  pub front_fit : k ≡ 0 → ((edition_rule e).broken ≡ false) × ((count_rule n).broken ≡ false)
  front_fit z = let u = refusal_unbroken (front_rules e n) (omega arith, (omega arith, tt)) (sym p ∙ z) in (u.0, u.1.0)

  module _ (z : k ≡ 0 → ⊥) (l : List Shot) where
    abbrev behind-front : List Rule
    behind-front = turn_rules (foot_of e) l ++ shape_rules (millimetres_of (foot_of e) l)

    pub take_unfit : Refused k ≡ taken_in e (count_rule n) l n
    take_unfit = handed_stops (front_rules e n) behind-front n (millimetres_of (foot_of e) l) p z

    -- a longer rule of the number of shots, b more
    pub runs_unfit : (b : Bool) → Refused k ≡ taken_in e (record { number = 1; broken = (count_rule n).broken || b }) l n
    unfolding refusal
    runs_unfit b =
        handed_stops (edition_rule e ∷ record { number = 1; broken = (count_rule n).broken || b } ∷ []) behind-front n (millimetres_of (foot_of e) l)
        (p ∙ more (edition_rule e).broken (count_rule n).broken (λ y. z (p ∙ y))) z
      where
        more : (c d : Bool) → (◌≡◌ {A = ℕ} (cond c 17 (cond d 1 0)) 0 → ⊥) → ◌≡◌ {A = ℕ} (cond c 17 (cond d 1 0)) (cond c 17 (cond (d || b) 1 0))
        more true d h = refl
        more false true h = refl
        more false false h = absurd (h refl)
