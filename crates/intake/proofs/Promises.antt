-- What the two calls promise: each gives a refusal number exactly when that number's line is the first that holds, the number of shots exactly when no line holds, and no other answer is permitted;
-- and the coordinates handed out are the nearest whole numbers of the scaled east and north.
--
--   range_decided, finite_decided, turns_decided, rules_decided, few_decided, equal_decided     the tests decide the lines, for every pair of factors
--   edition_decided, lines_decided                so do those with the edition in front
--   take_refuses, take_gives, take_runs_refuses, take_runs_gives
--   take_coordinates, take-refused, take_runs_coordinates, take_runs_refused    the array beside the answer
--   take-accepted, take_runs_accepted             what is handed out is an accepted patch
--   take_nearest, take_runs_nearest               its x and y are nearest to the scaled east and north of each shot
--   taken-accepted, taken_nearest                 so it is for every pair of factors
--   edition_taken                                 an edition takes shots by its factors
--   take_edition, take_runs_edition               so accepted shots in feet are multiplied and divided by these, each rounded once
--   metres_taken, metres_scaled                   shots in metres are taken the same way by every pair of factors
--   take_metres, take_runs_metres                 so where all are in metres, the two editions answer the same
--   take_metres_at, take_runs_metres_at           and where some are, those have the same x and y in both
--   take_one, take_runs_one                       two permitted answers are the same
--
-- That no other whole number is nearest: proofs/Nearness (`whole-only`); that no other x and y are taken so: proofs/PlaceLaws (`taken-only`). Source: document 02, E2, E13.
use mathlib.Core.Path.{◌≡◌, refl, sym, ◌∙◌, ap, subst}
use mathlib.Core.Logic.{◌⊎◌, ◌↔◌}
use mathlib.Core.Bool.{Bool, true, false, not, true≢false, false≢true}
use mathlib.Core.List.{List, [], ◌∷◌, ◌++◌}
use Prim.Native.Nat.{ℕ, ◌+◌, ◌*◌, ◌≤◌, ◌<◌}
use native.Mathlib.Omega.{arith}
use lib.ListN.{length, get_or, take, replicate, length-take}
use lib.Seq.{get_or-take}
use lib.IntN.{ℤ, pos, nat_abs}
use lib.Ieee.{Float, nan, inf, fin}
use lib.Ieee.Scale.{finite}
use Rattle.std.proofs.Common.{Result}
use Rattle.algebra.specs.Answer.{gives, refuses, Rule, First, Clear, Reflects, holds, fails, Decides}
use Rattle.algebra.specs.Writing.{wrote}
use Rattle.algebra.proofs.AnswerLaws.{Unbroken, append_unbroken, unbroken-refusal, decides-append, reflects_iff, reflects-not, reflects-or, reflects_ltb, reflects_eqb}
use Rattle.algebra.proofs.LoopLaws.{length-tabulate, get_d_tabulate, reflects-any_of, or_parts}
use Rattle.shots.specs.Sizes.{shots_least, shots_most, coordinates_most, farthest}
use Rattle.shots.specs.Coordinates.{x_of, y_of}
use Rattle.shots.specs.Tests.{shape_rules, refusal_of}
use Rattle.shots.specs.Lines.{shape_lines}
use Rattle.shots.specs.Calls.{PatchRead, read_patch, patch_given}
use Rattle.shots.specs.declared.Handed.{Handed}
use Rattle.shots.specs.declared.refusal.Refusal.{Refusal}
use Rattle.shots.proofs.Promises.{shots_decided}
use Rattle.shots.proofs.HandedLaws.{handed_refuses, handed_gives, handed_coordinates, handed-refused, handed_kept, handed-front, patch_one}
use Rattle.intake.specs.Nearest.{Nearest, whole_of}
use Rattle.intake.specs.Scaling.{factors, survey_foot, international_foot, foot_of, scaled_of, answers_of, millimetres_of, at_origin, InMetres, AllInMetres}
use Rattle.intake.specs.Places.{PlacedAt, TakenAt, Edition, survey, international}
use Rattle.intake.specs.Tests.{far_off, finite_rule, range_rule, turn_rules, count_rule, intake_rules, edition_rule}
use Rattle.intake.specs.Runs.{shot_in, shots_in, runs_rule}
use Rattle.intake.specs.Lines.{NotFinite, OutOfRange, turn_lines, intake_lines, Unknown, edition_lines, FewOrMany, Unequal, take_lines, take_runs_lines}
use Rattle.intake.specs.Calls.{taken_by, taken_in, take_of, take_runs_of}
use Rattle.intake.specs.declared.Shot.{Shot}
use Rattle.intake.specs.declared.Shot.TheVariants.{Metres, Feet}
use Rattle.intake.specs.declared.Foot.{Foot}
use Rattle.intake.proofs.Nearness.{whole_nearest, whole-only}
use Rattle.intake.proofs.TurnLaws.{shot_fine, turns_at, millimetres-length, millimetres_at}
use Rattle.intake.proofs.CallChains.{count_few, shots_placed, edition_known}
use Rattle.intake.proofs.PlaceLaws.{edition-factors, placed_edition, metres_placed}

-- ---- the rules decide the lines

-- beyond the range, for every float: one that is not finite has no nearest whole number
pub range_decided : (x : Float) → Reflects (OutOfRange x) (far_off x)
unfolding far_off whole_of
range_decided nan = fails (λ (n, e, _). false≢true e.is_finite)
range_decided (inf true) = fails (λ (n, e, _). false≢true e.is_finite)
range_decided (inf false) = fails (λ (n, e, _). false≢true e.is_finite)
range_decided (fin s m e) = reflects_iff (into, out) (reflects_ltb farthest (nat_abs (whole_of (fin s m e))))
  where
    into : farthest < nat_abs (whole_of (fin s m e)) → OutOfRange (fin s m e)
    into h = (whole_of (fin s m e), whole_nearest (fin s m e) refl, h)

    out : OutOfRange (fin s m e) → farthest < nat_abs (whole_of (fin s m e))
    out (n, p, h) = subst (λ (z : ℤ). farthest < nat_abs z) (whole-only (fin s m e) n p) h

no_test : (b : Bool) → Reflects (b ≡ false) (not b)
no_test true = fails true≢false
no_test false = holds refl

pub finite_decided : (foot : Foot) (s : Shot) → Reflects (NotFinite foot s) (finite_rule foot s).broken
finite_decided foot s = reflects-any_of (λ x. finite x ≡ false) (λ x. not (finite x)) (answers_of foot s) (λ x m. no_test (finite x))

module _ (foot : Foot) where
  pub turns_decided : (l : List Shot) → Decides (turn_rules foot l) (turn_lines foot l)
  turns_decided [] = tt
  turns_decided (s ∷ l) =
      (refl, finite_decided foot s, (refl, reflects-or (range_decided (scaled_of foot s).east) (range_decided (scaled_of foot s).north), turns_decided l))

  pub rules_decided : (c : Type 0) (r : Rule) (l : List Shot) → r.number ≡ 1 → Reflects c r.broken → Decides (intake_rules foot r l) (intake_lines foot c l)
  rules_decided c r l e d =
      (e, d, decides-append (turn_rules foot l) (shape_rules (millimetres_of foot l)) (turn_lines foot l) (shape_lines (millimetres_of foot l)) (turns_decided l) (shots_decided (millimetres_of foot l)).2.2)

pub few_decided : (n : ℕ) → Reflects (FewOrMany n) (count_rule n).broken
few_decided n = reflects-or (reflects_ltb n shots_least) (reflects_ltb shots_most n)

pub equal_decided : (u : List ℕ) (v : List Float) → Reflects (FewOrMany (length u) ⊎ Unequal u v) (runs_rule u v).broken
equal_decided u v = reflects-or (few_decided (length u)) (reflects-not (reflects_eqb (length v) (2 * length u)))

pub edition_decided : (e : ℕ) → Reflects (Unknown e) (edition_rule e).broken
edition_decided e = reflects-not (reflects-or (reflects_eqb e 1) (reflects_eqb e 2))

pub lines_decided : (e : ℕ) (c : Type 0) (r : Rule) (l : List Shot) → r.number ≡ 1 → Reflects c r.broken → Decides (edition_rule e ∷ intake_rules (foot_of e) r l) (edition_lines e c l)
lines_decided e c r l p d = (refl, edition_decided e, rules_decided (foot_of e) c r l p d)

-- ---- what is handed out, for every pair of factors: n shots l, with a rule r that keeps their number in range

module _ (foot : Foot) (r : Rule) (l : List Shot) (n : ℕ) (many : length l ≡ n) (kept : r.broken ≡ false → (count_rule n).broken ≡ false) (m : ℕ) where
  abbrev out : PatchRead
  out = taken_by foot r l n

  module _ (e : out.answer ≡ gives m) where
    unbroken : Unbroken (intake_rules foot r l)
    unbroken = (handed_kept (intake_rules foot r l) n (millimetres_of foot l) m e).0

    parts : Unbroken (turn_rules foot l) × Unbroken (shape_rules (millimetres_of foot l))
    parts = append_unbroken (turn_rules foot l) (shape_rules (millimetres_of foot l)) unbroken.1

    same : n ≡ m
    same = (handed_kept (intake_rules foot r l) n (millimetres_of foot l) m e).1

    front : take (2 * m) out.coordinates ≡ millimetres_of foot l
    front =
        handed-front (intake_rules foot r l) n (millimetres_of foot l) (millimetres-length foot l ∙ ap (λ (k : ℕ). 2 * k) many)
        (count_few n (kept unbroken.0)) m e

    pub taken-accepted : refusal_of (take (2 * m) out.coordinates) ≡ 0
    taken-accepted = ap refusal_of front ∙ shots_placed foot l n (kept unbroken.0) parts.0 many ∙ unbroken-refusal (shape_rules (millimetres_of foot l)) parts.1

    -- the number at place j is the one in front
    at : (j : ℕ) → j < 2 * m → get_or out.coordinates j (pos 0) ≡ get_or (millimetres_of foot l) j (pos 0)
    at j h = sym (get_or-take (2 * m) out.coordinates j (pos 0) h) ∙ ap (λ (t : List ℤ). get_or t j (pos 0)) front

    pub taken_nearest : (i : ℕ) → i < m → PlacedAt foot (get_or l i at_origin) out.coordinates i
    unfolding x_of y_of
    taken_nearest i h =
        let b : i < length l = omega (arith, many, same, h) in
        let (p, q) = turns_at foot l parts.0 i b in
        let (f, g) = shot_fine foot (get_or l i at_origin) p q in
        let (x, y) = millimetres_at foot l i b in (
          subst (Nearest (scaled_of foot (get_or l i at_origin)).east) (sym (at (2 * i) (omega arith) ∙ x)) (whole_nearest (scaled_of foot (get_or l i at_origin)).east f.0),
          subst (Nearest (scaled_of foot (get_or l i at_origin)).north) (sym (at (2 * i + 1) (omega arith) ∙ y)) (whole_nearest (scaled_of foot (get_or l i at_origin)).north g.0),
        )

-- the same in an edition, where it is the foot's
module _ (e : ℕ) (r : Rule) (l : List Shot) (n : ℕ) (many : length l ≡ n) (kept : r.broken ≡ false → (count_rule n).broken ≡ false) (m : ℕ) (g : (taken_in e r l n).answer ≡ gives m) where
  by_foot : taken_by (foot_of e) r l n ≡ taken_in e r l n
  by_foot = edition_known e r l n (handed_kept (edition_rule e ∷ intake_rules (foot_of e) r l) n (millimetres_of (foot_of e) l) m g).0.0

  given : (taken_by (foot_of e) r l n).answer ≡ gives m
  given = ap (λ (p : PatchRead). p.answer) by_foot ∙ g

  edition-accepted : refusal_of (take (2 * m) (taken_in e r l n).coordinates) ≡ 0
  edition-accepted = ap (λ (p : PatchRead). refusal_of (take (2 * m) p.coordinates)) (sym by_foot) ∙ taken-accepted (foot_of e) r l n many kept m given

  edition_nearest : (i : ℕ) → i < m → {s : Shot} → get_or l i at_origin ≡ s → PlacedAt (foot_of e) s (taken_in e r l n).coordinates i
  edition_nearest i h q =
      subst (λ (s : Shot). PlacedAt (foot_of e) s (taken_in e r l n).coordinates i) q
      (subst (λ (p : PatchRead). PlacedAt (foot_of e) (get_or l i at_origin) p.coordinates i) by_foot (taken_nearest (foot_of e) r l n many kept m given i h))

-- by an edition's factors
pub edition_taken : {e t o : ℕ} → Edition e t o → (r : Rule) (l : List Shot) (n : ℕ) → taken_in e r l n ≡ taken_by (factors t o) r l n
edition_taken {e} d r l n = let (p, k, _) = edition-factors d in sym (edition_known e r l n k) ∙ ap (λ (foot : Foot). taken_by foot r l n) p

-- ---- metres, by two pairs of factors

module _ (foot foot' : Foot) where
  pub metres_scaled : (s : Shot) → InMetres s → scaled_of foot s ≡ scaled_of foot' s
  unfolding scaled_of
  metres_scaled (Metres e n) h = refl
  metres_scaled (Feet e n) h = absurd h

  metres_rules : (l : List Shot) → AllInMetres l → turn_rules foot l ≡ turn_rules foot' l
  unfolding scaled_of
  metres_rules [] h = refl
  metres_rules (Metres e n ∷ l) h = ap (λ (rs : List Rule). finite_rule foot (Metres e n) ∷ range_rule foot (Metres e n) ∷ rs) (metres_rules l h.1)
  metres_rules (Feet e n ∷ l) h = absurd h.0

  metres_places : (l : List Shot) → AllInMetres l → millimetres_of foot l ≡ millimetres_of foot' l
  metres_places [] h = refl
  metres_places (s ∷ l) h = let p = metres_scaled s h.0 in λ k. whole_of (p k).east ∷ whole_of (p k).north ∷ metres_places l h.1 k

  pub metres_taken : (r : Rule) (l : List Shot) (n : ℕ) → AllInMetres l → taken_by foot r l n ≡ taken_by foot' r l n
  metres_taken r l n h = λ k. patch_given (r ∷ (metres_rules l h k ++ shape_rules (metres_places l h k))) n (metres_places l h k)

metres_edition : (r : Rule) (l : List Shot) (n : ℕ) → AllInMetres l → taken_in 1 r l n ≡ taken_in 2 r l n
metres_edition r l n h = edition_taken survey r l n ∙ metres_taken survey_foot international_foot r l n h ∙ sym (edition_taken international r l n)

-- ---- take

module _ (e : ℕ) (l : List Shot) (n : ℕ) where
  abbrev rules : List Rule
  rules = edition_rule e ∷ intake_rules (foot_of e) (count_rule n) (take n l)

  abbrev places : List ℤ
  places = millimetres_of (foot_of e) (take n l)

  decided : Decides rules (take_lines e l n)
  decided = lines_decided e (FewOrMany n) (count_rule n) (take n l) refl (few_decided n)

  pub take_refuses : (k : ℕ) → ((take_of e l n).answer ≡ refuses k) ↔ First k (take_lines e l n)
  unfolding take_of
  take_refuses = handed_refuses rules n places (take_lines e l n) decided

  pub take_gives : (m : ℕ) → ((take_of e l n).answer ≡ gives m) ↔ (Clear (take_lines e l n) × (n ≡ m))
  unfolding take_of
  take_gives = handed_gives rules n places (take_lines e l n) decided

  pub take_coordinates : Clear (take_lines e l n) → (take_of e l n).coordinates ≡ wrote (replicate coordinates_most (pos 0)) 0 (millimetres_of (foot_of e) (take n l))
  unfolding take_of
  take_coordinates = handed_coordinates rules n places (take_lines e l n) decided

  pub take-refused : (k : ℕ) → First k (take_lines e l n) → (take_of e l n).coordinates ≡ replicate coordinates_most (pos 0)
  unfolding take_of
  take-refused = handed-refused rules n places (take_lines e l n) decided

  -- of an array of ten
  module _ (wide : length l ≡ shots_most) (m : ℕ) (g : (take_of e l n).answer ≡ gives m) where
    few : n ≤ shots_most
    unfolding take_of
    few = count_few n (handed_kept rules n places m g).0.1.0

    many : length (take n l) ≡ n
    many = omega (arith, length-take n l, wide, few)

    pub take-accepted : refusal_of (take (2 * m) (take_of e l n).coordinates) ≡ 0
    unfolding take_of
    take-accepted = edition-accepted e (count_rule n) (take n l) n many (λ h. h) m g

    pub take_nearest : (i : ℕ) → i < m → PlacedAt (foot_of e) (get_or l i at_origin) (take_of e l n).coordinates i
    unfolding take_of
    take_nearest i h = edition_nearest e (count_rule n) (take n l) n many (λ h. h) m g i h (get_or-take n l i at_origin (omega (arith, h, ((take_gives m).0 g).1)))

    pub take_edition : (t o : ℕ) → Edition e t o → (i : ℕ) → i < m → TakenAt t o (get_or l i at_origin) (take_of e l n).coordinates i
    take_edition t o d i h = placed_edition d (get_or l i at_origin) (take_of e l n).coordinates i (take_nearest i h)

module _ (l : List Shot) (n : ℕ) where
  pub take_metres : AllInMetres (take n l) → take_of 1 l n ≡ take_of 2 l n
  unfolding take_of
  take_metres = metres_edition (count_rule n) (take n l) n

  pub take_metres_at : length l ≡ shots_most → (m : ℕ) → (take_of 1 l n).answer ≡ gives m → (take_of 2 l n).answer ≡ gives m → (i : ℕ) → i < m → InMetres (get_or l i at_origin)
      → (x_of (take_of 1 l n).coordinates i ≡ x_of (take_of 2 l n).coordinates i) × (y_of (take_of 1 l n).coordinates i ≡ y_of (take_of 2 l n).coordinates i)
  take_metres_at wide m f g i h s =
      metres_placed 1200000 3937 3048 10 (get_or l i at_origin) s (take_of 1 l n).coordinates (take_of 2 l n).coordinates i (take_edition 1 l n wide m f 1200000 3937 survey i h) (take_edition 2 l n wide m g 3048 10 international i h)

-- ---- take_runs

module _ (u : List ℕ) (v : List Float) where
  runs_many : length (shots_in u v) ≡ length u
  unfolding shots_in
  runs_many = length-tabulate (shot_in u v) (length u)

  runs_kept : (runs_rule u v).broken ≡ false → (count_rule (length u)).broken ≡ false
  runs_kept h = (or_parts (count_rule (length u)).broken _ h).0

module _ (e : ℕ) (u : List ℕ) (v : List Float) where
  abbrev runs_rules : List Rule
  runs_rules = edition_rule e ∷ intake_rules (foot_of e) (runs_rule u v) (shots_in u v)

  abbrev runs_places : List ℤ
  runs_places = millimetres_of (foot_of e) (shots_in u v)

  runs_decided : Decides runs_rules (take_runs_lines e u v)
  runs_decided = lines_decided e (FewOrMany (length u) ⊎ Unequal u v) (runs_rule u v) (shots_in u v) refl (equal_decided u v)

  pub take_runs_refuses : (k : ℕ) → ((take_runs_of e u v).answer ≡ refuses k) ↔ First k (take_runs_lines e u v)
  unfolding take_runs_of
  take_runs_refuses = handed_refuses runs_rules (length u) runs_places (take_runs_lines e u v) runs_decided

  pub take_runs_gives : (m : ℕ) → ((take_runs_of e u v).answer ≡ gives m) ↔ (Clear (take_runs_lines e u v) × (length u ≡ m))
  unfolding take_runs_of
  take_runs_gives = handed_gives runs_rules (length u) runs_places (take_runs_lines e u v) runs_decided

  pub take_runs_coordinates : Clear (take_runs_lines e u v) → (take_runs_of e u v).coordinates ≡ wrote (replicate coordinates_most (pos 0)) 0 (millimetres_of (foot_of e) (shots_in u v))
  unfolding take_runs_of
  take_runs_coordinates = handed_coordinates runs_rules (length u) runs_places (take_runs_lines e u v) runs_decided

  pub take_runs_refused : (k : ℕ) → First k (take_runs_lines e u v) → (take_runs_of e u v).coordinates ≡ replicate coordinates_most (pos 0)
  unfolding take_runs_of
  take_runs_refused = handed-refused runs_rules (length u) runs_places (take_runs_lines e u v) runs_decided

  module _ (m : ℕ) (g : (take_runs_of e u v).answer ≡ gives m) where
    pub take_runs_accepted : refusal_of (take (2 * m) (take_runs_of e u v).coordinates) ≡ 0
    unfolding take_runs_of
    take_runs_accepted = edition-accepted e (runs_rule u v) (shots_in u v) (length u) (runs_many u v) (runs_kept u v) m g

    pub take_runs_nearest : (i : ℕ) → i < m → PlacedAt (foot_of e) (shot_in u v i) (take_runs_of e u v).coordinates i
    unfolding take_runs_of shots_in
    take_runs_nearest i h =
        edition_nearest e (runs_rule u v) (shots_in u v) (length u) (runs_many u v) (runs_kept u v) m g i h
        (get_d_tabulate (shot_in u v) (length u) i at_origin (omega (arith, h, ((take_runs_gives m).0 g).1)))

    pub take_runs_edition : (t o : ℕ) → Edition e t o → (i : ℕ) → i < m → TakenAt t o (shot_in u v i) (take_runs_of e u v).coordinates i
    take_runs_edition t o d i h = placed_edition d (shot_in u v i) (take_runs_of e u v).coordinates i (take_runs_nearest i h)

module _ (u : List ℕ) (v : List Float) where
  pub take_runs_metres : AllInMetres (shots_in u v) → take_runs_of 1 u v ≡ take_runs_of 2 u v
  unfolding take_runs_of
  take_runs_metres = metres_edition (runs_rule u v) (shots_in u v) (length u)

  pub take_runs_metres_at : (m : ℕ) → (take_runs_of 1 u v).answer ≡ gives m → (take_runs_of 2 u v).answer ≡ gives m → (i : ℕ) → i < m → InMetres (shot_in u v i)
      → (x_of (take_runs_of 1 u v).coordinates i ≡ x_of (take_runs_of 2 u v).coordinates i) × (y_of (take_runs_of 1 u v).coordinates i ≡ y_of (take_runs_of 2 u v).coordinates i)
  take_runs_metres_at m f g i h s =
      metres_placed 1200000 3937 3048 10 (shot_in u v i) s (take_runs_of 1 u v).coordinates (take_runs_of 2 u v).coordinates i (take_runs_edition 1 u v m f 1200000 3937 survey i h) (take_runs_edition 2 u v m g 3048 10 international i h)

-- ---- one answer

pub take_one : (e : ℕ) (l : List Shot) (n : ℕ) (r r' : Result Handed Refusal) → read_patch r ≡ take_of e l n → read_patch r' ≡ take_of e l n → r ≡ r'
take_one e l n r r' = patch_one

pub take_runs_one : (e : ℕ) (u : List ℕ) (v : List Float) (r r' : Result Handed Refusal) → read_patch r ≡ take_runs_of e u v → read_patch r' ≡ take_runs_of e u v → r ≡ r'
take_runs_one e u v r r' = patch_one
