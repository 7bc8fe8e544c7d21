-- What the public calls of this room promise.
--
--   circuit_decided                   the rules of `circuit` decide the lines of its table
--   count_refuses, circuit_refuses    a refusal number exactly when its line is the first that holds
--   count_gives, circuit_gives        the value exactly when no line holds
--   count_one, circuit_one            two permitted answers are the same
--   smallest_on_plus                  before each shot of a minus side comes one of the plus side: it holds the smallest number
--   sides_low                         the masks of a patch of n shots are below 2 ^ n
--   sides_signs                       the signs of circuit z are those of its two masks
--   circuit_agrees                    the two masks that `circuit` gives have the signs of a published circuit
--   number_signs                      the number of the circuit X is below C, and its circuit has the signs X, or all of them turned
--   number_published                  what has a number is a published circuit
--   circuit-given                     of an accepted patch, every published circuit, or the one with every sign turned, is given for exactly one number
--
-- How the numbered circuits are the published ones: proofs/Agreement. How many there can be: proofs/Bounds.
use Rattle.std.specs.Prelude.{◌≡◌, ℕ, ◌^◌, ◌<◌, ◌≤◌, ◌⊎◌, ◌↔◌, List, [], ◌∷◌, ◌++◌, length, ℤ}
use mathlib.Core.Path.{refl, sym, ◌∙◌, ap}
use mathlib.Core.Logic.{inl, inr, ⊎_elim}
use native.Mathlib.Omega.{arith}
use Rattle.algebra.specs.Answer.{gives, refuses, First, Clear, Decides}
use Rattle.algebra.specs.Sign.{minus, plus, opposite}
use Rattle.algebra.proofs.AnswerLaws.{chain_refuses, chain_gives, decides-append, clear-append, reflects_leb}
use Rattle.algebra.proofs.SignLaws.{opposite-opposite}
use Rattle.matroid.specs.Circuits.{SignVector, Circuit, Alike, against}
use Rattle.matroid.proofs.CircuitLaws.{circuit_alike, circuit-against}
use Rattle.shots.specs.Coordinates.{patch_of}
use Rattle.shots.specs.Patch.{count_of}
use Rattle.shots.specs.Tests.{shot_rules, refusal_of}
use Rattle.shots.specs.Lines.{shot_lines}
use Rattle.std.proofs.Common.{Result}
use Rattle.shots.specs.Refusals.{answered}
use Rattle.shots.specs.declared.refusal.Refusal.{Refusal}
use Rattle.shots.proofs.Promises.{shots_decided, shots_kept}
use Rattle.shots.proofs.RefusalLaws.{answered_one}
use Rattle.circuits.specs.Sides.{masks, mask_signs}
use Rattle.circuits.specs.Numbering.{circuits_of}
use Rattle.circuits.specs.Lines.{NotCircuit, circuit_lines}
use Rattle.circuits.specs.Calls.{circuit_at, signs_of, count_call_of, circuit_rule, circuit_call_of, GivenFor}
use Rattle.circuits.specs.declared.Sides.{Sides}
use Rattle.circuits.proofs.Sources.{made_at}
use Rattle.circuits.proofs.Signs.{minus_after_plus, masks_low, masks_signs}
use Rattle.circuits.proofs.Agreement.{circuit_published, published_numbered, numbered_once}

-- two that a third one is alike to, or against
alike-joined : {n : ℕ} {X Y Z : SignVector} → Alike n X Y ⊎ Alike n X (against Y) → Alike n X Z ⊎ Alike n X (against Z) → Alike n Y Z ⊎ Alike n Y (against Z)
alike-joined (inl a) (inl b) = inl (λ i k. sym (a i k) ∙ b i k)
alike-joined (inl a) (inr b) = inr (λ i k. sym (a i k) ∙ b i k)
alike-joined {Y = Y} (inr a) (inl b) = inr (λ i k. sym (opposite-opposite (Y i)) ∙ ap opposite (sym (a i k) ∙ b i k))
alike-joined {Y = Y} {Z = Z} (inr a) (inr b) = inl (λ i k. sym (opposite-opposite (Y i)) ∙ ap opposite (sym (a i k) ∙ b i k) ∙ opposite-opposite (Z i))

module _ (l : List ℤ) where
  -- ---- count

  pub count_refuses : (n : ℕ) → (count_call_of l ≡ refuses n) ↔ First n (shot_lines l)
  unfolding count_call_of
  count_refuses n = chain_refuses (shot_rules l) (shot_lines l) _ n (shots_decided l)

  pub count_gives : (v : ℕ) → (count_call_of l ≡ gives v) ↔ (Clear (shot_lines l) × (length (circuits_of l) ≡ v))
  unfolding count_call_of
  count_gives v = chain_gives (shot_rules l) (shot_lines l) _ v (shots_decided l)

  -- ---- circuit

  pub circuit_decided : (z : ℕ) → Decides (shot_rules l ++ circuit_rule l z ∷ []) (circuit_lines l z)
  circuit_decided z =
      decides-append (shot_rules l) (circuit_rule l z ∷ []) (shot_lines l) (record { number = 12; when = NotCircuit l z } ∷ []) (shots_decided l)
      (refl, reflects_leb (length (circuits_of l)) z, tt)

  pub circuit_refuses : (z n : ℕ) → (circuit_call_of l z ≡ refuses n) ↔ First n (circuit_lines l z)
  unfolding circuit_call_of
  circuit_refuses z n = chain_refuses _ (circuit_lines l z) _ n (circuit_decided z)

  pub circuit_gives : (z : ℕ) (v : Sides) → (circuit_call_of l z ≡ gives v) ↔ (Clear (circuit_lines l z) × (masks (circuit_at l z) ≡ v))
  unfolding circuit_call_of
  circuit_gives z v = chain_gives _ (circuit_lines l z) _ v (circuit_decided z)

  -- ---- one answer

  pub count_one : (r r' : Result ℕ Refusal) → answered r ≡ count_call_of l → answered r' ≡ count_call_of l → r ≡ r'
  count_one r r' = answered_one

  pub circuit_one : (z : ℕ) (r r' : Result Sides Refusal) → answered r ≡ circuit_call_of l z → answered r' ≡ circuit_call_of l z → r ≡ r'
  circuit_one z r r' = answered_one

  -- ---- the sides of a numbered circuit

  pub smallest_on_plus : (z : ℕ) → z < length (circuits_of l) → (i : ℕ) → signs_of l z i ≡ minus → (j : ℕ) × (j < i) × (signs_of l z j ≡ plus)
  smallest_on_plus z h i e = minus_after_plus (count_of l) (circuit_at l z) (made_at l z h) i e

  pub sides_low : (z : ℕ) → z < length (circuits_of l) → ((masks (circuit_at l z)).plus < 2 ^ count_of l) × ((masks (circuit_at l z)).minus < 2 ^ count_of l)
  sides_low z h = masks_low (count_of l) (circuit_at l z) (made_at l z h)

  pub sides_signs : (z : ℕ) → z < length (circuits_of l) → (i : ℕ) → signs_of l z i ≡ mask_signs (masks (circuit_at l z)) i
  sides_signs z h i = masks_signs (count_of l) (circuit_at l z) (made_at l z h) i

  -- ---- the published circuits

  given : (z : ℕ) (s : Sides) → circuit_call_of l z ≡ gives s → (refusal_of l ≡ 0) × (z < length (circuits_of l)) × (masks (circuit_at l z) ≡ s)
  given z s e =
      let (c, f) = (circuit_gives z s).0 e in
      let (d, (k, _)) = (clear-append (shot_lines l) (record { number = 12; when = NotCircuit l z } ∷ [])).0 c in
      ((shots_kept l).0 d, below k, f)
    where
      below : (length (circuits_of l) ≤ z → ⊥) → z < length (circuits_of l)
      below k = omega arith

  given_signs : (z : ℕ) (s : Sides) → circuit_call_of l z ≡ gives s → (i : ℕ) → signs_of l z i ≡ mask_signs s i
  given_signs z s e i = let (_, h, f) = given z s e in sides_signs z h i ∙ ap (λ (t : Sides). mask_signs t i) f

  pub circuit_agrees : (z : ℕ) (s : Sides) → circuit_call_of l z ≡ gives s → Circuit (count_of l) (patch_of l) (mask_signs s)
  circuit_agrees z s e = let (ok, h, _) = given z s e in circuit_alike (λ i _. given_signs z s e i) (circuit_published l ok z h)

  pub number_signs : (X : SignVector) (z : ℕ) → GivenFor l X z → (z < length (circuits_of l)) × (Alike (count_of l) X (signs_of l z) ⊎ Alike (count_of l) X (against (signs_of l z)))
  number_signs X z (s, e, a) = ((given z s e).1, go a)
    where
      go : Alike (count_of l) X (mask_signs s) ⊎ Alike (count_of l) X (against (mask_signs s)) → Alike (count_of l) X (signs_of l z) ⊎ Alike (count_of l) X (against (signs_of l z))
      go (inl a) = inl (λ i k. a i k ∙ sym (given_signs z s e i))
      go (inr a) = inr (λ i k. a i k ∙ ap opposite (sym (given_signs z s e i)))

  pub number_published : (X : SignVector) (z : ℕ) → GivenFor l X z → Circuit (count_of l) (patch_of l) X
  number_published X z (s, e, a) = ⊎_elim (λ b. circuit_alike (λ i k. sym (b i k)) (circuit_agrees z s e)) (λ b. circuit_alike (λ i k. sym (b i k)) (circuit-against (circuit_agrees z s e))) a

  pub circuit-given : Clear (shot_lines l) → (X : SignVector) → Circuit (count_of l) (patch_of l) X → (z : ℕ) × GivenFor l X z × ((z' : ℕ) → GivenFor l X z' → z' ≡ z)
  circuit-given c X x = go (published_numbered l ((shots_kept l).0 c) X x)
    where
      go : (z : ℕ) × (z < length (circuits_of l)) × (Alike (count_of l) X (signs_of l z) ⊎ Alike (count_of l) X (against (signs_of l z))) → (z : ℕ) × GivenFor l X z × ((z' : ℕ) → GivenFor l X z' → z' ≡ z)
      go (z, h, a) = (z, (masks (circuit_at l z), call, at a), λ z' d. let (h', b) = number_signs X z' d in numbered_once l z' z h' h (alike-joined b a))
        where
          late : length (circuits_of l) ≤ z → ⊥
          late k = omega arith

          call : circuit_call_of l z ≡ gives (masks (circuit_at l z))
          call = (circuit_gives z (masks (circuit_at l z))).1 ((clear-append (shot_lines l) (record { number = 12; when = NotCircuit l z } ∷ [])).1 (c, (late, tt)), refl)

          at : Alike (count_of l) X (signs_of l z) ⊎ Alike (count_of l) X (against (signs_of l z)) → Alike (count_of l) X (mask_signs (masks (circuit_at l z))) ⊎ Alike (count_of l) X (against (mask_signs (masks (circuit_at l z))))
          at (inl b) = inl (λ i k. b i k ∙ sides_signs z h i)
          at (inr b) = inr (λ i k. b i k ∙ ap opposite (sides_signs z h i))
