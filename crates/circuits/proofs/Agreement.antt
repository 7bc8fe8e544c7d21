-- The numbered circuits are the published ones. For an accepted patch with its shots as points:
--
--   circuit_published    each numbered circuit is a signed circuit: the signs of an affine dependency whose support holds no smaller one
--   published_numbered   each signed circuit, or the one with every sign turned, has a number
--   numbered_once        and one number only
--
-- The published side is matroid's `Circuit`, which knows no determinant. Source 001, section 2; document 01, "Circuits".
use Rattle.std.specs.Prelude.{◌≡◌, ℕ, ◌<◌, false, not, ◌⊎◌, List, [], ◌∷◌, length, ℤ, pos}
use mathlib.Core.Path.{refl, sym, ◌∙◌, ap, subst}
use mathlib.Core.Logic.{inl, inr, ⊎_elim}
use native.Mathlib.Omega.{arith}
use native.Mathlib.Decide.{dec_lt}
use Rattle.algebra.specs.Sign.{Sign, minus, nought, plus, sign_of, opposite, is_minus, is_nought, Pos, Neg, NZ}
use Rattle.algebra.proofs.SignLaws.{sign_of_pos, sign_of-neg, sign_of-zero, sign_of-opposite, opposite-opposite, opposite-signed}
use Rattle.algebra.proofs.AnswerLaws.{reflects_yes, reflects_no, reflects_false, reflects-nought}
use Rattle.algebra.proofs.SetLaws.{lex_same, picks_same}
use Rattle.algebra.proofs.ListLaws.{mem_get_d}
use Rattle.matroid.specs.Points.{Point, Points, turn, dot}
use Rattle.matroid.specs.Circuits.{SignVector, Circuit, Alike, against}
use Rattle.matroid.proofs.Turns.{dot_pos}
use Rattle.matroid.proofs.Planar.{weights3, weights4, Planar, e3, e4, weights3_off, weights3_a, weights3_b, weights3_c, weights4_off, weights4_a, weights4_b, weights4_c, weights4_d, planar_circuit, circuit_planar}
use Rattle.matroid.proofs.CircuitLaws.{circuit_alike, circuit-against}
use Rattle.matroid.proofs.Lines.{middle_of_three}
use Rattle.shots.specs.Coordinates.{point_of, patch_of, area_of}
use Rattle.shots.specs.Patch.{count_of, orient_of, between_of}
use Rattle.shots.specs.Tests.{refusal_of}
use Rattle.shots.proofs.Patch.{patch_distinct, patch_differ}
use Rattle.circuits.specs.Sides.{TwoSides, split, sign_in}
use Rattle.circuits.specs.Numbering.{end_sign, terms3, terms4, circuits_of, shots_in, Before}
use Rattle.circuits.specs.Calls.{circuit_at, signs_of}
use Rattle.circuits.proofs.SideLaws.{sign_on, relative, match_at}
use Rattle.circuits.proofs.StepLaws.{none_of}
use Rattle.circuits.proofs.Sources.{Three, Four, Source, from3, from4, OnLine, NoneOnLine, source_numbered, Made, made, source_at}
use Rattle.circuits.proofs.Signs.{sign-in, numbers_in_order}

-- two vectors with the same signs, or with every sign turned
abbrev Same : SignVector → SignVector → Type 0
Same X Y = ((i : ℕ) → X i ≡ Y i) ⊎ ((i : ℕ) → X i ≡ opposite (Y i))

turn_twice : (X Y : SignVector) → ((i : ℕ) → X i ≡ opposite (Y i)) → (i : ℕ) → opposite (X i) ≡ Y i
turn_twice X Y h i = ap opposite (h i) ∙ opposite-opposite (Y i)

-- no list of shots comes before itself
before_same : (s : List ℕ) → Before s s → ⊥
before_same s (inl h) = never h
  where
    never : length s < length s → ⊥
    never h = omega arith
before_same s (inr h) = lex_same s h.1

-- ---- a numbered circuit against the dependency of its shots

module _ (l : List ℤ) (ok : refusal_of l ≡ 0) where
  abbrev n : ℕ
  n = count_of l

  abbrev P : Points
  P = point_of l

  -- the signs among the terms, and against that of the first
  by_first : (z : TwoSides) (m : Made n z) (Y : SignVector) → Same (sign_on (m.first ∷ m.rest)) Y → Same (sign_in z) Y
  unfolding opposite
  by_first z m Y s = go m.first.sign (λ i. sign-in n z m i) s
    where
      go : (f : Sign) → ((i : ℕ) → sign_in z i ≡ relative f (sign_on (m.first ∷ m.rest) i)) → Same (sign_on (m.first ∷ m.rest)) Y → Same (sign_in z) Y
      go minus at (inl h) = inr (λ i. at i ∙ ap opposite (h i))
      go minus at (inr h) = inl (λ i. at i ∙ turn_twice (sign_on (m.first ∷ m.rest)) Y h i)
      go nought at (inl h) = inl (λ i. at i ∙ h i)
      go nought at (inr h) = inr (λ i. at i ∙ h i)
      go plus at (inl h) = inl (λ i. at i ∙ h i)
      go plus at (inr h) = inr (λ i. at i ∙ h i)

  -- ---- four shots

  module _ (q : Four n) where
    Y4 : SignVector
    Y4 i = sign_of (weights4 P q.a q.b q.c q.d i)

    four_same : (i : ℕ) → sign_on (terms4 l q.a q.b q.c q.d) i ≡ Y4 i
    unfolding Y4 orient_of area_of
    four_same i =
        match_at i (Y4 i) (terms4 l q.a q.b q.c q.d) (
          λ e. ap Y4 e ∙ ap sign_of (weights4_a P q.a q.b q.c q.d q.ab q.bc q.cd),
          (
            λ e. ap Y4 e ∙ ap sign_of (weights4_b P q.a q.b q.c q.d q.ab q.bc q.cd) ∙ sign_of-opposite (turn (P q.a) (P q.c) (P q.d)),
            (
              λ e. ap Y4 e ∙ ap sign_of (weights4_c P q.a q.b q.c q.d q.ab q.bc q.cd),
              (λ e. ap Y4 e ∙ ap sign_of (weights4_d P q.a q.b q.c q.d q.ab q.bc q.cd) ∙ sign_of-opposite (turn (P q.a) (P q.b) (P q.c)), tt),
            ),
          ),
        )
        (λ o. sign_of-zero _ (weights4_off P q.a q.b q.c q.d i o.0 o.1.0 o.1.1.0 o.1.1.1.0))

    bent_nz : (a b c : ℕ) → is_nought (orient_of l a b c) ≡ false → NZ (turn (P a) (P b) (P c))
    unfolding orient_of area_of
    bent_nz a b c h = reflects_no (reflects-nought (turn (P a) (P b) (P c))) h

    four_planar : NoneOnLine l q → Planar n P (weights4 P q.a q.b q.c q.d)
    four_planar h =
        let o = none_of (is_nought (orient_of l q.b q.c q.d)) (is_nought (orient_of l q.a q.c q.d)) (is_nought (orient_of l q.a q.b q.d)) (is_nought (orient_of l q.a q.b q.c)) h in
        e4 q.a q.b q.c q.d q.ab q.bc q.cd q.dn (bent_nz _ _ _ o.0) (bent_nz _ _ _ o.1) (bent_nz _ _ _ o.2) (bent_nz _ _ _ o.3)

  -- ---- three shots

  module _ (t : Three n) where
    abbrev A : Point
    A = P t.a

    abbrev B : Point
    B = P t.b

    abbrev C : Point
    C = P t.c

    flat-turn : OnLine l t → turn A B C ≡ pos 0
    unfolding orient_of area_of
    flat-turn h = reflects_yes (reflects-nought (turn A B C)) h

    three_planar : OnLine l t → Planar n P (weights3 P t.a t.b t.c)
    three_planar h = e3 t.a t.b t.c t.ab t.bc t.cn (flat-turn h)

    apart_ab : A ≡ B → ⊥
    apart_ab = patch_differ l ok t.a t.b (let p = t.ab in let q = t.bc in let r = t.cn in omega arith) (let q = t.bc in let r = t.cn in omega arith) (λ e. let p = t.ab in omega arith)

    apart_bc : B ≡ C → ⊥
    apart_bc = patch_differ l ok t.b t.c (let q = t.bc in let r = t.cn in omega arith) t.cn (λ e. let q = t.bc in omega arith)

    apart_ac : A ≡ C → ⊥
    apart_ac = patch_differ l ok t.a t.c (let p = t.ab in let q = t.bc in let r = t.cn in omega arith) t.cn (λ e. let p = t.ab in let q = t.bc in omega arith)

    Y3 : SignVector
    Y3 i = sign_of (weights3 P t.a t.b t.c i)

    at_a : Y3 t.a ≡ sign_of (dot C A B)
    unfolding Y3
    at_a = ap sign_of (weights3_a P t.a t.b t.c t.ab t.bc)

    at_b : Y3 t.b ≡ minus
    unfolding Y3 opposite
    at_b = ap sign_of (weights3_b P t.a t.b t.c t.ab t.bc) ∙ sign_of-opposite (dot A C C) ∙ ap opposite (sign_of_pos (dot A C C) (dot_pos A C (λ e. apart_ac (sym e))))

    at_c : Y3 t.c ≡ sign_of (dot A B C)
    unfolding Y3
    at_c = ap sign_of (weights3_c P t.a t.b t.c t.ab t.bc)

    off : (i : ℕ) → (i ≡ t.a → ⊥) → (i ≡ t.b → ⊥) → (i ≡ t.c → ⊥) → Y3 i ≡ nought
    unfolding Y3
    off i f g h = sign_of-zero _ (weights3_off P t.a t.b t.c i f g h)

    -- the sign of a shot among the three: an end or the middle one, by the sign of its product
    end-sign : (m p q : ℕ) {s : Sign} → sign_of (dot (P m) (P p) (P q)) ≡ s → end_sign (between_of l m p q) ≡ end_sign (is_minus s)
    unfolding between_of
    end-sign m p q e = ap (λ (x : Sign). end_sign (is_minus x)) e

    three_same : OnLine l t → Same (sign_on (terms3 l t.a t.b t.c)) Y3
    unfolding opposite
    three_same h = go (middle_of_three A B C (flat-turn h) apart_ab apart_bc apart_ac)
      where
        turned : (x y z : Sign) → sign_of (dot A B C) ≡ x → sign_of (dot B A C) ≡ y → sign_of (dot C A B) ≡ z → end_sign (is_minus x) ≡ opposite z → end_sign (is_minus y) ≡ plus → end_sign (is_minus z) ≡ opposite x → (i : ℕ) → sign_on (terms3 l t.a t.b t.c) i ≡ opposite (Y3 i)
        turned x y z dx dy dz u v w i =
            match_at i (opposite (Y3 i)) (terms3 l t.a t.b t.c) (
              λ e. ap opposite (ap Y3 e ∙ at_a ∙ dz) ∙ sym u ∙ sym (end-sign t.a t.b t.c dx),
              (
                λ e. ap opposite (ap Y3 e ∙ at_b) ∙ sym v ∙ sym (end-sign t.b t.a t.c dy),
                (λ e. ap opposite (ap Y3 e ∙ at_c ∙ dx) ∙ sym w ∙ sym (end-sign t.c t.a t.b dz), tt),
              ),
            )
            (λ o. ap opposite (off i o.0 o.1.0 o.1.1.0))

        kept : sign_of (dot A B C) ≡ plus → sign_of (dot B A C) ≡ minus → sign_of (dot C A B) ≡ plus → (i : ℕ) → sign_on (terms3 l t.a t.b t.c) i ≡ Y3 i
        kept dx dy dz i =
            match_at i (Y3 i) (terms3 l t.a t.b t.c) (
              λ e. ap Y3 e ∙ at_a ∙ dz ∙ sym (end-sign t.a t.b t.c dx),
              (
                λ e. ap Y3 e ∙ at_b ∙ sym (end-sign t.b t.a t.c dy),
                (λ e. ap Y3 e ∙ at_c ∙ dx ∙ sym (end-sign t.c t.a t.b dz), tt),
              ),
            )
            (λ o. off i o.0 o.1.0 o.1.1.0)

        go : (Neg (dot A B C) × Pos (dot B A C) × Pos (dot C A B)) ⊎ ((Pos (dot A B C) × Neg (dot B A C) × Pos (dot C A B)) ⊎ (Pos (dot A B C) × Pos (dot B A C) × Neg (dot C A B)))
            → Same (sign_on (terms3 l t.a t.b t.c)) Y3
        go (inl r) = inr (turned minus plus plus (sign_of-neg _ r.0) (sign_of_pos _ r.1) (sign_of_pos _ r.2) refl refl refl)
        go (inr (inl r)) = inl (kept (sign_of_pos _ r.0) (sign_of-neg _ r.1) (sign_of_pos _ r.2))
        go (inr (inr r)) = inr (turned plus plus minus (sign_of_pos _ r.0) (sign_of_pos _ r.1) (sign_of-neg _ r.2) refl refl refl)

  -- ---- the two sides meet

  -- a circuit and a dependency of the same shots
  record Meets (z : TwoSides) (f : ℕ → ℤ) : Type 0 where
    pub kind : Planar n P f
    pub same : Same (sign_in z) (λ i. sign_of (f i))

  meets3 : (t : Three n) (h : OnLine l t) → Meets (split (terms3 l t.a t.b t.c)) (weights3 P t.a t.b t.c)
  unfolding made Y3
  meets3 t h = record { kind = three_planar t h; same = by_first _ (made l (from3 t h)) (Y3 t) (three_same t h) }

  meets4 : (q : Four n) (h : NoneOnLine l q) → Meets (split (terms4 l q.a q.b q.c q.d)) (weights4 P q.a q.b q.c q.d)
  unfolding made Y4
  meets4 q h = record { kind = four_planar q h; same = by_first _ (made l (from4 q h)) (Y4 q) (inl (four_same q)) }

  dependency_of : {z : TwoSides} → Source l z → (f : ℕ → ℤ) × Meets z f
  dependency_of (from3 t h) = (weights3 P t.a t.b t.c, meets3 t h)
  dependency_of (from4 q h) = (weights4 P q.a q.b q.c q.d, meets4 q h)

  nz_bent : (a b c : ℕ) → NZ (turn (P a) (P b) (P c)) → is_nought (orient_of l a b c) ≡ false
  unfolding orient_of area_of
  nz_bent a b c h = reflects_false (reflects-nought (turn (P a) (P b) (P c))) h

  circuit_of : {f : ℕ → ℤ} → Planar n P f → (z : TwoSides) × Source l z × Meets z f
  unfolding orient_of area_of
  circuit_of (e3 a b c ab bc cn e) =
      let t : Three n = record { a = a; b = b; c = c; ab = ab; bc = bc; cn = cn } in
      let h : OnLine l t = ap is_nought (sign_of-zero _ e) in
      (split (terms3 l a b c), from3 t h, meets3 t h)
  circuit_of (e4 a b c d ab bc cd dn g₁ g₂ g₃ g₄) =
      let q : Four n = record { a = a; b = b; c = c; d = d; ab = ab; bc = bc; cd = cd; dn = dn } in
      let h : NoneOnLine l q = rw (nz_bent b c d g₁, nz_bent a c d g₂, nz_bent a b d g₃, nz_bent a b c g₄) refl in
      (split (terms4 l a b c d), from4 q h, meets4 q h)

  -- ---- the theorems

  pub circuit_published : (z : ℕ) → z < length (circuits_of l) → Circuit n (patch_of l) (signs_of l z)
  circuit_published z h = go (dependency_of (source_at l z h))
    where
      go : (f : ℕ → ℤ) × Meets (circuit_at l z) f → Circuit n (patch_of l) (signs_of l z)
      go r = ⊎_elim (λ s. circuit_alike (λ i k. sym (s i)) c) (λ s. circuit_alike (λ i k. sym (s i)) (circuit-against c)) r.1.same
        where
          c : Circuit n (patch_of l) (λ i. sign_of (r.0 i))
          c = planar_circuit n P (patch_distinct l ok) r.0 r.1.kind

  pub published_numbered : (X : SignVector) → Circuit n (patch_of l) X → (z : ℕ) × (z < length (circuits_of l)) × (Alike n X (signs_of l z) ⊎ Alike n X (against (signs_of l z)))
  published_numbered X c = found (circuit_planar n P (patch_distinct l ok) X c)
    where
      joined : (f : ℕ → ℤ) (y : TwoSides) → Same (sign_in y) (λ i. sign_of (f i)) → Alike n X (λ i. sign_of (f i)) ⊎ Alike n X (against (λ i. sign_of (f i))) → Alike n X (sign_in y) ⊎ Alike n X (against (sign_in y))
      joined f y (inl s) (inl x) = inl (λ i k. x i k ∙ sym (s i))
      joined f y (inl s) (inr x) = inr (λ i k. x i k ∙ ap opposite (sym (s i)))
      joined f y (inr s) (inl x) = inr (λ i k. x i k ∙ sym (turn_twice (sign_in y) (λ j. sign_of (f j)) s i))
      joined f y (inr s) (inr x) = inl (λ i k. x i k ∙ sym (s i))

      found : (f : ℕ → ℤ) × Planar n P f × (Alike n X (λ i. sign_of (f i)) ⊎ Alike n X (against (λ i. sign_of (f i)))) → (z : ℕ) × (z < length (circuits_of l)) × (Alike n X (signs_of l z) ⊎ Alike n X (against (signs_of l z)))
      found r =
          let y = circuit_of r.1 in
          let k = mem_get_d (circuits_of l) (record { plus = []; minus = [] }) (source_numbered l y.1) in
          (k.0, k.1, joined r.0 (circuit_at l k.0) (subst (λ (w : TwoSides). Same (sign_in w) (λ i. sign_of (r.0 i))) (sym k.2) y.2.same) r.2)

-- two numbers whose circuits have the same signs, or signs that are all turned, have the same shots, so they are one
pub numbered_once : (l : List ℤ) (z z' : ℕ) → z < length (circuits_of l) → z' < length (circuits_of l)
    → Alike (count_of l) (signs_of l z) (signs_of l z') ⊎ Alike (count_of l) (signs_of l z) (against (signs_of l z')) → z ≡ z'
unfolding shots_in
numbered_once l z z' h h' a = go (dec_lt z z') (dec_lt z' z)
  where
    shots_same : shots_in (count_of l) (circuit_at l z) ≡ shots_in (count_of l) (circuit_at l z')
    shots_same = picks_same (λ i. not (is_nought (signs_of l z i))) (λ i. not (is_nought (signs_of l z' i))) (count_of l)
        (λ i k. ap not (⊎_elim (λ x. ap is_nought (x i k)) (λ x. ap is_nought (x i k) ∙ opposite-signed (signs_of l z' i)) a))

    never : (s t : List ℕ) → s ≡ t → Before s t → ⊥
    never s t e b = before_same t (subst (λ (x : List ℕ). Before x t) e b)

    go : Dec (z < z') → Dec (z' < z) → z ≡ z'
    go (yes k) d = absurd (never _ _ shots_same (numbers_in_order l (record { plus = []; minus = [] }) z z' k h'))
    go (no k) (yes j) = absurd (never _ _ (sym shots_same) (numbers_in_order l (record { plus = []; minus = [] }) z' z j h))
    go (no k) (no j) = omega arith
