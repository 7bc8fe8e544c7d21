-- What the public calls of this room promise.
--
--   flip_refuses, placing_refuses    a refusal number exactly when its line is the first that holds
--   flip_gives, placing_gives        the list exactly when no line holds
--   flipped-accepted                 where an accepted list supports a side of a circuit, its flip is accepted: a triangulation of the patch, with nothing past the last rank
--   flip-accepted, placing-accepted  so is every list given, and no test is needed
--   flip_published                   a flip is given exactly where the list is accepted and has a published flip, and it is that flip
--   flip-along                       the same along any published circuit of the patch, at its number, whichever side is called plus
--   flip-any                         from an accepted list, some number gives a list exactly where a published flip along some published circuit leads to it, with nothing past the last rank
--   not_both_sides                   an accepted list supports the pieces of at most one side
--   put_in_new_here                  what a flip puts in was not in the list
--   flip_words, placing_words        the list given has as many words
--   flip_back_again                  the flip along the same circuit leads back
--   surface_one              what is read as one answer is one
--   flip_one, placing_one    two permitted answers are the same
--
-- That the pieces, links and stars are the published ones: proofs/Agreement. Source: document 01, "Flips", "The placing surface".
use Rattle.std.specs.Prelude.{◌≡◌, ℕ, ◌*◌, ◌<◌, ◌≤◌, Bool, true, false, cond, not, ◌||◌, ◌⊎◌, ◌↔◌, List, [], ◌∷◌, ◌++◌, length, ℤ}
use mathlib.Core.Path.{refl, sym, ◌∙◌, subst}
use mathlib.Core.Logic.{inl, inr, ⊎_elim}
use mathlib.Core.Bool.{false≢true}
use native.Mathlib.Omega.{arith}
use native.Mathlib.Decide.{dec_lt}
use lib.ListN.{get_or-eq_default}
use Rattle.algebra.specs.Answer.{Answer, gives, refuses, Line, First, Clear, Reflects, holds, fails, Decides}
use Rattle.algebra.specs.Loops.{any_of}
use Rattle.algebra.specs.Sets.{is_on}
use Rattle.algebra.specs.Sign.{Sign, minus, nought, plus, opposite, Side}
use Rattle.algebra.specs.Words.{word_bits, Words, member}
use Rattle.algebra.proofs.AnswerLaws.{chain_refuses, chain_gives, chain_refuses_upon, chain_gives_upon, decides-append, clear-append}
use Rattle.algebra.proofs.AnswerLaws.{reflects_yes, reflects_true, reflects_false, reflects_iff, reflects-not, reflects-or, reflects_leb}
use Rattle.algebra.proofs.SignLaws.{plus-nought, minus-nought, opposite-opposite, other-side, nought-side}
use Rattle.algebra.proofs.WordLaws.{member_past}
use Rattle.matroid.specs.Circuits.{SignVector, Circuit, Alike, against}
use Rattle.matroid.specs.Triangulations.{Family}
use Rattle.matroid.specs.Flips.{Supports, Flip, Flipped}
use Rattle.matroid.proofs.FlipLaws.{not_both, put_in_new, flip_back, flipped_alike, flipped-against}
use Rattle.matroid.proofs.FlipTriangulates.{flip_triangulates}
use Rattle.shots.specs.Coordinates.{patch_of}
use Rattle.shots.specs.Patch.{count_of}
use Rattle.shots.specs.Tests.{shot_rules, refusal_of}
use Rattle.shots.specs.Lines.{shot_lines}
use Rattle.shots.proofs.Patch.{patch_few, patch_distinct}
use Rattle.shots.proofs.Promises.{shots_decided, shots_kept}
use Rattle.circuits.specs.Sides.{TwoSides, sign_in}
use Rattle.circuits.specs.Numbering.{circuits_of}
use Rattle.circuits.specs.Lines.{NotCircuit}
use Rattle.circuits.specs.Calls.{circuit_at, signs_of, GivenFor}
use Rattle.circuits.proofs.Agreement.{circuit_published}
use Rattle.circuits.proofs.Promises.{number_signs, circuit-given}
use Rattle.triples.specs.Sizes.{word_count}
use Rattle.triples.specs.Ranks.{triple_count, triple_at}
use Rattle.lists.specs.Tests.{list_rules}
use Rattle.lists.specs.Lines.{Listed, PastLast, list_lines, Accepted}
use Rattle.triples.proofs.RankLaws.{triples_few}
use Rattle.lists.proofs.Agreement.{listed_at, list_decided, accepted_iff_triangulation}
use Rattle.surfaces.specs.Flips.{pieces_of, some_link, supports, joins, exchanged, flipped_of}
use Rattle.surfaces.specs.Placing.{placed_of}
use Rattle.surfaces.specs.Lines.{NoFlip, flip_lines}
use Rattle.std.proofs.Common.{Result}
use Rattle.shots.specs.Refusals.{answer_of}
use Rattle.shots.specs.declared.refusal.Refusal.{Refusal}
use Rattle.shots.proofs.RefusalLaws.{answer_one}
use Rattle.triples.specs.Sets.{words_of}
use Rattle.triples.specs.declared.Triples.{Triples}
use Rattle.surfaces.specs.Calls.{placing_of, no_flip, flip_rules, flip_of}
use Rattle.surfaces.proofs.Agreement.{side_of, swapped, numbered, supports_published, star_published, star_dec}
use Rattle.surfaces.proofs.Agreement.{flip_published_side, exchanged_words, exchanged_past, one_flip}
use Rattle.surfaces.proofs.PlacedWords.{placed_words}
use Rattle.surfaces.proofs.PlacedAccepted.{placed-accepted}

-- ---- the rules decide the lines

-- a circuit without shots has no pieces
none_supported : (n : ℕ) (w : List ℕ) (x : TwoSides) → x ≡ record { plus = []; minus = [] }
    → Reflects ((Supports n (Listed n w) (sign_in x) plus → ⊥) × (Supports n (Listed n w) (sign_in x) minus → ⊥)) (not (supports n w (pieces_of n x x.plus) || supports n w (pieces_of n x x.minus)))
unfolding supports some_link any_of pieces_of sign_in is_on
none_supported n w x e = subst Q (sym e) (holds (λ h. plus-nought (sym h.some.2.2), λ h. minus-nought (sym h.some.2.2)))
  where
    Q : TwoSides → Type 0
    Q x = Reflects ((Supports n (Listed n w) (sign_in x) plus → ⊥) × (Supports n (Listed n w) (sign_in x) minus → ⊥)) (not (supports n w (pieces_of n x x.plus) || supports n w (pieces_of n x x.minus)))

no_flip_decided : (l : List ℤ) (w : List ℕ) (z : ℕ) → Reflects (NoFlip l w z) (no_flip l w (circuit_at l z)).broken
no_flip_decided l w z = go (dec_lt z (length (circuits_of l)))
  where
    go : Dec (z < length (circuits_of l)) → Reflects (NoFlip l w z) (no_flip l w (circuit_at l z)).broken
    go (yes h) =
        reflects_iff (λ k. (λ x. k (inl x), λ x. k (inr x)), λ k x. ⊎_elim k.0 k.1 x)
        (reflects-not (reflects-or (supports_published (numbered l z h) w plus (inl refl)) (supports_published (numbered l z h) w minus (inr refl))))
    go (no h) = none_supported (count_of l) w (circuit_at l z) (get_or-eq_default (circuits_of l) (record { plus = []; minus = [] }) {n = z} (omega arith))

module _ (l : List ℤ) (w : List ℕ) (z : ℕ) where
  -- the lines behind those of the list
  abbrev own_lines : List Line
  own_lines = record { number = 12; when = NotCircuit l z } ∷ record { number = 13; when = NoFlip l w z } ∷ []

  flip_decided : Clear (shot_lines l) → Decides (list_rules l w ++ flip_rules l w z) (list_lines l w ++ own_lines)
  flip_decided h =
      decides-append (list_rules l w) (flip_rules l w z) (list_lines l w) own_lines (list_decided l w ((shots_kept l).0 h)) (refl, reflects_leb (length (circuits_of l)) z, (refl, no_flip_decided l w z, tt))

  pub flip_refuses : (n : ℕ) → (flip_of l w z ≡ refuses n) ↔ First n (flip_lines l w z)
  unfolding flip_of
  flip_refuses n = chain_refuses_upon (shot_rules l) (list_rules l w ++ flip_rules l w z) (shot_lines l) (list_lines l w ++ own_lines) _ n (shots_decided l) flip_decided

  pub flip_gives : (w' : List ℕ) → (flip_of l w z ≡ gives w') ↔ (Clear (flip_lines l w z) × (flipped_of (count_of l) w (circuit_at l z) ≡ w'))
  unfolding flip_of
  flip_gives w' = chain_gives_upon (shot_rules l) (list_rules l w ++ flip_rules l w z) (shot_lines l) (list_lines l w ++ own_lines) _ w' (shots_decided l) flip_decided

  -- the lines of a flip, apart
  flip_clear : Clear (flip_lines l w z) ↔ (Clear (shot_lines l) × Clear (list_lines l w) × Clear own_lines)
  flip_clear = (
    λ c. let (a, b) = (clear-append (shot_lines l) (list_lines l w ++ own_lines)).0 c in let (d, e) = (clear-append (list_lines l w) own_lines).0 b in (a, d, e),
    λ (a, d, e). (clear-append (shot_lines l) (list_lines l w ++ own_lines)).1 (a, (clear-append (list_lines l w) own_lines).1 (d, e)),
  )

module _ (l : List ℤ) where
  pub placing_refuses : (n : ℕ) → (placing_of l ≡ refuses n) ↔ First n (shot_lines l)
  unfolding placing_of
  placing_refuses n = chain_refuses (shot_rules l) (shot_lines l) (placed_of l) n (shots_decided l)

  pub placing_gives : (w : List ℕ) → (placing_of l ≡ gives w) ↔ (Clear (shot_lines l) × (placed_of l ≡ w))
  unfolding placing_of
  placing_gives w = chain_gives (shot_rules l) (shot_lines l) (placed_of l) w (shots_decided l)

  pub placing-accepted : (w : List ℕ) → placing_of l ≡ gives w → Accepted l w
  placing-accepted w e = let (c, f) = (placing_gives w).0 e in subst (Accepted l) f (placed-accepted l ((shots_kept l).0 c))

  pub placing_words : (w : List ℕ) → placing_of l ≡ gives w → Words word_count w
  placing_words w e = subst (Words word_count) ((placing_gives w).0 e).1 (placed_words l)

-- ---- the published flip

-- what each of the two exchanges has
flipped_either : (Q : List ℕ → Type 0) (n : ℕ) (w : List ℕ) (x : TwoSides) → ((ps qs : List (List ℕ)) → Q (exchanged n w ps qs)) → Q (flipped_of n w x)
unfolding flipped_of
flipped_either Q n w x h = go (supports n w (pieces_of n x x.plus))
  where
    go : (b : Bool) → Q (cond b (exchanged n w (pieces_of n x x.plus) (pieces_of n x x.minus)) (exchanged n w (pieces_of n x x.minus) (pieces_of n x x.plus)))
    go true = h (pieces_of n x x.plus) (pieces_of n x x.minus)
    go false = h (pieces_of n x x.minus) (pieces_of n x x.plus)

module _ (l : List ℤ) where
  abbrev n : ℕ
  n = count_of l

  flipped_words : (w : List ℕ) (z : ℕ) → length w ≡ word_count → Words word_count (flipped_of n w (circuit_at l z))
  flipped_words w z size = flipped_either (Words word_count) n w (circuit_at l z) (λ ps qs. exchanged_words n word_count w ps qs size)

  none_past : (w : List ℕ) → (PastLast l w → ⊥) → (r : ℕ) → triple_count n ≤ r → member w r ≡ false
  none_past w k r h = go (dec_lt r (word_bits * length w)) (member w r) refl
    where
      go : Dec (r < word_bits * length w) → (b : Bool) → member w r ≡ b → member w r ≡ false
      go (yes m) true e = absurd (k (r, m, h, e))
      go (no m) true e = member_past w r (omega arith)
      go d false e = e

  module _ (ok : refusal_of l ≡ 0) (w : List ℕ) (a : Accepted l w) (z : ℕ) (h : z < length (circuits_of l)) where
    supported : (s : Sign) → Side s → Reflects (Supports n (Listed n w) (signs_of l z) s) (supports n w (pieces_of n (circuit_at l z) (side_of (circuit_at l z) s)))
    supported = supports_published (numbered l z h) w

    pub not_both_sides : supports n w (pieces_of n (circuit_at l z) (circuit_at l z).plus) ≡ true → supports n w (pieces_of n (circuit_at l z) (circuit_at l z).minus) ≡ true → ⊥
    not_both_sides p q = not_both a.1 (circuit_published l ok z h) (reflects_yes (supported plus (inl refl)) p) (reflects_yes (supported minus (inr refl)) q)

    pub put_in_new_here : (s : Sign) → Side s → (r : ℕ) → r < triple_count n
        → joins n w (pieces_of n (circuit_at l z) (side_of (circuit_at l z) s)) (pieces_of n (circuit_at l z) (side_of (circuit_at l z) (opposite s))) r ≡ true → member w r ≡ false
    put_in_new_here s d r m e = go (member w r) refl
      where
        go : (b : Bool) → member w r ≡ b → b ≡ false
        go true f = absurd (put_in_new a.1 (circuit_published l ok z h) d (triple_at n r) (reflects_yes (star_published (numbered l z h) w s (opposite s) d (other-side s d) r m) e) ((listed_at n w r m).1 f))
        go false f = refl

    -- the side that is supported is the one exchanged
    flipped-side : (s : Sign) → Side s → Supports n (Listed n w) (signs_of l z) s → flipped_of n w (circuit_at l z) ≡ swapped n w (circuit_at l z) s
    unfolding flipped_of opposite
    flipped-side minus d k = rw (reflects_false (supported plus (inl refl)) (λ p. not_both a.1 (circuit_published l ok z h) p k)) refl
    flipped-side nought d k = absurd (nought-side d)
    flipped-side plus d k = rw (reflects_true (supported plus (inl refl)) k) refl

    module _ (size : length w ≡ word_count) where
      -- every rank has its bit
      fits : triple_count n ≤ word_bits * length w
      fits = let h = triples_few n (patch_few l ok).1 in omega arith

      side_flipped : (s : Sign) → Side s → Supports n (Listed n w) (signs_of l z) s → Flip n (Listed n w) (signs_of l z) s (Listed n (flipped_of n w (circuit_at l z)))
      side_flipped s d k = rw (flipped-side s d k) (flip_published_side (numbered l z h) w s d fits k)

      some_flipped : (NoFlip l w z → ⊥) → Flipped n (Listed n w) (signs_of l z) (Listed n (flipped_of n w (circuit_at l z)))
      some_flipped k = go (supported plus (inl refl)) (supported minus (inr refl))
        where
          go : {b c : Bool} → Reflects (Supports n (Listed n w) (signs_of l z) plus) b → Reflects (Supports n (Listed n w) (signs_of l z) minus) c
              → Flipped n (Listed n w) (signs_of l z) (Listed n (flipped_of n w (circuit_at l z)))
          go (holds p) q = inl (side_flipped plus (inl refl) p)
          go (fails p) (holds q) = inr (side_flipped minus (inr refl) q)
          go (fails p) (fails q) = absurd (k (p, q))

      flipped_past : (r : ℕ) → triple_count n ≤ r → member (flipped_of n w (circuit_at l z)) r ≡ false
      flipped_past r m = flipped_either (λ u. member u r ≡ false) n w (circuit_at l z) (λ ps qs. exchanged_past n word_count w ps qs size r m (none_past w a.0 r m))

      pub flipped-accepted : (NoFlip l w z → ⊥) → Accepted l (flipped_of n w (circuit_at l z))
      flipped-accepted k = (
        λ (r, _, m, e). false≢true (sym (flipped_past r m) ∙ e),
        flip_triangulates (patch_distinct l ok) a.1 (circuit_published l ok z h) (some_flipped k),
      )

      flipped_is : (s : Sign) → Side s → (w' : List ℕ) → Words word_count w' → (PastLast l w' → ⊥) → Flip n (Listed n w) (signs_of l z) s (Listed n w') → flipped_of n w (circuit_at l z) ≡ w'
      flipped_is s d w' v' k f =
          one_flip n word_count (flipped_of n w (circuit_at l z)) w' (flipped_words w z size) v'
          flipped_past (none_past w' k) (side_flipped s d f.supported) f

  module _ (w w' : List ℕ) (z : ℕ) where
    below : (length (circuits_of l) ≤ z → ⊥) → z < length (circuits_of l)
    below k = omega arith

    pub flip-accepted : length w ≡ word_count → flip_of l w z ≡ gives w' → Accepted l w'
    flip-accepted size e =
        let (c, f) = (flip_gives l w z w').0 e in
        let (c₁, c₂, (x, (y, _))) = (flip_clear l w z).0 c in
        subst (Accepted l) f (flipped-accepted ((shots_kept l).0 c₁) w ((accepted_iff_triangulation l w).0 c₂) z (below x) size y)

    pub flip_words : length w ≡ word_count → flip_of l w z ≡ gives w' → Words word_count w'
    flip_words size e = subst (Words word_count) ((flip_gives l w z w').0 e).1 (flipped_words w z size)

    -- an accepted list, a circuit of the patch, and the list of the published flip
    abbrev Leads : Type 0
    Leads = Clear (shot_lines l) × Accepted l w × (z < length (circuits_of l)) × Flipped n (Listed n w) (signs_of l z) (Listed n w') × (PastLast l w' → ⊥)

    pub flip_published : Words word_count w → Words word_count w'
        → (flip_of l w z ≡ gives w') ↔ (Clear (shot_lines l) × Accepted l w × (z < length (circuits_of l)) × Flipped n (Listed n w) (signs_of l z) (Listed n w') × (PastLast l w' → ⊥))
    flip_published v v' = (into, out)
      where
        into : flip_of l w z ≡ gives w' → Leads
        into e =
            let (c, f) = (flip_gives l w z w').0 e in
            let (c₁, c₂, (x, (y, _))) = (flip_clear l w z).0 c in
            let a : Accepted l w = (accepted_iff_triangulation l w).0 c₂ in
            let flipped = some_flipped ((shots_kept l).0 c₁) w a z (below x) v.0 y in
            (c₁, a, below x, subst (λ (u : List ℕ). Flipped n (Listed n w) (signs_of l z) (Listed n u)) f flipped, (flip-accepted v.0 e).0)

        out : Leads → flip_of l w z ≡ gives w'
        out (c, a, h, f, k) = (flip_gives l w z w').1 ((flip_clear l w z).1 (c, (accepted_iff_triangulation l w).1 a, (late, (supported_one f, tt))), is f)
          where
            late : length (circuits_of l) ≤ z → ⊥
            late m = omega arith

            supported_one : Flipped n (Listed n w) (signs_of l z) (Listed n w') → NoFlip l w z → ⊥
            supported_one (inl g) m = m.0 g.supported
            supported_one (inr g) m = m.1 g.supported

            is : Flipped n (Listed n w) (signs_of l z) (Listed n w') → flipped_of n w (circuit_at l z) ≡ w'
            is (inl g) = flipped_is ((shots_kept l).0 c) w a z h v.0 plus (inl refl) w' v' k g
            is (inr g) = flipped_is ((shots_kept l).0 c) w a z h v.0 minus (inr refl) w' v' k g

  -- ---- along any published circuit

  -- a flip goes by the signs, whichever side is called plus
  flipped_signs : {T T' : Family} (X Y : SignVector) → Alike n X Y ⊎ Alike n X (against Y) → Flipped n T X T' ↔ Flipped n T Y T'
  flipped_signs X Y (inl a) = (flipped_alike a, flipped_alike (λ i k. sym (a i k)))
  flipped_signs X Y (inr a) = (λ f. flipped_alike (λ i _. opposite-opposite (Y i)) (flipped-against (flipped_alike a f)), λ f. flipped_alike (λ i k. sym (a i k)) (flipped-against f))

  pub flip-along : (w w' : List ℕ) (X : SignVector) (z : ℕ) → GivenFor l X z → Words word_count w → Words word_count w'
      → (flip_of l w z ≡ gives w') ↔ (Clear (shot_lines l) × Accepted l w × Flipped n (Listed n w) X (Listed n w') × (PastLast l w' → ⊥))
  flip-along w w' X z x v v' =
      let (h, a) = number_signs l X z x in
      let s = flipped_signs {T = Listed n w} {T' = Listed n w'} X (signs_of l z) a in
      let p = flip_published w w' z v v' in
      (λ e. let (c, b, _, f, k) = p.0 e in (c, b, s.1 f, k), λ (c, b, f, k). p.1 (c, b, h, s.0 f, k))

  pub flip-any : Clear (shot_lines l) → (w w' : List ℕ) → Accepted l w → Words word_count w → Words word_count w'
      → ((z : ℕ) × (flip_of l w z ≡ gives w')) ↔ ((X : SignVector) × Circuit n (patch_of l) X × Flipped n (Listed n w) X (Listed n w') × (PastLast l w' → ⊥))
  flip-any c w w' a v v' = (
    λ (z, e). let (_, _, h, f, k) = (flip_published w w' z v v').0 e in (signs_of l z, circuit_published l ((shots_kept l).0 c) z h, f, k),
    λ (X, x, f, k). let (z, g, _) = circuit-given l c X x in (z, (flip-along w w' X z g v v').1 (c, a, f, k)),
  )

  pub flip_back_again : (w w' : List ℕ) (z : ℕ) → Words word_count w → flip_of l w z ≡ gives w' → flip_of l w' z ≡ gives w
  unfolding opposite
  flip_back_again w w' z v e =
      let v' : Words word_count w' = flip_words w w' z v.0 e in
      let a' = flip-accepted w w' z v.0 e in
      let (c, a, h, f, _) = (flip_published w w' z v v').0 e in
      let back : (s : Sign) → Side s → Flip n (Listed n w) (signs_of l z) s (Listed n w') → Flip n (Listed n w') (signs_of l z) (opposite s) (Listed n w)
      = λ s d. flip_back a.1 a'.1 (circuit_published l ((shots_kept l).0 c) z h) d (star_dec (numbered l z h) w s s d d) in
      (flip_published w' w z v' v).1 (c, a', h, ⊎_elim (λ g. inr (back plus (inl refl) g)) (λ g. inl (back minus (inr refl) g)) f, a.0)

-- ---- one answer
abbrev triples_of : List ℕ → Triples
triples_of w = record { words = w }

pub surface_one : {x : Answer (List ℕ)} {r r' : Result Triples Refusal} → answer_of words_of r ≡ x → answer_of words_of r' ≡ x → r ≡ r'
surface_one = answer_one words_of triples_of (λ t. refl)

pub flip_one : (l : List ℤ) (w : List ℕ) (z : ℕ) (r r' : Result Triples Refusal) → answer_of words_of r ≡ flip_of l w z → answer_of words_of r' ≡ flip_of l w z → r ≡ r'
flip_one l w z r r' = surface_one

pub placing_one : (l : List ℤ) (r r' : Result Triples Refusal) → answer_of words_of r ≡ placing_of l → answer_of words_of r' ≡ placing_of l → r ≡ r'
placing_one l r r' = surface_one
