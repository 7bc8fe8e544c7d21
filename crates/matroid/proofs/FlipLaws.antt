-- Flips of a triangulation: only one side of a circuit can be supported, what is put in is new, and a flip is undone by the flip of the other side.
--
--   piece_of n X a       the circuit's points without the point a: `piece_on`, `piece-of`
--   Linked n T X s c    c is in the link of a piece of the side s
--   Holds n X s t       t holds the other side of the circuit
--   union-joins, dropped-joins    sets that are apart, and their union; a point, and the others
--   some-side           each side of a circuit has a point
--   side-nought         a point of a side is on the circuit
--   no_whole            no member holds the whole circuit
--   not_both            not both sides are supported
--   put_in_new          what a flip puts in was not there
--   taken_out_old       what it takes out was there; `star_holds`: it holds the other side
--   link_off            a member of the link of a piece has no point of the circuit
--   flip_back           the flip of the other side leads back, where both are triangulations and it is decided what is taken out
--   flip_pieces         a flip is known by the pieces of the two sides
--   flipped_alike, flipped-against    a flip depends on the circuit's signs alone, and not on which side is called plus
--
-- The definitions: specs/Flips. That a flip of a triangulation of the plane is a triangulation, as `flip_back` asks: proofs/FlipTriangulates. Source 001, section 3.4.
use mathlib.Core.Path.{◌≡◌, refl, sym, ◌∙◌, ap, subst}
use mathlib.Core.Logic.{◌⊎◌, inl, inr, ⊎_elim, ◌↔◌}
use mathlib.Core.List.{List, [], ◌∷◌}
use Prim.Native.Nat.{ℕ, ◌<◌}
use native.Mathlib.Decide.{ℕ_discrete}
use lib.IntN.{neg_ℤ}
use Rattle.algebra.specs.Sets.{On, Within, union, dropped}
use Rattle.algebra.specs.Sign.{Side, Sign, minus, nought, plus, opposite, Pos}
use Rattle.algebra.proofs.AnswerLaws.{reflects_yes, reflects_true}
use Rattle.algebra.proofs.SumLaws.{nn_sum_zero}
use Rattle.algebra.proofs.UnionLaws.{set_known, on_one, on_either, on_without}
use Rattle.algebra.proofs.SetTests.{on_low, union_within, dropped_within}
use Rattle.algebra.proofs.SignLaws.{other-side, nought-side, sides_differ, np_of, neg-zero, dec_pos, sign_of_pos, opposite-opposite, nought-opposite, plus-nought, minus-nought}
use Rattle.matroid.specs.Configurations.{Configuration}
use Rattle.matroid.specs.Circuits.{SignVector, Circuit, Alike, against}
use Rattle.matroid.specs.Triangulations.{Family, Triangulation}
use Rattle.matroid.specs.Flips.{Piece, Joins, Link, Supports, Star, Flip, Flipped}
use Rattle.matroid.proofs.Search.{Least, least}
use Rattle.matroid.proofs.Dependent.{somewhere_nowhere, dep-neg}
use Rattle.matroid.proofs.CircuitLaws.{support, support_within, on_support, circuit-against}

-- ---- the two sides

module _ {n : ℕ} {P : Configuration} where
  some_plus : {X : SignVector} → Circuit n P X → (a : ℕ) × (a < n) × (X a ≡ plus)
  some_plus {X} z = go (least n (λ i. Pos (z.by i)) (λ i. dec_pos (z.by i)))
    where
      go : Least n (λ i. Pos (z.by i)) ⊎ ((i : ℕ) → i < n → Pos (z.by i) → ⊥) → (a : ℕ) × (a < n) × (X a ≡ plus)
      go (inl m) = (m.here, m.low, z.signs m.here m.low ∙ sign_of_pos (z.by m.here) m.so)
      go (inr none) = somewhere_nowhere z.somewhere
          (λ i l. neg-zero (z.by i) (nn_sum_zero n (λ j. neg_ℤ (z.by j)) (λ j k. np_of (z.by j) (none j k)) (dep-neg n P z.by z.dependency).ones i l))

  pub some-side : {X : SignVector} → Circuit n P X → (s : Sign) → Side s → (a : ℕ) × (a < n) × (X a ≡ s)
  unfolding opposite
  some-side {X} z s (inl e) = let r = some_plus z in (r.0, r.1, r.2 ∙ sym e)
  some-side {X} z s (inr e) = let r = some_plus (circuit-against z) in (r.0, r.1, sym (opposite-opposite (X r.0)) ∙ ap opposite r.2 ∙ sym e)

-- ---- pieces, and sets joined

abbrev pub piece_of : ℕ → SignVector → ℕ → List ℕ
piece_of n X a = dropped n a (support n X)

abbrev pub Linked : ℕ → Family → SignVector → Sign → List ℕ → Type 0
Linked n T X s c = (p : List ℕ) × Piece n X s p × Link n T p c

abbrev pub Holds : ℕ → SignVector → Sign → List ℕ → Type 0
Holds n X s t = (i : ℕ) → i < n → X i ≡ opposite s → On t i

pub side-nought : {s q : Sign} → Side s → q ≡ s → q ≡ nought → ⊥
side-nought d e z = nought-side (subst Side (sym e ∙ z) d)

module _ (n : ℕ) (X : SignVector) where
  pub piece_on : (a i : ℕ) → i < n → On (piece_of n X a) i ↔ ((X i ≡ nought → ⊥) × (i ≡ a → ⊥))
  piece_on a i l =
      let on = on_without n a (support n X) (support_within n X) i in
      (λ o. let (y, ne) = on.0 o in ((reflects_yes (on_support n X i) y).1, ne), λ (nz, ne). on.1 (reflects_true (on_support n X i) (l, nz), ne))

  abbrev pub piece-of : (s : Sign) (a : ℕ) → a < n → X a ≡ s → Piece n X s (piece_of n X a)
  piece-of s a l e = (a, l, e, dropped_within n a (support n X), piece_on a)

  -- a piece of a side holds the other side, and so does what it is joined to
  joined_holds : (s : Sign) → Side s → (p c t : List ℕ) → Piece n X s p → Joins p c t → Holds n X s t
  joined_holds s d p c t q j i l e = (j.0 i).1 (inl ((q.4 i l).1 (side-nought (other-side s d) e, λ z. sides_differ s d (sym e ∙ ap X z ∙ q.2))))

  pub star_holds : {T : Family} {s : Sign} → Side s → (t : List ℕ) → Star n T X s s t → Holds n X s t
  star_holds {T} {s} d t r = let (w, (p, c, b, k, l, k', j)) = r in joined_holds s d b c t k' j

pub union-joins : (n : ℕ) (p c : List ℕ) → Within 0 p n → Within 0 c n → ((i : ℕ) → On p i → On c i → ⊥) → Joins p c (union n p c)
union-joins n p c v w h = (on_either n p c v w, h)

-- a point and the others
pub dropped-joins : (n x : ℕ) (t : List ℕ) → Within 0 t n → On t x → Joins (dropped n x t) (x ∷ []) t
dropped-joins n x t w o = (λ i. (λ y. at i y (ℕ_discrete i x), ⊎_elim (λ y. ((on i).0 y).0) (λ y. subst (On t) (sym (reflects_yes (on_one x i) y)) o)), λ i y k. ((on i).0 y).1 (reflects_yes (on_one x i) k))
  where
    on : (i : ℕ) → On (dropped n x t) i ↔ (On t i × (i ≡ x → ⊥))
    on = on_without n x t w

    at : (i : ℕ) → On t i → Dec (i ≡ x) → On (dropped n x t) i ⊎ On (x ∷ []) i
    at i y (yes e) = inr (reflects_true (on_one x i) e)
    at i y (no ne) = inl ((on i).1 (y, ne))

-- ---- one triangulation

module _ {n : ℕ} {P : Configuration} {T : Family} {X : SignVector} (g : Triangulation n P T) (z : Circuit n P X) where
  -- the sides are not inside two members
  sides_apart : (s : Sign) → Side s → (t u : List ℕ) → T t → T u → ((i : ℕ) → i < n → X i ≡ s → On t i) → ((i : ℕ) → i < n → X i ≡ opposite s → On u i) → ⊥
  unfolding opposite
  sides_apart s (inl e) t u m k h j = g.ip t u m k (record { by = X; circuit = z; left = λ i l q. h i l (q ∙ sym e); right = λ i l q. j i l (q ∙ sym (ap opposite e)) })
  sides_apart s (inr e) t u m k h j = g.ip u t k m (record { by = X; circuit = z; left = λ i l q. j i l (q ∙ sym (ap opposite e)); right = λ i l q. h i l (q ∙ sym e) })

  pub no_whole : (t : List ℕ) → T t → ((i : ℕ) → i < n → (X i ≡ nought → ⊥) → On t i) → ⊥
  no_whole t m h = g.ip t t m m (record { by = X; circuit = z; left = λ i l q. h i l (λ e. plus-nought (sym q ∙ e)); right = λ i l q. h i l (λ e. minus-nought (sym q ∙ e)) })

  pub not_both : Supports n T X plus → Supports n T X minus → ⊥
  unfolding opposite
  not_both h k =
      let (p, c, q, (w, (t, m, j))) = h.some in
      let (p', c', q', (w', (t', m', j'))) = k.some in
      sides_apart plus (inl refl) t' t m' m (joined_holds n X minus (inr refl) p' c' t' q' j') (joined_holds n X plus (inl refl) p c t q j)

  pub put_in_new : {s : Sign} → Side s → (t : List ℕ) → Star n T X s (opposite s) t → T t → ⊥
  put_in_new {s} d t r m =
      let (w, (p, c, b, q, (v, (u, m', k)), q', j)) = r in
      sides_apart s d t u m m' (λ i l e. joined_holds n X (opposite s) (other-side s d) b c t q' j i l (e ∙ sym (opposite-opposite s))) (joined_holds n X s d p c u q k)

  pub link_off : {s : Sign} → (p c : List ℕ) → Piece n X s p → Link n T p c → (i : ℕ) → i < n → (X i ≡ nought → ⊥) → On c i → ⊥
  link_off {s} p c q v i l e o =
      let (w, (t, m, j)) = v in
      no_whole t m (λ k h f. go t j k (ℕ_discrete k q.0) h f)
    where
      -- the point that the piece lacks is in c
      lacks : (t : List ℕ) → Joins p c t → i ≡ q.0
      lacks t j = at (ℕ_discrete i q.0)
        where
          at : Dec (i ≡ q.0) → i ≡ q.0
          at (yes y) = y
          at (no y) = absurd (j.1 i ((q.4 i l).1 (e, y)) o)

      go : (t : List ℕ) → Joins p c t → (k : ℕ) → Dec (k ≡ q.0) → k < n → (X k ≡ nought → ⊥) → On t k
      go t j k (yes y) h f = (j.0 k).1 (inr (subst (λ (x : ℕ). On c x) (lacks t j ∙ sym y) o))
      go t j k (no y) h f = (j.0 k).1 (inl ((q.4 k h).1 (f, y)))

pub taken_out_old : {n : ℕ} {P : Configuration} {T : Family} {X : SignVector} {s : Sign} → Triangulation n P T → Supports n T X s → (t : List ℕ) → Star n T X s s t → T t
taken_out_old {n} {P} {T} {X} {s} g h t r =
    let (w, (p, c, b, q, v, q', j)) = r in
    let (v₀, (u, m, k)) = h.same p b c q q' v in
    subst T (set_known n u t (g.simplices u m).within w (λ i l. (λ o. (j.0 i).1 ((k.0 i).0 o), λ o. (k.0 i).1 ((j.0 i).0 o)))) m

-- ---- there and back

module _ {n : ℕ} {P : Configuration} {T T' : Family} {X : SignVector} {s : Sign} (g : Triangulation n P T) (g' : Triangulation n P T') (z : Circuit n P X) (d : Side s) (f : Flip n T X s T') where
  -- a piece of the other side, and those whose link a set is in: before the flip for the one side, after it for the other
  other_piece : (b : List ℕ) × Piece n X (opposite s) b
  other_piece = let r = some-side z (opposite s) (other-side s d) in (piece_of n X r.0, piece-of n X (opposite s) r.0 r.1 r.2)

  link_after : (p b c : List ℕ) → Piece n X s p → Piece n X (opposite s) b → Link n T p c → Link n T' b c
  link_after p b c q q' v = (v.0, (union n b c, (f.exchanged (union n b c)).1 (inr (union_within n b c, (p, c, b, q, v, q', joins))), joins))
    where
      joins : Joins b c (union n b c)
      joins = union-joins n b c q'.3 v.0 (λ i o o'. let l = (on_low b 0 n i q'.3 o).1 in link_off g z p c q v i l ((q'.4 i l).0 o).0 o')

  link_before : (b c : List ℕ) → Piece n X (opposite s) b → Link n T' b c → Linked n T X s c
  link_before b c q v = let (w, (t, m, j)) = v in ⊎_elim (λ r. absurd (stayed t j r.0)) (came t j) ((f.exchanged t).0 m)
    where
      stayed : (t : List ℕ) → Joins b c t → T t → ⊥
      stayed t j m =
          let (p, c', q', (v', (u, m', k))) = f.supported.some in
          sides_apart g z s d t u m m' (λ i l e. joined_holds n X (opposite s) (other-side s d) b c t q j i l (e ∙ sym (opposite-opposite s))) (joined_holds n X s d p c' u q' k)

      -- two sets off the circuit that complete pieces to one set are the same
      came : (t : List ℕ) → Joins b c t → Star n T X s (opposite s) t → Linked n T X s c
      came t j r =
          let (w, (p, c', b', q₁, v₁, q₂, k)) = r in
          let e : c' ≡ c = set_known n c' c v₁.0 v.0 (λ i l. (
            λ o. ⊎_elim (λ y. absurd (link_off g z p c' q₁ v₁ i l ((q.4 i l).0 y).0 o)) (λ y. y) ((j.0 i).0 ((k.0 i).1 (inr o))),
            λ o. ⊎_elim (λ y. absurd (link_off g' z b c q v i l ((q₂.4 i l).0 y).0 o)) (λ y. y) ((k.0 i).0 ((j.0 i).1 (inr o))),
          )) in
          (p, q₁, subst (λ (x : List ℕ). Link n T p x) e v₁)

  -- a star after the flip is one before it
  star_before : (q : Sign) (t : List ℕ) → Star n T' X (opposite s) q t → Star n T X s q t
  star_before q t r =
      let (w, (b, c, a, k, v, k', j)) = r in
      let (p, h, u) = link_before b c k v in
      (w, (p, c, a, h, u, k', j))

  star_after : (q : Sign) (t : List ℕ) → Star n T X s q t → Star n T' X (opposite s) q t
  star_after q t r =
      let (w, (p, c, a, k, v, k', j)) = r in
      let (b, h) = other_piece in
      (w, (b, c, a, h, link_after p b c k h v, k', j))

  supported_after : Supports n T' X (opposite s)
  supported_after = record {
    some = let (p, c, q, v) = f.supported.some in let (b, h) = other_piece in (b, c, h, link_after p b c q h v);
    same = λ b b' c h h' v. let (p, q, u) = link_before b c h v in link_after p b' c q h' u;
  }

  back : ((t : List ℕ) → Dec (Star n T X s s t)) → Flip n T' X (opposite s) T
  back dec = record { supported = supported_after; exchanged = λ t. (into t (dec t), out t) }
    where
      into : (t : List ℕ) → Dec (Star n T X s s t) → T t → (T' t × (Star n T' X (opposite s) (opposite s) t → ⊥)) ⊎ Star n T' X (opposite s) (opposite (opposite s)) t
      into t (yes r) m = inr (star_after (opposite (opposite s)) t (subst (λ (q : Sign). Star n T X s q t) (sym (opposite-opposite s)) r))
      into t (no r) m = inl ((f.exchanged t).1 (inl (m, r)), λ k. put_in_new g z d t (star_before (opposite s) t k) m)

      out : (t : List ℕ) → (T' t × (Star n T' X (opposite s) (opposite s) t → ⊥)) ⊎ Star n T' X (opposite s) (opposite (opposite s)) t → T t
      out t (inl r) = ⊎_elim (λ k. k.0) (λ k. absurd (r.1 (star_after (opposite s) t k))) ((f.exchanged t).0 r.0)
      out t (inr r) = taken_out_old g f.supported t (subst (λ (q : Sign). Star n T X s q t) (opposite-opposite s) (star_before (opposite (opposite s)) t r))

pub flip_back : {n : ℕ} {P : Configuration} {T T' : Family} {X : SignVector} {s : Sign} → Triangulation n P T → Triangulation n P T' → Circuit n P X → Side s
    → ((t : List ℕ) → Dec (Star n T X s s t)) → Flip n T X s T' → Flip n T' X (opposite s) T
flip_back g g' z d dec f = back g g' z d f dec

-- ---- the signs alone

star_pieces : {n : ℕ} {T : Family} {X Y : SignVector} {s s' q q' : Sign} → ((p : List ℕ) → Piece n X s p → Piece n Y s' p) → ((p : List ℕ) → Piece n X q p → Piece n Y q' p)
    → (t : List ℕ) → Star n T X s q t → Star n T Y s' q' t
star_pieces f g t (w, (p, c, b, x, h, y, j)) = (w, (p, c, b, f p x, h, g b y, j))

module _ {n : ℕ} {T T' : Family} {X Y : SignVector} {s q : Sign} (same : (p : List ℕ) → Piece n X s p ↔ Piece n Y q p) (other : (p : List ℕ) → Piece n X (opposite s) p ↔ Piece n Y (opposite q) p) where
  flip_pieces : Flip n T X s T' → Flip n T Y q T'
  flip_pieces f = record {
    supported = record {
      some = let (p, c, a, h) = f.supported.some in (p, c, (same p).0 a, h);
      same = λ p p' c a b. f.supported.same p p' c ((same p).1 a) ((same p').1 b);
    };
    exchanged = λ t. (
      λ h. ⊎_elim (λ (k, out). inl (k, λ x. out (star_pieces to_x to_x t x))) (λ x. inr (star_pieces to_y (λ p. (other p).0) t x)) ((f.exchanged t).0 h),
      λ h. (f.exchanged t).1 (⊎_elim (λ (k, out). inl (k, λ x. out (star_pieces to_y to_y t x))) (λ x. inr (star_pieces to_x (λ p. (other p).1) t x)) h),
    );
  }
    where
      to_y : (p : List ℕ) → Piece n X s p → Piece n Y q p
      to_y p = (same p).0

      to_x : (p : List ℕ) → Piece n Y q p → Piece n X s p
      to_x p = (same p).1

module _ {n : ℕ} where
  piece_alike : {X Y : SignVector} → Alike n X Y → (s : Sign) (p : List ℕ) → Piece n X s p → Piece n Y s p
  piece_alike e s p (a, l, at, w, on) = (a, l, sym (e a l) ∙ at, w, λ i m. (λ h. let (f, g) = (on i m).0 h in (λ z. f (e i m ∙ z), g), λ (f, g). (on i m).1 (λ z. f (sym (e i m) ∙ z), g)))

  piece-against : (X : SignVector) (s : Sign) (p : List ℕ) → Piece n X s p → Piece n (against X) (opposite s) p
  piece-against X s p (a, l, at, w, on) = (
    a,
    l,
    ap opposite at,
    w,
    λ i m. (λ h. let (f, g) = (on i m).0 h in (λ z. f (sym (opposite-opposite (X i)) ∙ nought-opposite (opposite (X i)) z), g), λ (f, g). (on i m).1 (λ z. f (nought-opposite (X i) z), g)),
  )

  against_twice : (X : SignVector) → Alike n (against (against X)) X
  against_twice X i l = opposite-opposite (X i)

  pieces_alike : {X Y : SignVector} → Alike n X Y → (s : Sign) (p : List ℕ) → Piece n X s p ↔ Piece n Y s p
  pieces_alike e s p = (piece_alike e s p, piece_alike (λ i l. sym (e i l)) s p)

  pieces-against : (X : SignVector) (s : Sign) (p : List ℕ) → Piece n X s p ↔ Piece n (against X) (opposite s) p
  pieces-against X s p = (
    piece-against X s p,
    λ h. piece_alike (against_twice X) s p (subst (λ q. Piece n (against (against X)) q p) (opposite-opposite s) (piece-against (against X) (opposite s) p h)),
  )

  module _ {T T' : Family} where
    pub flipped_alike : {X Y : SignVector} → Alike n X Y → Flipped n T X T' → Flipped n T Y T'
    flipped_alike e (inl f) = inl (flip_pieces (pieces_alike e plus) (pieces_alike e (opposite plus)) f)
    flipped_alike e (inr f) = inr (flip_pieces (pieces_alike e minus) (pieces_alike e (opposite minus)) f)

    pub flipped-against : {X : SignVector} → Flipped n T X T' → Flipped n T (against X) T'
    unfolding opposite
    flipped-against {X} (inl f) = inr (flip_pieces (pieces-against X plus) (pieces-against X minus) f)
    flipped-against {X} (inr f) = inl (flip_pieces (pieces-against X minus) (pieces-against X plus) f)
