-- The flip by stars is the flip by pieces and their links, for each numbered circuit and a list with no flat triple.
--
--   none_holds                  no triple of such a list holds all shots of a circuit: three of them are flat, four are too many
--   plus_pieces, minus_pieces     the pieces of the two sides of circuit z
--   sum_bits, sum_below, sum_low    the masks of the sides, summed: the mask of the circuit's shots, with no bit past the shots, which fits its width
--   supported_plus, supported_minus    a side is supported by its star exactly when its pieces are supported
--   turned_plus, turned_minus          and then the list turned is the list with the pieces exchanged
--   found-along, list-along     what the code finds along a circuit: whether there is a flip, and the list after it
--
-- Source: document 01, "Flips".
use Rattle.std.specs.Prelude.{◌≡◌, ℕ, ◌+◌, ◌^◌, ◌<◌, ◌≤◌, Bool, true, false, cond, ◌||◌, ◌⊎◌, List, [], ◌∷◌, length, ℤ}
use mathlib.Core.Path.{refl, sym, ◌∙◌, ap, subst}
use mathlib.Core.Logic.{inl, inr}
use mathlib.Core.Bool.{false≢true}
use native.Mathlib.Omega.{arith}
use lib.Pow.{pow_mono}
use borrow.Author.Tests.{eq-eqb}
use Rattle.algebra.specs.Sets.{is_on, On, union, Within, mask_of, bit}
use Rattle.algebra.specs.Sign.{Sign, minus, plus}
use Rattle.algebra.specs.Words.{Words, member}
use Rattle.algebra.proofs.AnswerLaws.{reflects_no}
use Rattle.algebra.proofs.SetTests.{union_within, subset-length, subset_same}
use Rattle.algebra.proofs.BitLaws.{mask_below, bit_mask}
use Rattle.algebra.proofs.UnionLaws.{mask-union, bit-union}
use Rattle.shots.specs.Sizes.{shots_most, mask_bits}
use Rattle.shots.specs.Patch.{count_of}
use Rattle.circuits.specs.Sides.{TwoSides, masks}
use Rattle.circuits.specs.Numbering.{circuits_of}
use Rattle.circuits.specs.Calls.{circuit_at}
use Rattle.circuits.proofs.Sources.{three_within, four_within, Source, from3, from4, shots, source_at}
use Rattle.triples.specs.Sizes.{word_count}
use Rattle.triples.specs.Ranks.{triple_count, triple_at}
use Rattle.lists.specs.Tests.{is_flat, some_flat}
use Rattle.triples.proofs.RankLaws.{triple_at_within}
use Rattle.lists.proofs.ByWords.{both_some, on_ranked}
use Rattle.surfaces.specs.Flips.{support_of, pieces_of, supports, exchanged, flipped_of}
use Rattle.surfaces.specs.Stars.{star_of, supported_by, turned_by, found_by, flipped_by}
use Rattle.surfaces.proofs.Agreement.{side_of, Proper, support_within, side_within, side_inside, support_shots, numbered}
use Rattle.surfaces.proofs.StarLinks.{PartOf, Over, supported-by, turned_by_lem}

-- ---- the shots of a circuit, and the triples of a list

module _ (l : List ℤ) where
  -- what holds a shot is a triple
  triple-of : (r i : ℕ) → On (triple_at (count_of l) r) i → (r < triple_count (count_of l)) × Within 0 (triple_at (count_of l) r) (count_of l) × (length (triple_at (count_of l) r) ≡ 3)
  triple-of r i o = let h = on_ranked (count_of l) r i o in let t = triple_at_within (count_of l) r h in (h, t.0, t.1)

  pub none_holds : {z : TwoSides} (k : Source l z) (w : List ℕ) → some_flat l w ≡ false → (r : ℕ) → member w r ≡ true → ((i : ℕ) → On (shots l k) i → On (triple_at (count_of l) r) i) → ⊥
  unfolding some_flat is_flat is_on
  none_holds (from3 t h) w f r m g =
      let q = triple-of r t.a (g t.a (rw (eq-eqb t.a t.a refl) refl)) in
      reflects_no (both_some (member w) (λ r. is_flat l (triple_at (count_of l) r)) (triple_count (count_of l))) f
      (r, q.0, m, subst (λ (s : List ℕ). is_flat l s ≡ true) (subset_same (t.a ∷ t.b ∷ t.c ∷ []) (triple_at (count_of l) r) (count_of l) (three_within t) q.1 g (sym q.2)) h)
  none_holds (from4 t h) w f r m g =
      let q = triple-of r t.a (g t.a (rw (eq-eqb t.a t.a refl) refl)) in
      let e = q.2 in
      omega (arith, subset-length (t.a ∷ t.b ∷ t.c ∷ t.d ∷ []) (triple_at (count_of l) r) (count_of l) (four_within t) q.1 g)

three_or_four : {k : ℕ} → (k ≡ 3) ⊎ (k ≡ 4) → (3 ≤ k) × (k ≤ 4)
three_or_four (inl e) = (omega arith, omega arith)
three_or_four (inr e) = (omega arith, omega arith)

-- ---- a numbered circuit, with the masks of its sides

abbrev pub plus_pieces : List ℤ → ℕ → List (List ℕ)
plus_pieces l z = pieces_of (count_of l) (circuit_at l z) (circuit_at l z).plus

abbrev pub minus_pieces : List ℤ → ℕ → List (List ℕ)
minus_pieces l z = pieces_of (count_of l) (circuit_at l z) (circuit_at l z).minus

module _ (l : List ℤ) (few : count_of l ≤ shots_most) (z : ℕ) (low : z < length (circuits_of l))
    (p m : ℕ) (sided : (p ≡ (masks (circuit_at l z)).plus) × (m ≡ (masks (circuit_at l z)).minus)) where
  abbrev n : ℕ
  n = count_of l

  abbrev Z : TwoSides
  Z = circuit_at l z

  proper : Proper (count_of l) (circuit_at l z)
  proper = numbered l z low

  sum-masks : p + m ≡ mask_of Z.plus + mask_of Z.minus
  sum-masks = λ k. sided.0 k + sided.1 k

  pub sum_bits : (i : ℕ) → bit (p + m) i ≡ is_on i (support_of (count_of l) (circuit_at l z))
  unfolding support_of
  sum_bits i = ap (λ (x : ℕ). bit x i) sum-masks ∙ bit-union n Z.plus Z.minus proper.within_plus proper.within_minus proper.apart i

  pub sum_below : p + m < 2 ^ count_of l
  sum_below =
      let e : p + m ≡ mask_of (union n Z.plus Z.minus) = sum-masks ∙ mask-union n Z.plus Z.minus proper.within_plus proper.within_minus proper.apart in
      omega (arith, mask_below n (union n Z.plus Z.minus) (union_within n Z.plus Z.minus))

  pub sum_low : p + m < 2 ^ mask_bits
  sum_low = omega (arith, sum_below, pow_mono {i = n} {j = mask_bits} (omega arith))

  side_part : (s : Sign) (y : ℕ) → y ≡ mask_of (side_of (circuit_at l z) s) → PartOf (count_of l) (support_of (count_of l) (circuit_at l z)) y (side_of (circuit_at l z) s)
  side_part s y e =
      record {
        within = side_within proper s;
        bits = λ i. ap (λ (x : ℕ). bit x i) e ∙ bit_mask i n (side_of Z s) (side_within proper s);
        inside = side_inside proper s;
      }

  module _ (w : List ℕ) (words : Words word_count w) (solid : some_flat l w ≡ false) where
    list_over : Over (count_of l) (p + m) (support_of (count_of l) (circuit_at l z)) w
    list_over =
        record {
          few = few;
          within = support_within proper;
          bits = sum_bits;
          least = (three_or_four proper.size).0;
          most = (three_or_four proper.size).1;
          words = words;
          free = λ r e g. none_holds l (source_at l z low) w solid r e (λ i o. g i (subst (λ (s : List ℕ). On s i) (sym (support_shots l (source_at l z low))) o));
        }

    pub supported_plus : supported_by (count_of l) (p + m) (star_of (count_of l) p (p + m)) w ≡ supports (count_of l) w (plus_pieces l z)
    unfolding pieces_of
    supported_plus = supported-by n (p + m) (support_of n Z) w list_over (side_part plus p sided.0)

    pub supported_minus : supported_by (count_of l) (p + m) (star_of (count_of l) m (p + m)) w ≡ supports (count_of l) w (minus_pieces l z)
    unfolding pieces_of
    supported_minus = supported-by n (p + m) (support_of n Z) w list_over (side_part minus m sided.1)

    pub turned_plus : supports (count_of l) w (plus_pieces l z) ≡ true
        → turned_by (count_of l) (p + m) (star_of (count_of l) p (p + m)) (star_of (count_of l) m (p + m)) w ≡ exchanged (count_of l) w (plus_pieces l z) (minus_pieces l z)
    unfolding pieces_of
    turned_plus = turned_by_lem n (p + m) (support_of n Z) w list_over (side_part plus p sided.0) (side_part minus m sided.1)

    pub turned_minus : supports (count_of l) w (minus_pieces l z) ≡ true
        → turned_by (count_of l) (p + m) (star_of (count_of l) m (p + m)) (star_of (count_of l) p (p + m)) w ≡ exchanged (count_of l) w (minus_pieces l z) (plus_pieces l z)
    unfolding pieces_of
    turned_minus = turned_by_lem n (p + m) (support_of n Z) w list_over (side_part minus m sided.1) (side_part plus p sided.0)

    -- ---- what the code finds along it

    pub found-along : found_by (count_of l) (p + m) (star_of (count_of l) p (p + m)) (star_of (count_of l) m (p + m)) w ≡ (supports (count_of l) w (plus_pieces l z) || supports (count_of l) w (minus_pieces l z))
    found-along = λ k. supported_plus k || supported_minus k

    pub list-along : (supports (count_of l) w (plus_pieces l z) || supports (count_of l) w (minus_pieces l z)) ≡ true
        → flipped_by (count_of l) (p + m) (star_of (count_of l) p (p + m)) (star_of (count_of l) m (p + m)) w ≡ flipped_of (count_of l) w (circuit_at l z)
    unfolding flipped_of
    list-along h = (λ k. cond (supported_plus k) there (cond (supported_minus k) back w)) ∙ go (supports n w (plus_pieces l z)) (supports n w (minus_pieces l z)) refl refl h
      where
        there : List ℕ
        there = turned_by n (p + m) (star_of n p (p + m)) (star_of n m (p + m)) w

        back : List ℕ
        back = turned_by n (p + m) (star_of n m (p + m)) (star_of n p (p + m)) w

        go : (a b : Bool) → supports n w (plus_pieces l z) ≡ a → supports n w (minus_pieces l z) ≡ b → (a || b) ≡ true
            → cond a there (cond b back w) ≡ cond a (exchanged n w (plus_pieces l z) (minus_pieces l z)) (exchanged n w (minus_pieces l z) (plus_pieces l z))
        go true b e f t = turned_plus e
        go false true e f t = turned_minus f
        go false false e f t = absurd (false≢true t)
