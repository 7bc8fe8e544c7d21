-- What is known of each numbered circuit, and of their order.
--
--   sign-in             the sign of a shot is its sign among the terms against that of the first
--   first_is_plus       the first shot of a circuit is on its plus side
--   minus_after_plus    before each shot of the minus side comes one of the plus side
--   sides_within        the shots of each side are increasing and below n
--   sides_apart         no shot is on both sides
--   masks_low           the masks of a circuit of n shots are below 2 ^ n
--   masks_signs         its signs are those of its two masks
--   shots_made          the shots of a circuit are those of its terms
--   shots-in            and those of its source
--   circuits_in_order   fewer shots first, and sets of one size in lexicographic order
--   numbers_in_order    the same for two numbers
use Rattle.std.specs.Prelude.{◌≡◌, ℕ, ◌^◌, ◌<◌, Bool, true, false, not, List, [], ◌∷◌, length, get_or, ℤ}
use mathlib.Core.Path.{refl, sym, ◌∙◌, ap}
use mathlib.Core.Logic.{inl, inr}
use mathlib.Core.Bool.{true≢false, false≢true}
use mathlib.Core.List.Memᴰ
use mathlib.Core.List.{Memᴰ}
use native.Mathlib.Omega.{arith}
use native.Mathlib.Decide.{ℕ_discrete, dec_lt}
use borrow.Author.Tests.{eq-eqb}
use Rattle.algebra.specs.Sets.{is_on, On, Within, mask_of, nest}
use Rattle.algebra.specs.Sign.{Sign, minus, nought, plus, opposite, is_nought, same_sign}
use Rattle.algebra.proofs.SignLaws.{plus_minus, minus-nought, opposite-signed}
use Rattle.algebra.proofs.ListLaws.{Apart, apart-append, apart_at}
use Rattle.algebra.proofs.BitLaws.{mask_below, bit_mask}
use Rattle.algebra.proofs.SetLaws.{nest_apart, nest_out, picks_on, picks_same}
use Rattle.shots.specs.Patch.{count_of, orient_of}
use Rattle.circuits.specs.Sides.{TwoSides, Term, split, masks, sign_in, mask_signs}
use Rattle.circuits.specs.Numbering.{one_if, terms3, terms4, flat_among, three, four, circuits_of, shots_in, Before}
use Rattle.circuits.proofs.SideLaws.{sign_on, relative, shots_of, on-side, sign_of_split, relative_self, nought_relative, relative-signed, on_shots, early-nought, side_within}
use Rattle.circuits.proofs.Sources.{three_of, four_of, threes-nest, fours-nest, Source, from3, from4, shots, Of, three_out, four_out, Made, made}

both_signs : (s v : Sign) → is_nought s ≡ false → same_sign s v ≡ true → same_sign (opposite s) v ≡ true → ⊥
unfolding opposite
both_signs minus minus h e f = false≢true f
both_signs minus nought h e f = false≢true e
both_signs minus plus h e f = false≢true e
both_signs nought v h e f = true≢false h
both_signs plus minus h e f = false≢true e
both_signs plus nought h e f = false≢true e
both_signs plus plus h e f = false≢true f

-- ---- one circuit

module _ (n : ℕ) (z : TwoSides) (m : Made n z) where
  abbrev ts : List Term
  ts = m.first ∷ m.rest

  pub sign-in : (i : ℕ) → sign_in z i ≡ relative m.first.sign (sign_on ts i)
  sign-in i = ap (λ (x : TwoSides). sign_in x i) m.is ∙ sign_of_split n m.first m.rest i m.signed.0 m.within

  pub first_is_plus : sign_in z m.first.shot ≡ plus
  first_is_plus =
      sign-in m.first.shot
      ∙ ap (relative m.first.sign) (rw (eq-eqb m.first.shot m.first.shot refl) refl)
      ∙ relative_self m.first.sign m.signed.0

  pub minus_after_plus : (i : ℕ) → sign_in z i ≡ minus → (j : ℕ) × (j < i) × (sign_in z j ≡ plus)
  minus_after_plus i e = (m.first.shot, go (dec_lt m.first.shot i) (ℕ_discrete i m.first.shot), first_is_plus)
    where
      before : i < m.first.shot → ⊥
      before l = minus-nought (sym e ∙ sign-in i ∙ nought_relative m.first.sign (sign_on ts i) (early-nought m.first.shot n i ts (omega arith, m.within.1, m.within.2) l))

      go : Dec (m.first.shot < i) → Dec (i ≡ m.first.shot) → m.first.shot < i
      go (yes l) d = l
      go (no l) (yes q) = plus_minus (sym first_is_plus ∙ ap (sign_in z) (sym q) ∙ e)
      go (no l) (no q) = absurd (before (omega arith))

  pub sides_within : Within 0 z.plus n × Within 0 z.minus n
  unfolding split
  sides_within = rw m.is (side_within m.first.sign 0 n ts m.within, side_within (opposite m.first.sign) 0 n ts m.within)

  pub sides_apart : (i : ℕ) → On z.plus i → On z.minus i → ⊥
  unfolding split
  sides_apart i o p =
      both_signs m.first.sign (sign_on ts i) m.signed.0
      (sym (on-side m.first.sign 0 n ts i m.signed.0 m.within) ∙ ap (λ (c : TwoSides). is_on i c.plus) (sym m.is) ∙ o)
      (sym (on-side (opposite m.first.sign) 0 n ts i (opposite-signed m.first.sign ∙ m.signed.0) m.within) ∙ ap (λ (c : TwoSides). is_on i c.minus) (sym m.is) ∙ p)

  pub masks_low : (mask_of z.plus < 2 ^ n) × (mask_of z.minus < 2 ^ n)
  masks_low = (mask_below n z.plus sides_within.0, mask_below n z.minus sides_within.1)

  -- the signs, read off the masks
  pub masks_signs : (i : ℕ) → sign_in z i ≡ mask_signs (masks z) i
  unfolding sign_in mask_signs
  masks_signs i = rw (bit_mask i n z.plus sides_within.0, bit_mask i n z.minus sides_within.1) refl

  pub shots_made : shots_in n z ≡ shots_of ts
  unfolding shots_in
  shots_made =
      picks_same (λ i. not (is_nought (sign_in z i))) (λ i. is_on i (shots_of ts)) n
      (λ i h. ap (λ (s : Sign). not (is_nought s)) (sign-in i) ∙ ap not (relative-signed m.first.sign (sign_on ts i)) ∙ on_shots i ts m.signed)
      ∙ picks_on (shots_of ts) n m.within

-- ---- in the order of their numbers

module _ (l : List ℤ) where
  abbrev n : ℕ
  n = count_of l

  pub shots-in : {z : TwoSides} (k : Source l z) → shots_in n z ≡ shots l k
  unfolding made
  shots-in (from3 t h) = shots_made n _ (made l (from3 t h))
  shots-in (from4 q h) = shots_made n _ (made l (from4 q h))

  abbrev Earlier : TwoSides → TwoSides → Type 0
  Earlier x y = Before (shots_in n x) (shots_in n y)

  -- by the shots of two sources
  earlier : (s t : List ℕ) (x y : TwoSides) → Of l s x → Of l t y → Before s t → Earlier x y
  earlier s t x y p q h = rw (shots-in p.0 ∙ p.1, shots-in q.0 ∙ q.1) h

  in_order_lem : (k : ℕ) (f : List ℕ → List TwoSides) → ((s : List ℕ) → Apart Earlier (f s)) → ((s : List ℕ) (z : TwoSides) → Within 0 s n → Memᴰ z (f s) → Of l s z) → Apart Earlier (nest k f 0 n)
  in_order_lem k f p o = nest_apart Earlier k f 0 n (λ s w e. p s) (λ s t w w' e e' h x y m m'. earlier s t x y (o s x w m) (o t y w' m') (inr (e ∙ sym e', h)))

  lone : (b : Bool) (z : TwoSides) → Apart Earlier (one_if b z)
  unfolding one_if
  lone true z = (λ y m. absurd (Memᴰ.not-nil m), tt)
  lone false z = tt

  three_lone : (s : List ℕ) → Apart Earlier (three_of l s)
  unfolding three
  three_lone [] = tt
  three_lone (a ∷ []) = tt
  three_lone (a ∷ b ∷ []) = tt
  three_lone (a ∷ b ∷ c ∷ []) = lone (is_nought (orient_of l a b c)) (split (terms3 l a b c))
  three_lone (a ∷ b ∷ c ∷ d ∷ s) = tt

  four_lone : (s : List ℕ) → Apart Earlier (four_of l s)
  unfolding four
  four_lone [] = tt
  four_lone (a ∷ []) = tt
  four_lone (a ∷ b ∷ []) = tt
  four_lone (a ∷ b ∷ c ∷ []) = tt
  four_lone (a ∷ b ∷ c ∷ d ∷ []) = lone (not (flat_among l a b c d)) (split (terms4 l a b c d))
  four_lone (a ∷ b ∷ c ∷ d ∷ e ∷ s) = tt

  pub circuits_in_order : Apart Earlier (circuits_of l)
  unfolding circuits_of
  circuits_in_order =
      rw (threes-nest l, fours-nest l)
      (apart-append Earlier (nest 3 (three_of l) 0 n) (nest 4 (four_of l) 0 n) (in_order_lem 3 (three_of l) three_lone (λ s z w m. three_out l s w m)) (in_order_lem 4 (four_of l) four_lone (λ s z w m. four_out l s w m))
      (λ x y m m'. let r = nest_out 3 (three_of l) 0 n m in let q = nest_out 4 (four_of l) 0 n m' in
      earlier r.0 q.0 x y (three_out l r.0 r.1 r.3) (four_out l q.0 q.1 q.3) (inl (fewer r.2 q.2))))
    where
      fewer : {i j : ℕ} → i ≡ 3 → j ≡ 4 → i < j
      fewer e e' = omega arith

  pub numbers_in_order : (d : TwoSides) (z z' : ℕ) → z < z' → z' < length (circuits_of l) → Before (shots_in n (get_or (circuits_of l) z d)) (shots_in n (get_or (circuits_of l) z' d))
  numbers_in_order d z z' h h' = apart_at Earlier (circuits_of l) d z z' circuits_in_order h h'
