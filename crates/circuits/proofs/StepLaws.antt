-- What one candidate, three shots or four, adds to the circuits found.
--
--   none_added, one_added    nothing, or the masks of one circuit
--   three_sides, four_sides  its masks, from the tests of the code
--   flat_test                the code's test of four signs
--   end-signed, none_of      an end or the middle has a sign; none of four tests holds
use Rattle.std.specs.Prelude.{◌≡◌, ℕ, ◌^◌, ◌<◌, Bool, true, false, not, ◌||◌, eqb, List, [], ◌∷◌, map, ℤ, pos}
use mathlib.Core.Path.{refl, sym, ◌∙◌, ap}
use mathlib.Core.Bool.{beq}
use mir.Syntax.{w8}
use mir.Val.{hbits, of_z, to_z}
use lib.Signed.{mag}
use Rattle.algebra.specs.Sign.{Sign, opposite, value, is_nought, same_sign, eq_z}
use Rattle.algebra.proofs.LoopLaws.{or_parts}
use Rattle.algebra.proofs.SignLaws.{opposite-signed, same_turned, turned_other, value-nought}
use Rattle.algebra.proofs.SizeLaws.{read_back, signs_same}
use Rattle.shots.specs.Patch.{orient_of, between_of}
use Rattle.circuits.specs.Sides.{TwoSides, split, masks}
use Rattle.circuits.specs.Joined.{sides3, sides4}
use Rattle.circuits.specs.Numbering.{one_if, end_sign, terms3, terms4, flat_among}
use Rattle.circuits.specs.declared.Sides.{Sides}
use Rattle.circuits.proofs.MaskLaws.{masks-split}

-- ---- one circuit or none

module _ (b : Bool) (z : TwoSides) where
  pub none_added : b ≡ false → [] ≡ map masks (one_if b z)
  unfolding one_if
  none_added h = rw h refl

  pub one_added : b ≡ true → {s : Sides} → s ≡ masks z → s ∷ [] ≡ map masks (one_if b z)
  unfolding one_if
  one_added h e = rw h (ap (λ (s : Sides). s ∷ []) e)

-- ---- three shots

pub end-signed : (x : Bool) → is_nought (end_sign x) ≡ false
end-signed true = refl
end-signed false = refl

ends_same : (x y : Bool) → beq y x ≡ same_sign (end_sign x) (end_sign y)
ends_same true true = refl
ends_same true false = refl
ends_same false true = refl
ends_same false false = refl

pub three_sides : (l : List ℤ) (a b c : ℕ) {x y z : Bool} → x ≡ between_of l a b c → y ≡ between_of l b a c → z ≡ between_of l c a b
    → sides3 a b c (beq y x) (beq z x) ≡ masks (split (terms3 l a b c))
three_sides l a b c {x} {y} {z} e f g =
    rw (ends_same x y, ends_same x z, e, f, g)
    (masks-split (record { shot = a; sign = end_sign (between_of l a b c) }) (record { shot = b; sign = end_sign (between_of l b a c) } ∷ record { shot = c; sign = end_sign (between_of l c a b) } ∷ [])
    (end-signed (between_of l a b c), (end-signed (between_of l b a c), (end-signed (between_of l c a b), tt))))

-- ---- four shots

-- none of four tests holds
pub none_of : (p q r s : Bool) → (p || (q || (r || s))) ≡ false → (p ≡ false) × (q ≡ false) × (r ≡ false) × (s ≡ false)
none_of p q r s e =
    let a = or_parts p (q || (r || s)) e in
    let b = or_parts q (r || s) a.1 in
    let c = or_parts r s b.1 in
    (a.0, b.0, c.0, c.1)

-- a sign as a function gives it, in eight bits
abbrev Signed8 : ℤ → Sign → Type 0
Signed8 z s = (mag z < 2 ^ hbits w8) × (z ≡ value s)

module _ (l : List ℤ) (a b c d : ℕ) where
  -- the code reads the signs back from their bits
  pub flat_test : {sa sb sc sd : ℤ} → Signed8 sa (orient_of l b c d) → Signed8 sb (orient_of l a c d) → Signed8 sc (orient_of l a b d) → Signed8 sd (orient_of l a b c)
      → (eq_z (to_z w8 (of_z w8 sa)) (pos 0) || (eq_z (to_z w8 (of_z w8 sb)) (pos 0) || (eq_z (to_z w8 (of_z w8 sc)) (pos 0) || eq_z (to_z w8 (of_z w8 sd)) (pos 0)))) ≡ flat_among l a b c d
  flat_test e f g h =
      rw (read_back w8 _ e.0 e.1, read_back w8 _ f.0 f.1, read_back w8 _ g.0 g.1, read_back w8 _ h.0 h.1)
      (λ k. value-nought (orient_of l b c d) k || (value-nought (orient_of l a c d) k || (value-nought (orient_of l a b d) k || value-nought (orient_of l a b c) k)))

  pub four_sides : {sa sb sc sd : ℤ} → flat_among l a b c d ≡ false → sa ≡ value (orient_of l b c d) → sb ≡ value (orient_of l a c d) → sc ≡ value (orient_of l a b d) → sd ≡ value (orient_of l a b c)
      → sides4 a b c d (not (eqb (of_z w8 sb) (of_z w8 sa))) (eqb (of_z w8 sc) (of_z w8 sa)) (not (eqb (of_z w8 sd) (of_z w8 sa))) ≡ masks (split (terms4 l a b c d))
  four_sides h e f g k =
      let n = none_of (is_nought (orient_of l b c d)) (is_nought (orient_of l a c d)) (is_nought (orient_of l a b d)) (is_nought (orient_of l a b c)) h in
      rw (
        signs_same (orient_of l b c d) (orient_of l a c d) e f,
        signs_same (orient_of l b c d) (orient_of l a b d) e g,
        signs_same (orient_of l b c d) (orient_of l a b c) e k,
        sym (turned_other (orient_of l b c d) (orient_of l a c d) n.0 n.1) ∙ sym (same_turned (orient_of l b c d) (orient_of l a c d)),
        sym (turned_other (orient_of l b c d) (orient_of l a b c) n.0 n.3) ∙ sym (same_turned (orient_of l b c d) (orient_of l a b c)),
      )
      (masks-split (record { shot = a; sign = orient_of l b c d })
      (record { shot = b; sign = opposite (orient_of l a c d) } ∷ record { shot = c; sign = orient_of l a b d } ∷ record { shot = d; sign = opposite (orient_of l a b c) } ∷ [])
      (n.0, (opposite-signed (orient_of l a c d) ∙ n.1, (n.2, (opposite-signed (orient_of l a b c) ∙ n.3, tt)))))
