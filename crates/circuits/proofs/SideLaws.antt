-- What the sides of a split say of each shot.
--
--   sign_on ts i      the sign of shot i among the terms ts, nought where it is in none
--   relative s v     v, turned where s is minus: the sign against that of the first shot
--   shots_of ts       the shots of the terms
--   on-side          a shot is on the side of sign s exactly when s is its sign
--   Values, Off      what is known of a sign v at i: it is the sign of the term with that shot; no term has that shot
--   match_at         a sign known so is the sign of shot i among the terms
--   early-nought     a shot before all of the terms has the sign nought
--   relative_self, relative-signed, nought_relative    a sign against itself is plus; against any sign it is nought exactly when it is
--   sign_of_split    the sign of a shot in a split list of terms is its sign against that of the first
--   on_shots         the shots with a sign are the shots of the terms
--   side_within      a side of increasing shots is increasing
--   plus_on, minus_on    a shot is on the plus side, on the minus side, exactly when that is its sign; for minus, where it is not on both
use Rattle.std.specs.Prelude.{◌≡◌, ℕ, ◌+◌, ◌<◌, ◌≤◌, Bool, true, false, cond, not, ◌||◌, eqb, ◌↔◌, List, [], ◌∷◌}
use mathlib.Core.Path.{refl, sym, ◌∙◌, ap}
use mathlib.Core.Bool.{true≢false, false≢true}
use native.Mathlib.Omega.{arith}
use native.Mathlib.Decide.{ℕ_discrete}
use borrow.Author.Tests.{eq-eqb, ne_eqb}
use Rattle.algebra.specs.Sets.{is_on, On, Within}
use Rattle.algebra.specs.Sign.{Sign, minus, nought, plus, opposite, is_nought, same_sign}
use Rattle.circuits.specs.Sides.{TwoSides, Term, side, split, sign_in}
use Rattle.algebra.proofs.SetLaws.{within_early}
use Rattle.algebra.proofs.SignLaws.{opposite-signed, plus_minus, plus-nought, minus-nought}
use Rattle.circuits.proofs.MaskLaws.{Signed}

abbrev pub sign_on : List Term → ℕ → Sign
sign_on [] i = nought
sign_on (t ∷ ts) i = cond (eqb i t.shot) t.sign (sign_on ts i)

abbrev pub relative : Sign → Sign → Sign
relative minus v = opposite v
relative nought v = v
relative plus v = v

abbrev pub shots_of : List Term → List ℕ
shots_of [] = []
shots_of (t ∷ ts) = t.shot ∷ shots_of ts

-- a shot before all of them is in none
pub early-nought : (lo n i : ℕ) (ts : List Term) → Within lo (shots_of ts) n → i < lo → sign_on ts i ≡ nought
early-nought lo n i [] w h = refl
early-nought lo n i (t ∷ ts) w h = rw (ne_eqb i t.shot (λ e. apart w.0 e)) (early-nought (t.shot + 1) n i ts w.2 (let k = w.0 in omega arith))
  where
    apart : lo ≤ t.shot → i ≡ t.shot → ⊥
    apart k e = omega arith

same-nought : (s : Sign) → is_nought s ≡ false → same_sign s nought ≡ false
same-nought minus h = refl
same-nought nought h = absurd (true≢false h)
same-nought plus h = refl

on-cond : (b c : Bool) (i j : ℕ) (s : List ℕ) → eqb i j ≡ c → is_on i (cond b (j ∷ s) s) ≡ cond c (b || is_on i s) (is_on i s)
unfolding is_on
on-cond true true i j s e = rw e refl
on-cond true false i j s e = rw e refl
on-cond false true i j s e = refl
on-cond false false i j s e = refl

pub on-side : (s : Sign) (lo n : ℕ) (ts : List Term) (i : ℕ) → is_nought s ≡ false → Within lo (shots_of ts) n → is_on i (side s ts) ≡ same_sign s (sign_on ts i)
unfolding side is_on
on-side s lo n [] i h r = sym (same-nought s h)
on-side s lo n (t ∷ ts) i h r = go (ℕ_discrete i t.shot) (on-side s (t.shot + 1) n ts i h r.2)
  where
    back : (b : Bool) → (b || false) ≡ b
    back true = refl
    back false = refl

    go : Dec (i ≡ t.shot) → is_on i (side s ts) ≡ same_sign s (sign_on ts i) → is_on i (cond (same_sign s t.sign) (t.shot ∷ side s ts) (side s ts)) ≡ same_sign s (cond (eqb i t.shot) t.sign (sign_on ts i))
    go (yes e) ih =
        on-cond (same_sign s t.sign) true i t.shot (side s ts) (eq-eqb i t.shot e)
        ∙ ap (λ (x : Bool). same_sign s t.sign || x) (ih ∙ ap (same_sign s) (early-nought (t.shot + 1) n i ts r.2 (omega arith)) ∙ same-nought s h)
        ∙ back (same_sign s t.sign) ∙ sym (rw (eq-eqb i t.shot e) refl)
    go (no f) ih = on-cond (same_sign s t.sign) false i t.shot (side s ts) (ne_eqb i t.shot f) ∙ ih ∙ sym (rw (ne_eqb i t.shot f) refl)

chosen : (s v : Sign) → is_nought s ≡ false → cond (same_sign s v) plus (cond (same_sign (opposite s) v) minus nought) ≡ relative s v
unfolding opposite
chosen minus minus h = refl
chosen minus nought h = refl
chosen minus plus h = refl
chosen nought v h = absurd (true≢false h)
chosen plus minus h = refl
chosen plus nought h = refl
chosen plus plus h = refl

pub sign_of_split : (n : ℕ) (t : Term) (ts : List Term) (i : ℕ) → is_nought t.sign ≡ false → Within 0 (shots_of (t ∷ ts)) n → sign_in (split (t ∷ ts)) i ≡ relative t.sign (sign_on (t ∷ ts) i)
unfolding sign_in split
sign_of_split n t ts i h r =
    rw (on-side t.sign 0 n (t ∷ ts) i h r, on-side (opposite t.sign) 0 n (t ∷ ts) i (opposite-signed t.sign ∙ h) r) (chosen t.sign (sign_on (t ∷ ts) i) h)

-- a sign against another one is nought exactly when it is
pub relative-signed : (s v : Sign) → is_nought (relative s v) ≡ is_nought v
relative-signed minus v = opposite-signed v
relative-signed nought v = refl
relative-signed plus v = refl

pub nought_relative : (s v : Sign) → v ≡ nought → relative s v ≡ nought
unfolding opposite
nought_relative minus v e = ap opposite e
nought_relative nought v e = e
nought_relative plus v e = e

pub relative_self : (s : Sign) → is_nought s ≡ false → relative s s ≡ plus
unfolding opposite
relative_self minus h = refl
relative_self nought h = absurd (true≢false h)
relative_self plus h = refl

-- ---- signs given term by term

abbrev pub Values : ℕ → Sign → List Term → Type 0
Values i v [] = Unit {0}
Values i v (t ∷ ts) = (i ≡ t.shot → v ≡ t.sign) × Values i v ts

abbrev pub Off : ℕ → List Term → Type 0
Off i [] = Unit {0}
Off i (t ∷ ts) = (i ≡ t.shot → ⊥) × Off i ts

pub match_at : (i : ℕ) (v : Sign) (ts : List Term) → Values i v ts → (Off i ts → v ≡ nought) → sign_on ts i ≡ v
match_at i v [] h o = sym (o tt)
match_at i v (t ∷ ts) h o = go (ℕ_discrete i t.shot) (λ k. match_at i v ts h.1 k)
  where
    go : Dec (i ≡ t.shot) → ((Off i ts → v ≡ nought) → sign_on ts i ≡ v) → cond (eqb i t.shot) t.sign (sign_on ts i) ≡ v
    go (yes e) ih = rw (eq-eqb i t.shot e) (sym (h.0 e))
    go (no f) ih = rw (ne_eqb i t.shot f) (ih (λ k. o (f, k)))

-- where every term has a sign, the shots with one are the shots of the terms
pub on_shots : (i : ℕ) (ts : List Term) → Signed ts → not (is_nought (sign_on ts i)) ≡ is_on i (shots_of ts)
unfolding is_on
on_shots i [] s = refl
on_shots i (t ∷ ts) s = go (ℕ_discrete i t.shot) (on_shots i ts s.1)
  where
    go : Dec (i ≡ t.shot) → not (is_nought (sign_on ts i)) ≡ is_on i (shots_of ts) → not (is_nought (cond (eqb i t.shot) t.sign (sign_on ts i))) ≡ (eqb i t.shot || is_on i (shots_of ts))
    go (yes e) ih = rw (eq-eqb i t.shot e, s.0) refl
    go (no f) ih = rw (ne_eqb i t.shot f) ih

-- a side of increasing shots is increasing
pub side_within : (s : Sign) (lo n : ℕ) (ts : List Term) → Within lo (shots_of ts) n → Within lo (side s ts) n
unfolding side
side_within s lo n [] w = tt
side_within s lo n (t ∷ ts) w = go (same_sign s t.sign) (side_within s (t.shot + 1) n ts w.2)
  where
    go : (b : Bool) → Within (t.shot + 1) (side s ts) n → Within lo (cond b (t.shot ∷ side s ts) (side s ts)) n
    go true ih = (w.0, w.1, ih)
    go false ih = within_early (t.shot + 1) lo n (side s ts) (let k = w.0 in omega arith) ih

-- ---- the signs of two sides

module _ (z : TwoSides) (i : ℕ) where
  pub plus_on : On z.plus i ↔ (sign_in z i ≡ plus)
  unfolding sign_in
  plus_on = go (is_on i z.plus) (is_on i z.minus)
    where
      go : (a b : Bool) → (a ≡ true) ↔ (cond a plus (cond b minus nought) ≡ plus)
      go true b = (λ e. refl, λ e. refl)
      go false true = (λ e. absurd (false≢true e), λ e. plus_minus (sym e))
      go false false = (λ e. absurd (false≢true e), λ e. plus-nought (sym e))

  pub minus_on : (On z.plus i → On z.minus i → ⊥) → On z.minus i ↔ (sign_in z i ≡ minus)
  unfolding sign_in
  minus_on = go (is_on i z.plus) (is_on i z.minus)
    where
      go : (a b : Bool) → (a ≡ true → b ≡ true → ⊥) → (b ≡ true) ↔ (cond a plus (cond b minus nought) ≡ minus)
      go true true h = absurd (h refl refl)
      go true false h = (λ e. absurd (false≢true e), λ e. plus_minus e)
      go false true h = (λ e. refl, λ e. refl)
      go false false h = (λ e. absurd (false≢true e), λ e. minus-nought (sym e))
