-- Laws of sides as masks.
--
--   below-begun, below-joined, below-three    the shots so far stay below a larger one
--   Signed ts       no term's sign is nought
--   gather z s ts   the terms ts joined to z, those of sign s on its plus side
--   masks-split     a circuit's masks are its terms gathered one by one
use Rattle.std.specs.Prelude.{◌≡◌, ℕ, suc, ◌+◌, ◌^◌, ◌<◌, Bool, true, false, cond, not, List, [], ◌∷◌}
use mathlib.Core.Path.{refl, sym, ◌∙◌, ap}
use mathlib.Core.Bool.{true≢false}
use native.Mathlib.Omega.{arith}
use lib.Pow.{pow_pos, pow_mono}
use Rattle.algebra.specs.Sign.{Sign, opposite, is_nought, same_sign}
use Rattle.algebra.proofs.SignLaws.{same_self, turned_other}
use Rattle.circuits.specs.declared.Sides.{Sides}
use Rattle.circuits.specs.Sides.{Term, side, split, masks}
use Rattle.circuits.specs.Joined.{begun, joined, sides3, Below}
use Rattle.algebra.specs.Sets.{mask_of}

pub below-begun : (i j : ℕ) → i < j → Below (begun i) j
below-begun i j h = (omega (arith, pow_mono {i = suc i} {j = j} h, pow_pos i), pow_pos j)

pub below-joined : (z : Sides) (i j : ℕ) (s : Bool) → Below z i → i < j → Below (joined z i s) j
below-joined z i j true b h = (omega (arith, pow_mono {i = suc i} {j = j} h, b.0), omega (arith, pow_mono {i = suc i} {j = j} h, b.1))
below-joined z i j false b h = (omega (arith, pow_mono {i = suc i} {j = j} h, b.0), omega (arith, pow_mono {i = suc i} {j = j} h, b.1))

pub below-three : (a b c d : ℕ) (p q : Bool) → a < b → b < c → c < d → Below (sides3 a b c p q) d
below-three a b c d p q h k l = below-joined (joined (begun a) b p) c d q (below-joined (begun a) b c p (below-begun a b h) k) l

-- ---- sides shot by shot

abbrev pub gather : Sides → Sign → List Term → Sides
gather z s [] = z
gather z s (t ∷ ts) = gather (joined z t.shot (same_sign s t.sign)) s ts

-- no sign is nought
abbrev pub Signed : List Term → Type 0
Signed [] = Unit {0}
Signed (t ∷ ts) = (is_nought t.sign ≡ false) × Signed ts

sides_path : {p p' m m' : ℕ} → p ≡ p' → m ≡ m' → ◌≡◌ {A = Sides} (record { plus = p; minus = m }) (record { plus = p'; minus = m' })
sides_path e f = λ k. record { plus = e k; minus = f k }

gather_is : (z : Sides) (s : Sign) (ts : List Term) → is_nought s ≡ false → Signed ts → gather z s ts ≡ record { plus = z.plus + mask_of (side s ts); minus = z.minus + mask_of (side (opposite s) ts) }
unfolding mask_of side
gather_is z s [] h k = sides_path (omega arith) (omega arith)
gather_is z s (t ∷ ts) h k = gather_is (joined z t.shot (same_sign s t.sign)) s ts h k.1 ∙ go (same_sign s t.sign) (same_sign (opposite s) t.sign) (turned_other s t.sign h k.0)
  where
    p : ℕ
    p = mask_of (side s ts)

    m : ℕ
    m = mask_of (side (opposite s) ts)

    go : (a b : Bool) → b ≡ not a
        → ◌≡◌ {A = Sides} (record { plus = (joined z t.shot a).plus + p; minus = (joined z t.shot a).minus + m })
        (record { plus = z.plus + mask_of (cond a (t.shot ∷ side s ts) (side s ts)); minus = z.minus + mask_of (cond b (t.shot ∷ side (opposite s) ts) (side (opposite s) ts)) })
    go true true e = absurd (true≢false e)
    go true false e = sides_path (omega arith) refl
    go false true e = sides_path refl (omega arith)
    go false false e = absurd (true≢false (sym e))

pub masks-split : (t : Term) (ts : List Term) → Signed (t ∷ ts) → gather (begun t.shot) t.sign ts ≡ masks (split (t ∷ ts))
unfolding split mask_of side
masks-split t ts h = gather_is (begun t.shot) t.sign ts h.0 h.1 ∙ go (same_sign t.sign t.sign) (same_sign (opposite t.sign) t.sign) (same_self t.sign) (turned_other t.sign t.sign h.0 h.0 ∙ ap not (same_self t.sign))
  where
    go : (a b : Bool) → a ≡ true → b ≡ false
        → ◌≡◌ {A = Sides} (record { plus = 2 ^ t.shot + mask_of (side t.sign ts); minus = 0 + mask_of (side (opposite t.sign) ts) })
        (record { plus = mask_of (cond a (t.shot ∷ side t.sign ts) (side t.sign ts)); minus = mask_of (cond b (t.shot ∷ side (opposite t.sign) ts) (side (opposite t.sign) ts)) })
    go true b e f = sides_path refl (rw f (omega arith))
    go false b e f = absurd (true≢false (sym e))
