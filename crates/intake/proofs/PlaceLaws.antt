-- Coordinates that are handed out, by whole factors: how they are made, said without an operation.
--
--   placed_taken       each operation is rounded once, and the nearest whole number is taken
--   taken-only         no other x and y are so; `metres_placed`: in metres not even by other factors
--   edition-factors    the foot of an edition has the edition's factors; `placed_edition`: so its coordinates are taken by these
use mathlib.Core.Path.{◌≡◌, refl, ◌∙◌, ap, subst}
use mathlib.Core.Bool.{Bool, false}
use mathlib.Core.List.{List}
use Prim.Native.Nat.{ℕ, ◌*◌, ◌^◌, ◌≤◌, ◌<◌}
use native.Mathlib.Nat.{mul_left_comm, mul-pos}
use native.Mathlib.Omega.{arith}
use lib.IntN.{ℤ}
use lib.Ieee.{Float}
use lib.Ieee.Positive.{num, den, den_pos}
use Rattle.shots.specs.Coordinates.{x_of, y_of}
use Rattle.intake.specs.Once.{Once}
use Rattle.intake.specs.Scaling.{factors, foot_of, of_metres, of_feet, scaled_of, InMetres}
use Rattle.intake.specs.Places.{PlacedAt, FromMetres, FromFeet, TakenAt, Edition, survey, international}
use Rattle.intake.specs.Tests.{edition_rule}
use Rattle.intake.specs.declared.Shot.{Shot}
use Rattle.intake.specs.declared.Shot.TheVariants.{Metres, Feet}
use Rattle.intake.specs.declared.Foot.{Foot}
use Rattle.intake.proofs.Nearness.{nearest_valued}
use Rattle.intake.proofs.Rounded.{once_valued, metres_once, feet_once}

metres-only : (x : Float) (j k : ℤ) → FromMetres x j → FromMetres x k → j ≡ k
metres-only x j k (y, a, p) (z, b, q) = let (s, e) = once_valued (num x * 1000) (num x * 1000) (den x) (den x) (den_pos x) (den_pos x) refl a b in nearest_valued s e p q

pub metres_placed : (t o t' o' : ℕ) (s : Shot) → InMetres s → (c c' : List ℤ) (i : ℕ) → TakenAt t o s c i → TakenAt t' o' s c' i → (x_of c i ≡ x_of c' i) × (y_of c i ≡ y_of c' i)
metres_placed t o t' o' (Metres e n) h c c' i (p, q) (u, v) = (metres-only e (x_of c i) (x_of c' i) p u, metres-only n (y_of c i) (y_of c' i) q v)
metres_placed t o t' o' (Feet e n) h c c' i p q = absurd h

module _ (t o : ℕ) (O : 0 < o) where
  pub placed_taken : t ≤ 2 ^ 53 → o ≤ 2 ^ 53 → (s : Shot) (c : List ℤ) (i : ℕ) → PlacedAt (factors t o) s c i → TakenAt t o s c i
  unfolding scaled_of
  placed_taken h g (Metres e n) c i (p, q) = ((of_metres e, metres_once e p.is_finite, p), (of_metres n, metres_once n q.is_finite, q))
  placed_taken h g (Feet e n) c i (p, q) = ((of_feet (factors t o) e, feet_once t o h g O e p.is_finite, p), (of_feet (factors t o) n, feet_once t o h g O n q.is_finite, q))

  feet-only : (x : Float) (j k : ℤ) → FromFeet t o x j → FromFeet t o x k → j ≡ k
  feet-only x j k (y, a, p) (z, b, q) =
      let (s, e) = once_valued (num x * t) (num x * t) (den x) (den x) (den_pos x) (den_pos x) refl a.first b.first in
      let d = a.product in
      let f = b.product in
      let across : num d * (o * den f) ≡ num f * (o * den d) = mul_left_comm (num d) o (den f) ∙ ap (λ (m : ℕ). o * m) e ∙ mul_left_comm o (num f) (den d) in
      let (u, v) = once_valued (num d) (num f) (o * den d) (o * den f) (mul-pos O (den_pos d)) (mul-pos O (den_pos f)) across (subst (λ (b : Bool). Once y b (num d) (o * den d)) s a.then) b.then in
      nearest_valued u v p q

  pub taken-only : (s : Shot) (c c' : List ℤ) (i : ℕ) → TakenAt t o s c i → TakenAt t o s c' i → (x_of c i ≡ x_of c' i) × (y_of c i ≡ y_of c' i)
  taken-only (Metres e n) c c' i p q = metres_placed t o t o (Metres e n) tt c c' i p q
  taken-only (Feet e n) c c' i (p, q) (u, v) = (feet-only e (x_of c i) (x_of c' i) p u, feet-only n (y_of c i) (y_of c' i) q v)

-- ---- an edition's factors

pub edition-factors : {e t o : ℕ} → Edition e t o → (foot_of e ≡ factors t o) × ((edition_rule e).broken ≡ false) × ((t ≤ 2 ^ 53) × (o ≤ 2 ^ 53) × (0 < o))
unfolding foot_of
edition-factors survey = (refl, refl, (omega arith, omega arith, omega arith))
edition-factors international = (refl, refl, (omega arith, omega arith, omega arith))

pub placed_edition : {e t o : ℕ} → Edition e t o → (s : Shot) (c : List ℤ) (i : ℕ) → PlacedAt (foot_of e) s c i → TakenAt t o s c i
placed_edition {e} {t} {o} d s c i q = let (p, _, (h, g, O)) = edition-factors d in placed_taken t o O h g s c i (subst (λ (foot : Foot). PlacedAt foot s c i) p q)
