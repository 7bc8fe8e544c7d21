-- A flip's result has no crossing, in any dimension, where the star that it takes out is complete.
--
--   kept_new     a crossing of a kept member with a new one, pushed along the circuit, puts the other side into the kept one
--   new_new      a crossing of two new ones, pushed along the circuit, is one of two members that were there
--
-- Main theorem: `flip_apart`: no two members of the result are separated.
use mathlib.Core.Path.{◌≡◌, refl, ap, sym}
use mathlib.Core.Logic.{⊎_elim}
use mathlib.Core.HLevel.{dec→stable}
use mathlib.Core.List.{List}
use Prim.Native.Nat.{ℕ, ◌<◌}
use lib.IntN.{neg_ℤ}
use Rattle.algebra.specs.Sets.{On}
use Rattle.algebra.specs.Sign.{Side, Sign, Pos, Neg}
use Rattle.algebra.proofs.SignLaws.{dec_pos, pos_cast, pos_nn, neg_nn}
use Rattle.matroid.specs.Configurations.{Configuration}
use Rattle.matroid.specs.Dependencies.{Separated}
use Rattle.matroid.specs.Circuits.{SignVector, Circuit}
use Rattle.matroid.specs.Triangulations.{Family, Triangulation}
use Rattle.matroid.specs.Flips.{Supports, Star, Flip}
use Rattle.matroid.proofs.Search.{dec-not}
use Rattle.matroid.proofs.Dependent.{separated_more, separated_turned}
use Rattle.matroid.proofs.TriangulationLaws.{members_apart}
use Rattle.matroid.proofs.FlipSets.{whole, joined, joined_part, joined_other, points, PutIn, Complete, joined_old, each_after}
use Rattle.matroid.proofs.Pushing.{some_of_side, other_inside}

module _ {n : ℕ} {P : Configuration} {T : Family} {X : SignVector} {s : Sign} (g : Triangulation n P T) (z : Circuit n P X) (d : Side s) (h : Supports n T X s) where
  -- the member that was there, with the same member of the link
  old : (r : PutIn n T X s) (v : ℕ) → v < n → X v ≡ s → T (joined n X v r.link)
  old r v vl e = joined_old g z d h v vl e r.link r.linked

  part : (r : PutIn n T X s) (i : ℕ) → On (points r) i → On (whole n X r.link) i × (i ≡ r.lacks → ⊥)
  part r i = (joined_part n X r.lacks r.link i).0

  kept_new : Complete n T X s → (r : PutIn n T X s) (k : List ℕ) → T k → (Star n T X s s k → ⊥) → Separated n P (On (points r)) (On k) → ⊥
  kept_new full r k m out c = out (full k m (λ i il e. more.right i il (other_inside z d r.link r.linked.2.0 (On k) (λ v vl q. members_apart g (joined n X v r.link) k (old r v vl q) m) more i il e)))
    where
      more : Separated n P (On (whole n X r.link)) (On k)
      more = separated_more c (λ i il o. (part r i o).0) (λ i il o. o)

  -- all of the side on the first's part
  new_new_all : (r u : PutIn n T X s) (c : Separated n P (On (points r)) (On (points u))) → ((v : ℕ) → v < n → X v ≡ s → Pos (c.by v)) → ⊥
  new_new_all r u c every = (part u u.lacks (c.right u.lacks u.low (other_inside z d r.link r.linked.2.0 (λ i. Neg (c.by i)) apart
      (record { by = c.by; dependency = c.dependency; somewhere = c.somewhere; left = λ i il p. (part r i (c.left i il p)).0; right = λ i il p. p }) u.lacks u.low u.side))).1 refl
    where
      apart : (v : ℕ) → v < n → X v ≡ s → Separated n P (On (joined n X v r.link)) (λ i. Neg (c.by i)) → ⊥
      apart v vl e k = members_apart g (joined n X v r.link) (joined n X v u.link) (old r v vl e) (old u v vl e) (separated_more k (λ i il y. y)
          (λ i il y. joined_other n X u.lacks v u.link i (c.right i il y) (λ a. neg_nn y (pos_nn (pos_cast (ap c.by (sym a)) (every v vl e))))))

  new_new : (r u : PutIn n T X s) → Separated n P (On (points r)) (On (points u)) → ⊥
  unfolding separated_turned
  new_new r u c = ⊎_elim
      (λ (a, al, ae, an). ⊎_elim (λ (b, bl, be, bn). both a al ae an b bl be bn) (λ every. new_new_all u r (separated_turned c) (λ v vl e. dec→stable (dec_pos (neg_ℤ (c.by v))) (every v vl e)))
      (some_of_side z d (λ v. Neg (c.by v) → ⊥) (λ v. dec-not (dec_pos (neg_ℤ (c.by v))))))
      (λ every. new_new_all r u c (λ v vl e. dec→stable (dec_pos (c.by v)) (every v vl e))) (some_of_side z d (λ v. Pos (c.by v) → ⊥) (λ v. dec-not (dec_pos (c.by v))))
    where
      both : (a : ℕ) → a < n → X a ≡ s → (Pos (c.by a) → ⊥) → (b : ℕ) → b < n → X b ≡ s → (Neg (c.by b) → ⊥) → ⊥
      both a al ae an b bl be bn = members_apart g (joined n X a r.link) (joined n X b u.link) (old r a al ae) (old u b bl be) (record {
        by = c.by;
        dependency = c.dependency;
        somewhere = c.somewhere;
        left = λ i il p. joined_other n X r.lacks a r.link i (c.left i il p) (λ y. an (pos_cast (ap c.by y) p));
        right = λ i il p. joined_other n X u.lacks b u.link i (c.right i il p) (λ y. bn (pos_cast (ap (λ j. neg_ℤ (c.by j)) y) p));
      })

pub flip_apart : {n : ℕ} {P : Configuration} {T T' : Family} {X : SignVector} {s : Sign} → Triangulation n P T → Circuit n P X → Side s → Flip n T X s T'
    → Complete n T X s → (t u : List ℕ) → T' t → T' u → Separated n P (On t) (On u) → ⊥
flip_apart {n} {P} {T} {T'} g z d f full t u m k = each_after g z d f (λ t. (u : List ℕ) → T' u → Separated n P (On t) (On u) → ⊥)
    (λ t m out. each_after g z d f (λ u. Separated n P (On t) (On u) → ⊥) (λ u k _. members_apart g t u m k) (λ r c. kept_new g z d f.supported full r t m out (separated_turned c)))
    (λ r. each_after g z d f (λ u. Separated n P (On (points r)) (On u) → ⊥) (λ u k out. kept_new g z d f.supported full r u k out) (new_new g z d f.supported r)) t m u k
