-- A flip's result has no open face, in any dimension: each face of a member is a face of another member, or a border face,
-- where the star that the flip takes out is complete, and this is so for the faces that leave out a point of the link.
--
--   LinkShut n P T X s T'   the faces of new members that leave out a point of the link, which is one off the circuit, are shut
--   comes        what the flip puts in is in the result
--   shut_by      by a member that has the face and lacks the point that it leaves out
--   shut_kept    the faces of a kept member: the neighbour stays, or a new one takes its place
--   shut-side    a face of a new member that leaves out a point of the side: the neighbour of the old member without that point
--   shut_other   one that leaves out a point of the other side: the new member without that point
--
-- Main theorem: `flip_shut`.
use mathlib.Core.Path.{◌≡◌, refl, sym, ◌∙◌, subst}
use mathlib.Core.Logic.{◌⊎◌, inl, inr, ⊎_elim, ◌↔◌}
use mathlib.Core.HLevel.{dec→stable}
use mathlib.Core.List.{List}
use Prim.Native.Nat.{ℕ, ◌<◌}
use native.Mathlib.Decide.{ℕ_discrete}
use Rattle.algebra.specs.Sets.{On, dropped}
use Rattle.algebra.specs.Sign.{Side, Sign, nought, opposite}
use Rattle.algebra.proofs.AnswerLaws.{reflects_dec, is-nought}
use Rattle.algebra.proofs.SetTests.{dec_on, on_low, subset_same, dropped_within}
use Rattle.algebra.proofs.SignLaws.{other-side}
use Rattle.algebra.proofs.UnionLaws.{on_without}
use Rattle.matroid.specs.Configurations.{Configuration}
use Rattle.matroid.specs.Circuits.{SignVector, Circuit}
use Rattle.matroid.specs.Triangulations.{Family, Face, Triangulation}
use Rattle.matroid.specs.Flips.{Star, Flip}
use Rattle.matroid.proofs.Search.{dec-not}
use Rattle.matroid.proofs.TriangulationLaws.{Shut, face_drops}
use Rattle.matroid.proofs.FlipLaws.{star_holds, put_in_new}
use Rattle.matroid.proofs.FlipSets.{whole, joined, joined_part, joined_other, InStar, points, PutIn, Complete, star_out, star_in, joined_old, new_simplex, each_after}
use Rattle.matroid.proofs.Pushing.{which-side, some_of_side}

abbrev pub LinkShut : ℕ → Configuration → Family → SignVector → Sign → Family → Type 0
LinkShut n P T X s T' = (r : PutIn n T X s) (x : ℕ) → On (points r) x → X x ≡ nought → Face n P (dropped n x (points r)) (points r) → Shut n P T' (dropped n x (points r)) (points r)

pub shut_by : (n : ℕ) (P : Configuration) (T : Family) (e t u : List ℕ) (x : ℕ) → Face n P e t → On t x → T u → ((i : ℕ) → On e i → On u i) → (On u x → ⊥) → Shut n P T e t
shut_by n P T e t u x h on m sub off = inr (u, m, (λ q. off (subst (λ (w : List ℕ). On w x) (sym q) on)), (h.0, h.1, sub))

module _ {n : ℕ} {P : Configuration} {T T' : Family} {X : SignVector} {s : Sign} (g : Triangulation n P T) (z : Circuit n P X) (d : Side s) (f : Flip n T X s T') where
  pub comes : (r : PutIn n T X s) → T' (points r)
  comes r = (f.exchanged (points r)).1 (inr (star_in g z (other-side s d) r))

  stays : (t : List ℕ) → T t → (Star n T X s s t → ⊥) → T' t
  stays t m k = (f.exchanged t).1 (inl (m, k))

  -- what was there is not what is put in
  old_new : (t : List ℕ) → T t → (r : PutIn n T X s) → t ≡ points r → ⊥
  old_new t m r e = put_in_new g z d (points r) (star_in g z (other-side s d) r) (subst T e m)

  -- the new member with the same member of the link, without the point w
  abbrev instead : {q : Sign} → InStar n T X s q → (w : ℕ) → w < n → X w ≡ opposite s → PutIn n T X s
  instead r w wl ws = record { lacks = w; low = wl; side = ws; link = r.link; linked = r.linked }

  -- ---- the faces of a kept member

  -- a member has not all of the other side, or is taken out
  abbrev Free : List ℕ → Type 0
  Free t = (w : ℕ) × (w < n) × (X w ≡ opposite s) × (On t w → ⊥)

  free_or_star : Complete n T X s → (t : List ℕ) → T t → Free t ⊎ Star n T X s s t
  free_or_star full t m = ⊎_elim inl (λ none. inr (full t m (λ i il e. dec→stable (dec_on i t) (none i il e)))) (some_of_side z (other-side s d) (λ w. On t w → ⊥) (λ w. dec-not (dec_on w t)))

  shut_kept : Complete n T X s → (t : List ℕ) → T t → (Star n T X s s t → ⊥) → (e : List ℕ) → Face n P e t → Shut n P T' e t
  shut_kept full t m k e h = ⊎_elim inl (λ (u, mu, ne, h'). inr (by u mu ne h' (free_or_star full t m) (free_or_star full u mu))) (g.up t m e h)
    where
      by : (u : List ℕ) → T u → (u ≡ t → ⊥) → Face n P e u → Free t ⊎ Star n T X s s t → Free u ⊎ Star n T X s s u → (u : List ℕ) × T' u × (u ≡ t → ⊥) × Face n P e u
      by u mu ne h' (inr y) _ = absurd (k y)
      by u mu ne h' (inl _) (inl (w, wl, ws, off)) = (u, stays u mu (λ y. off (star_holds n X d u y w wl ws)), ne, h')
      by u mu ne h' (inl (w, wl, ws, off)) (inr y) =
          let (r, q) = star_out g z d u y in
          let new = instead r w wl ws in
          let on : (i : ℕ) → On e i → On (points new) i = λ i o. joined_other n X r.lacks w r.link i (subst (λ (v : List ℕ). On v i) q (h'.2 i o)) (λ a. off (subst (On t) a (h.2 i o))) in
          (points new, comes new, (λ a. old_new t m new (sym a)), (h.0, h.1, on))

  -- ---- the faces of a new member

  module _ (r : PutIn n T X s) (x : ℕ) (on : On (points r) x) (h : Face n P (dropped n x (points r)) (points r)) where
    abbrev e : List ℕ
    e = dropped n x (points r)

    on_face : (i : ℕ) → On e i ↔ (On (points r) i × (i ≡ x → ⊥))
    on_face = on_without n x (points r) (dropped_within n r.lacks (whole n X r.link))

    -- the face is in what lacks the point that it leaves out
    face_other : (i : ℕ) → On e i → On (joined n X x r.link) i
    face_other i o = let (y, ne) = (on_face i).0 o in joined_other n X r.lacks x r.link i y ne

    xl : x < n
    xl = (on_low (points r) 0 n x (dropped_within n r.lacks (whole n X r.link)) on).1

    shut-side : X x ≡ s → Shut n P T' e (points r)
    shut-side xs = ⊎_elim inl (λ (u, mu, ne, h'). inr (u, stays u mu (gone u mu ne h'), old_new u mu r, h')) (g.up o om e (h.0, h.1, face_other))
      where
        o : List ℕ
        o = joined n X x r.link

        om : T o
        om = joined_old g z d f.supported x xl xs r.link r.linked

        -- the old member is the face and the point that the new one lacks
        filled : (u : List ℕ) → Face n P e u → On u r.lacks → (i : ℕ) → On o i → On u i
        filled u h' ol i y = at (ℕ_discrete i r.lacks)
          where
            at : Dec (i ≡ r.lacks) → On u i
            at (yes q) = subst (On u) (sym q) ol
            at (no k) = h'.2 i ((on_face i).1 (joined_other n X x r.lacks r.link i y k, ((joined_part n X x r.link i).0 y).1))

        gone : (u : List ℕ) → T u → (u ≡ o → ⊥) → Face n P e u → Star n T X s s u → ⊥
        gone u mu ne h' y =
            let a = g.simplices o om in
            let b = g.simplices u mu in
            ne (sym (subset_same o u n a.within b.within (filled u h' (star_holds n X d u y r.lacks r.low r.side)) (a.size ∙ sym b.size)))

    shut_other : X x ≡ opposite s → Shut n P T' e (points r)
    shut_other xs = shut_by n P T' e (points r) (joined n X x r.link) x h on (comes (instead r x xl xs)) face_other (λ o. ((joined_part n X x r.link x).0 o).1 refl)

    shut_new : LinkShut n P T X s T' → Shut n P T' e (points r)
    shut_new link = go (reflects_dec (is-nought (X x)))
      where
        go : Dec (X x ≡ nought) → Shut n P T' e (points r)
        go (yes q) = link r x on q h
        go (no q) = ⊎_elim shut-side shut_other (which-side z d x xl q)

  pub flip_shut : Complete n T X s → LinkShut n P T X s T' → (t : List ℕ) → T' t → (e : List ℕ) → Face n P e t → Shut n P T' e t
  flip_shut full link = each_after g z d f (λ t. (e : List ℕ) → Face n P e t → Shut n P T' e t) (shut_kept full) new
    where
      new : (r : PutIn n T X s) (e : List ℕ) → Face n P e (points r) → Shut n P T' e (points r)
      new r e h =
          let k = new_simplex g z d f.supported r in
          let (x, on, q) = face_drops n P e (points r) k.within k.size h in
          subst (λ (u : List ℕ). Shut n P T' u (points r)) (sym q) (shut_new r x on (subst (λ (u : List ℕ). Face n P u (points r)) q h) link)
