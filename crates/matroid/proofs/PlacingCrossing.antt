-- A point that is placed is joined to every edge of the outline that it sees. No two triples, before or after, are then separated.
--
--   Sees P R m a b            a and b are an edge of the outline, and m is strictly on its other side; `sees_turned`: the edge the other way round
--   SeenTriple P R m a b c    one of a, b, c is m, and it sees the edge of the other two; `seen_swap`, `seen_cycle`: in another order
--   After P R m a b c         a triple so far, or such a triple
--
-- Main theorem: `after_apart`. The line of a seen edge has m on one side and all points so far on the other, so a dependency that is negative at m and positive only
-- at points so far does not weigh the sides of that line to 0.
use mathlib.Core.Path.{◌≡◌, sym, ◌∙◌, ap, subst}
use mathlib.Core.Logic.{◌⊎◌, inl, inr, ⊎_elim}
use Prim.Native.Nat.{ℕ, ◌<◌}
use lib.IntN.{ℤ, pos, neg_ℤ, ◌*ℤ◌, neg_ℤ-neg_ℤ}
use Rattle.algebra.specs.Sign.{Pos, NN, Neg, Tri, below, at-nought, above}
use Rattle.algebra.proofs.SignLaws.{tri, pos_cast, nn_cast, neg-mul, nn-mul, nn-zero, pos_nn, pos-zero, neg_nn, mul-zero, zero-mul}
use Rattle.algebra.proofs.SumLaws.{nn_sum_zero}
use Rattle.algebra.proofs.TrioLaws.{Among, among_cycle}
use Rattle.matroid.specs.Points.{Points, plane}
use Rattle.matroid.specs.Dependencies.{Separated}
use Rattle.matroid.proofs.Dependent.{separated_turned}
use Rattle.matroid.proofs.Sides.{sides, sides_swap, sides_first, sides_second, sides_balance}
use Rattle.matroid.proofs.Outlines.{TripleSet, Has, Lone, Placed, used_among, lone_swap}

abbrev pub Sees : Points → TripleSet → ℕ → ℕ → ℕ → Type 0
Sees P R m a b = (v : ℕ) × Lone R a b v × Neg (sides P a b v m)

abbrev pub SeenTriple : Points → TripleSet → ℕ → ℕ → ℕ → ℕ → Type 0
SeenTriple P R m a b c = ((a ≡ m) × Sees P R m b c) ⊎ ((b ≡ m) × Sees P R m c a) ⊎ ((c ≡ m) × Sees P R m a b)

abbrev pub After : Points → TripleSet → ℕ → ℕ → ℕ → ℕ → Type 0
After P R m a b c = Has R a b c ⊎ SeenTriple P R m a b c

module _ {n : ℕ} {P : Points} {A : ℕ → Type 0} {R : TripleSet} (g : Placed n P A R) (m : ℕ) where
  pub sees_turned : (a b : ℕ) → Sees P R m a b → Sees P R m b a
  sees_turned a b (v, h, s) = (v, lone_swap g a b v h, pos_cast (ap neg_ℤ (sides_swap P a b v m)) s)

  pub seen_swap : (a b c : ℕ) → SeenTriple P R m a b c → SeenTriple P R m b a c
  seen_swap a b c (inl (e, s)) = inr (inl (e, sees_turned b c s))
  seen_swap a b c (inr (inl (e, s))) = inl (e, sees_turned c a s)
  seen_swap a b c (inr (inr (e, s))) = inr (inr (e, sees_turned a b s))

  pub seen_cycle : (a b c : ℕ) → SeenTriple P R m a b c → SeenTriple P R m b c a
  seen_cycle a b c (inl k) = inr (inr k)
  seen_cycle a b c (inr (inl k)) = inl k
  seen_cycle a b c (inr (inr k)) = inr (inl k)

  module _ (mn : m < n) (fresh : A m → ⊥) where
    -- the points S are those of a triple so far, or two of them and m beyond their edge
    record Over (S : ℕ → Type 0) : Type 0 where
      a : ℕ
      b : ℕ
      v : ℕ
      there : Has R a b v
      rest : (x : ℕ) → S x → (x ≡ m → ⊥) → Among a b v x
      beyond : S m → Lone R a b v × Neg (sides P a b v m) × ((x : ℕ) → S x → Among a b m x)

    edge-over : (S : ℕ → Type 0) (a b : ℕ) → Sees P R m a b → ((x : ℕ) → S x → Among a b m x) → Over S
    edge-over S a b (v, h, s) k =
        record { a = a; b = b; v = v; there = h.0; rest = λ x i ne. ⊎_elim inl (λ o. inr (⊎_elim inl (λ e. absurd (ne e)) o)) (k x i); beyond = λ _. (h, s, k) }

    over : (a b c : ℕ) → After P R m a b c → Over (Among a b c)
    over a b c (inl h) = record { a = a; b = b; v = c; there = h; rest = λ x k _. k; beyond = λ k. absurd (fresh (used_among g a b c m h k)) }
    over a b c (inr (inl (e, s))) = edge-over (Among a b c) b c s (λ x o. subst (λ (i : ℕ). Among b c i x) e (among_cycle a b c x o))
    over a b c (inr (inr (inl (e, s)))) = edge-over (Among a b c) c a s (λ x o. subst (λ (i : ℕ). Among c a i x) e (among_cycle b c a x (among_cycle a b c x o)))
    over a b c (inr (inr (inr (e, s)))) = edge-over (Among a b c) a b s (λ x o. subst (λ (i : ℕ). Among a b i x) e o)

    module _ {S T : ℕ → Type 0} (o : Over S) (k : Over T) (c : Separated n (plane P) S T) where
      -- m on the minus side: weigh the sides of the edge that it sees
      through : Neg (c.by m) → ⊥
      through h = pos-zero at_m (nn_sum_zero n term each (sides_balance P n c.by c.dependency k.a k.b k.v) m mn)
        where
          side : ℕ → ℤ
          side i = sides P k.a k.b k.v i

          term : ℕ → ℤ
          term i = c.by i *ℤ side i

          seen : Lone R k.a k.b k.v × Neg (side m) × ((x : ℕ) → T x → Among k.a k.b m x)
          seen = k.beyond (c.right m mn h)

          at_m : Pos (term m)
          at_m = neg-mul (c.by m) (side m) h seen.1

          beside : (i : ℕ) → Among k.a k.b m i → NN (term i)
          beside i (inl e) = nn-zero (mul-zero (c.by i) (sides_first P k.a k.b k.v i e))
          beside i (inr (inl e)) = nn-zero (mul-zero (c.by i) (sides_second P k.a k.b k.v i e))
          beside i (inr (inr e)) = nn_cast (ap term (sym e)) (pos_nn at_m)

          each : (i : ℕ) → i < n → NN (term i)
          each i l = go (tri (c.by i))
            where
              go : Tri (c.by i) → NN (term i)
              go (above p) = nn-mul (pos_nn p) (g.outer k.a k.b k.v i seen.0
                  (used_among g o.a o.b o.v i o.there (o.rest i (c.left i l p) (λ e. neg_nn h (pos_nn (pos_cast (ap c.by e) p))))))
              go (at-nought e) = nn-zero (zero-mul (side i) e)
              go (below p) = beside i (seen.2 i (c.right i l p))

      -- m on neither side: the triples so far are separated
      without : c.by m ≡ pos 0 → ⊥
      without z = g.apart o.a o.b o.v k.a k.b k.v o.there k.there (record {
        by = c.by;
        dependency = c.dependency;
        somewhere = c.somewhere;
        left = λ i l p. o.rest i (c.left i l p) (λ e. pos-zero p (ap c.by e ∙ z));
        right = λ i l p. k.rest i (c.right i l p) (λ e. pos-zero p (ap neg_ℤ (ap c.by e ∙ z)));
      })

    over_apart : {S T : ℕ → Type 0} → Over S → Over T → Separated n (plane P) S T → ⊥
    unfolding separated_turned
    over_apart o k c = go (tri (c.by m))
      where
        go : Tri (c.by m) → ⊥
        go (below h) = through o k c h
        go (at-nought e) = without o k c e
        go (above h) = through k o (separated_turned c) (pos_cast (sym (neg_ℤ-neg_ℤ (c.by m))) h)

    pub after_apart : (a b c d e f : ℕ) → After P R m a b c → After P R m d e f → Separated n (plane P) (Among a b c) (Among d e f) → ⊥
    after_apart a b c d e f h k = over_apart (over a b c h) (over d e f k)
