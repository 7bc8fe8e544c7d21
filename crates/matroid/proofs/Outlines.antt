-- Triangles over a set of points, their outline, and what holds of both while points are placed one by one.
--
--   TripleSet          a set of triples, as a test of three numbers
--   Has R a b c        a, b and c are a triple of R
--   Lone R a b c       a and b are an edge of one triple of R alone, and c is its third point: an edge of the outline
--   Placed n P A R     the triples R over the points A, of the first n: none flat, no two separated, and for each edge of the outline every point of A, used or
--                      not, is on the inner side or on the line
--   placed_same        the same set of points, said in another way
--   last_two           the last two points of a triple exchanged
--   used_second, used_third, used_among             the points of a triple are points of A
--   first_second, first_third, second_third         they are different
--   lone_swap          an edge of the outline, the other way round
--
-- Main theorem: `second-edge`: the outline goes on, an edge of it at a is followed by another one at a. The pairs that make a triple with a are an even number,
-- and an edge of an odd number of triples is an edge of one.
use mathlib.Core.Path.{◌≡◌, refl, sym, ◌∙◌, ap}
use mathlib.Core.Logic.{inl, inr, ◌↔◌}
use mathlib.Core.Bool.{Bool, true, cond}
use mathlib.Core.HLevel.{dec→stable}
use Prim.Native.Nat.{ℕ, ◌%◌, ◌<◌}
use native.Mathlib.Omega.{arith}
use native.Mathlib.Decide.{ℕ_discrete}
use Rattle.algebra.specs.Loops.{tally}
use Rattle.algebra.specs.Sign.{NN, Neg, NZ, Tri, below, at-nought, above}
use Rattle.algebra.proofs.AnswerLaws.{reflects_false, reflects_stable, reflects_agree, reflects_iff}
use Rattle.algebra.proofs.LoopLaws.{reflects-any, reflects_test}
use Rattle.algebra.proofs.ParityLaws.{all_even, one_odd, two_odd, another_odd, pairs_even}
use Rattle.algebra.proofs.SignLaws.{tri, zero_of_mul, two_alike}
use Rattle.algebra.proofs.TrioLaws.{Among}
use Rattle.matroid.specs.Points.{Points, plane}
use Rattle.matroid.specs.Dependencies.{Separated}
use Rattle.matroid.proofs.Turns.{turn-first}
use Rattle.matroid.proofs.Sides.{turn_at, sides}
use Rattle.matroid.proofs.Corners.{same-side}

abbrev pub TripleSet : Type 0
TripleSet = ℕ → ℕ → ℕ → Bool

abbrev pub Has : TripleSet → ℕ → ℕ → ℕ → Type 0
Has R a b c = R a b c ≡ true

abbrev pub Lone : TripleSet → ℕ → ℕ → ℕ → Type 0
Lone R a b c = Has R a b c × ((d : ℕ) → Has R a b d → d ≡ c)

pub record Placed (n : ℕ) (P : Points) (A : ℕ → Type 0) (R : TripleSet) : Type 0 where
  pub low : (a : ℕ) → A a → a < n
  pub some : (a : ℕ) × (b : ℕ) × (c : ℕ) × Has R a b c
  pub swap : (a b c : ℕ) → Has R a b c → Has R b a c
  pub cycle : (a b c : ℕ) → Has R a b c → Has R b c a
  pub used : (a b c : ℕ) → Has R a b c → A a
  pub full : (a b c : ℕ) → Has R a b c → NZ (turn_at P a b c)
  pub apart : (a b c d e f : ℕ) → Has R a b c → Has R d e f → Separated n (plane P) (Among a b c) (Among d e f) → ⊥
  pub outer : (a b c x : ℕ) → Lone R a b c → A x → NN (sides P a b c x)

pub placed_same : {n : ℕ} {P : Points} {A B : ℕ → Type 0} {R : TripleSet} → ((x : ℕ) → A x ↔ B x) → Placed n P A R → Placed n P B R
placed_same e g = record {
  low = λ a k. g.low a ((e a).1 k);
  some = g.some;
  swap = g.swap;
  cycle = g.cycle;
  used = λ a b c h. (e a).0 (g.used a b c h);
  full = g.full;
  apart = g.apart;
  outer = λ a b c x h k. g.outer a b c x h ((e x).1 k);
}

-- a test as a number, and how many of the first n numbers pass
abbrev mark : Bool → ℕ
mark t = cond t 1 0

abbrev count : ℕ → (ℕ → Bool) → ℕ
count n f = tally n (λ i. mark (f i))

module _ {n : ℕ} {P : Points} {A : ℕ → Type 0} {R : TripleSet} (g : Placed n P A R) where
  -- ---- one triple

  pub last_two : (a b c : ℕ) → Has R a b c → Has R a c b
  last_two a b c h = g.cycle b a c (g.swap a b c h)

  pub used_second : (a b c : ℕ) → Has R a b c → A b
  used_second a b c h = g.used b c a (g.cycle a b c h)

  pub used_third : (a b c : ℕ) → Has R a b c → A c
  used_third a b c h = used_second b c a (g.cycle a b c h)

  pub used_among : (a b c x : ℕ) → Has R a b c → Among a b c x → A x
  used_among a b c x h (inl e) = rw e (g.used a b c h)
  used_among a b c x h (inr (inl e)) = rw e (used_second a b c h)
  used_among a b c x h (inr (inr e)) = rw e (used_third a b c h)

  third_low : (a b c : ℕ) → Has R a b c → c < n
  third_low a b c h = g.low c (used_third a b c h)

  pub first_second : (a b c : ℕ) → Has R a b c → b ≡ a → ⊥
  first_second a b c h e = g.full a b c h (ap (λ (i : ℕ). turn_at P a i c) e ∙ turn-first (P a) (P c))

  pub first_third : (a b c : ℕ) → Has R a b c → c ≡ a → ⊥
  first_third a b c h = first_second a c b (last_two a b c h)

  pub second_third : (a b c : ℕ) → Has R a b c → c ≡ b → ⊥
  second_third a b c h = first_second b c a (g.cycle a b c h)

  pub lone_swap : (a b c : ℕ) → Lone R a b c → Lone R b a c
  lone_swap a b c h = (g.swap a b c h.0, λ d k. h.1 d (g.swap b a d k))

  -- ---- one edge

  -- the third points of an edge are on opposite sides
  opposite_thirds : (a b c d : ℕ) → Has R a b c → Has R a b d → (c ≡ d → ⊥) → Neg (sides P a b c d)
  opposite_thirds a b c d h k cd = go (tri (sides P a b c d))
    where
      go : Tri (sides P a b c d) → Neg (sides P a b c d)
      go (below p) = p
      go (at-nought e) = absurd (g.full a b d k (zero_of_mul (g.full a b c h) e))
      go (above p) = absurd (g.apart a b c a b d h k (same-side P n a b c d (g.low a (g.used a b c h)) (g.low b (used_second a b c h)) (third_low a b c h) (third_low a b d k) (λ e. cd (sym e)) p))

  at_most_two : (a b c d e : ℕ) → Has R a b c → Has R a b d → Has R a b e → (c ≡ d → ⊥) → (c ≡ e → ⊥) → (d ≡ e → ⊥) → ⊥
  at_most_two a b c d e h k l cd ce de =
      two_alike (turn_at P a b c) (turn_at P a b d) (turn_at P a b e) (opposite_thirds a b c d h k cd) (opposite_thirds a b c e h l ce) (opposite_thirds a b d e k l de)

  odd_mark : (a b c : ℕ) → Has R a b c → mark (R a b c) % 2 ≡ 1
  odd_mark a b c h = rw h refl

  even_mark : (a b c : ℕ) → (Has R a b c → ⊥) → mark (R a b c) % 2 ≡ 0
  even_mark a b c h = rw (reflects_false (reflects_test (R a b c)) h) refl

  lone_odd : (a b : ℕ) → count n (R a b) % 2 ≡ 1 → (c : ℕ) × Lone R a b c
  lone_odd a b o = let (c, _, h) = some in (c, (h, λ d k. dec→stable (ℕ_discrete d c) (two c d h k)))
    where
      some : (c : ℕ) × (c < n) × Has R a b c
      some = reflects_stable (reflects-any (Has R a b) (R a b) n (λ c _. reflects_test (R a b c)))
          (λ none. let z = all_even (λ c. mark (R a b c)) n (λ c l. even_mark a b c (λ h. none (c, l, h))) in omega arith)

      two : (c d : ℕ) → Has R a b c → Has R a b d → (d ≡ c → ⊥) → ⊥
      two c d h k ne =
          let z = two_odd (λ e. mark (R a b e)) n d c (third_low a b d k) (third_low a b c h) ne (odd_mark a b d k) (odd_mark a b c h)
          (λ e _ ed ec. even_mark a b e (λ j. at_most_two a b e d c j k h ed ec ne)) in
          omega arith

  -- ---- one point

  pub second-edge : (a b c : ℕ) → Lone R a b c → (b' : ℕ) × (c' : ℕ) × (b' ≡ b → ⊥) × Lone R a b' c'
  second-edge a b c h =
      let (b', _, (ne, o)) = another_odd (λ y. count n (R a y)) n b (g.low b (used_second a b c h.0)) once (pairs_even n (λ y z. mark (R a y z)) alike (λ y. even_mark a y y (λ k. second_third a y y k refl))) in
      let (c', k) = lone_odd a b' o in
      (b', c', ne, k)
    where
      once : count n (R a b) % 2 ≡ 1
      once = one_odd (λ d. mark (R a b d)) n c (third_low a b c h.0) (odd_mark a b c h.0) (λ d _ ne. even_mark a b d (λ k. ne (h.1 d k)))

      alike : (y z : ℕ) → mark (R a y z) ≡ mark (R a z y)
      alike y z = ap mark (reflects_agree (reflects_test (R a y z)) (reflects_iff (last_two a z y, last_two a y z) (reflects_test (R a z y))))
