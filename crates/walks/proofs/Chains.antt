-- Chains over ranges: what algebra's laws of chains have not.
--
--   downto m k      the k numbers from m on, the last first
--   road_down       a range that is gone through from its end yields them
--   any_downto      of the first m + k numbers one passes: one of these k, or one of the first m
--   any_behind      the same of the first n numbers, those behind the first m and the others
use Rattle.std.specs.Prelude.{◌≡◌, ℕ, zero, suc, ◌+◌, ◌-◌, ◌<◌, min, Bool, true, false, ◌||◌, List, [], ◌∷◌, length}
use mathlib.Core.Path.{refl, sym, ◌∙◌, ap, subst}
use native.Mathlib.Decide.{dec_lt}
use native.Mathlib.Omega.{arith}
use Rattle.std.specs.declared.iter.Rev.{Rev}
use Rattle.std.specs.declared.ops.Range.{Range}
use Rattle.std.specs.Iterator.Adapters.{rev_source, rev_steps}
use Rattle.std.specs.Range.{range_steps_back}
use Rattle.std.specs.List.{list_any}
use Rattle.std.proofs.lemmas.Iterator.{YieldsList}
use Rattle.std.proofs.lemmas.Iterator.Consumers.{YieldsList-from_shown}
use Rattle.algebra.specs.Loops.{any}

-- ---- from the last number down

abbrev pub downto : ℕ → ℕ → List ℕ
downto m zero = []
downto m (suc k) = (m + k) ∷ downto m k

long : (m k : ℕ) → k ≡ 0 → length (downto m k) ≡ 0
long m k e = ap (λ j. length (downto m j)) e

turn : (a k b j x : ℕ) → k ≡ suc j → x ≡ a + j → b ≡ a → downto a k ≡ x ∷ downto b j
turn a k b j x e f g = ap (downto a) e ∙ (λ i. sym f i ∷ downto (sym g i) j)

pub road_down : (a b : ℕ) → {s : Rev (Range ℕ)} → rev_source s ≡ record { start = a; end = b } → YieldsList (rev_steps (range_steps_back (λ x y. y - x) (λ x y. y ≡ x + 1))) (λ x. x) s (downto a (b - a))
road_down a b {s} e = subst (λ (r : Range ℕ). YieldsList (rev_steps (range_steps_back (λ x y. y - x) (λ x y. y ≡ x + 1))) (λ x. x) s (downto r.start (r.end - r.start))) e
    (YieldsList-from_shown (rev_steps (range_steps_back (λ x y. y - x) (λ x y. y ≡ x + 1))) (λ x. x) (λ u. downto (rev_source u).start ((rev_source u).end - (rev_source u).start))
    (λ u t p. long (rev_source u).start ((rev_source u).end - (rev_source u).start) p.1.0)
    (λ u x t p. turn (rev_source u).start ((rev_source u).end - (rev_source u).start) (rev_source t).start ((rev_source t).end - (rev_source t).start) x (omega (arith, p.0, p.1.0, p.1.2)) (omega (arith, p.0, p.1.0, p.1.1, p.1.2)) p.0)
    s)

moved : (x y z : Bool) → ((x || y) || z) ≡ ((z || x) || y)
moved true y true = refl
moved true y false = refl
moved false true true = refl
moved false true false = refl
moved false false true = refl
moved false false false = refl

module _ (f : ℕ → Bool) where
  pub any_downto : (m k : ℕ) → any (m + k) f ≡ list_any f (downto m k) || any m f
  unfolding any
  any_downto m zero = ap (λ j. any j f) (let e : m + 0 ≡ m = omega arith in e)
  any_downto m (suc k) =
      ap (λ j. any j f) (let e : m + suc k ≡ suc (m + k) = omega arith in e)
      ∙ ap (λ b. b || f (m + k)) (any_downto m k)
      ∙ moved (list_any f (downto m k)) (any m f) (f (m + k))

  pub any_behind : (m n : ℕ) → any n f ≡ list_any f (downto m (n - m)) || any (min n m) f
  any_behind m n = by (dec_lt m n)
    where
      by : Dec (m < n) → any n f ≡ list_any f (downto m (n - m)) || any (min n m) f
      by (yes h) = ap (λ j. any j f) (let e : n ≡ m + (n - m) = omega arith in e) ∙ any_downto m (n - m) ∙ ap (λ j. list_any f (downto m (n - m)) || any j f) (let e : m ≡ min n m = omega arith in e)
      by (no h) = ap (λ j. any j f) (let e : n ≡ min n m = omega arith in e) ∙ ap (λ k. list_any f (downto m k) || any (min n m) f) (let e : 0 ≡ n - m = omega arith in e)
