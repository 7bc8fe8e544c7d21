-- Unions of increasing lists, and lists with a number left out: what is on them, how many numbers they hold, their masks.
--
--   on_one, on_pair             what is on a list of one number, of two
--   set_known                   increasing lists with the same numbers are the same
--   on_either, on_without       what is on a union, and on a list with a number left out
--   union_apart, union_meets    the union is as long as both lists together where they have no number in common, and shorter where they have
--   union_is                    a union, by its numbers; `third_last`: of two numbers and a third behind them
--   mask-union, bit-union       the masks of two lists with no number in common, summed, are the mask of their union
--   dropped-length              a list without one of its numbers is one shorter; `one_less`: what is in it and one shorter is it without one of its numbers
--   without b s                 s without b, number by number; `dropped_is`: the same list; `dropped-split`: what stands before b and behind it
use mathlib.Core.Path.{◌≡◌, refl, sym, ◌∙◌, ap, subst}
use mathlib.Core.Logic.{◌⊎◌, inl, inr, ⊎_elim, ◌↔◌}
use mathlib.Core.Bool.{Bool, true, false, cond, not, ◌||◌, ◌&&◌, false≢true, or-false, and-true}
use mathlib.Core.List.Memᴰ
use mathlib.Core.List.{List, [], ◌∷◌, ◌++◌}
use Prim.Native.Nat.{ℕ, zero, suc, ◌+◌, ◌<◌}
use native.Mathlib.Omega.{arith}
use native.Mathlib.Decide.{ℕ_discrete}
use lib.Dec.{eqb}
use lib.ListN.{length, length-append}
use borrow.Author.Tests.{lt-ltb, eq-eqb, ne_eqb}
use Rattle.algebra.specs.Answer.{Reflects, holds, fails}
use Rattle.algebra.specs.Loops.{any, picks}
use Rattle.algebra.specs.Sets.{is_on, On, union, dropped, Within, mask_of, bit}
use Rattle.algebra.proofs.AnswerLaws.{reflects_yes, reflects_stable, reflects_true, reflects_false, reflects_iff, reflects_agree, reflects-not, reflects-or, reflects-and, reflects_ltb, reflects_eqb}
use Rattle.algebra.proofs.ListLaws.{Split}
use Rattle.algebra.proofs.SetLaws.{within_early, early_off, picks_on}
use Rattle.algebra.proofs.SetTests.{reflects_on, mem_on, is_on-picks, on_low, set_same, on-union, union_within, on-dropped, dropped_within, subset-length, subset_same}
use Rattle.algebra.proofs.LoopLaws.{reflects-any}
use Rattle.algebra.proofs.BitLaws.{bit_mask}

-- ---- one number, two numbers

pub on_one : (v k : ℕ) → Reflects (k ≡ v) (is_on k (v ∷ []))
unfolding is_on
on_one v k = subst (Reflects (k ≡ v)) (sym (or-false (eqb k v))) (reflects_eqb k v)

pub on_pair : (i j k : ℕ) → Reflects ((k ≡ i) ⊎ (k ≡ j)) (is_on k (i ∷ j ∷ []))
unfolding is_on
on_pair i j k = reflects-or (reflects_eqb k i) (on_one j k)

-- ---- how many pass

unit : Bool → ℕ
unit b = cond b 1 0

more : (f : ℕ → Bool) (n : ℕ) → length (picks (suc n) f) ≡ length (picks n f) + unit (f n)
unfolding picks unit
more f n = length-append (picks n f) (cond (f n) (n ∷ []) []) ∙ ap (λ (k : ℕ). length (picks n f) + k) (one (f n))
  where
    one : (b : Bool) → length (cond b (n ∷ []) []) ≡ cond b 1 0
    one true = refl
    one false = refl

-- those that pass one of two tests, and those that pass both
either_both : (f g : ℕ → Bool) (n : ℕ) → length (picks n (λ i. f i || g i)) + length (picks n (λ i. f i && g i)) ≡ length (picks n f) + length (picks n g)
unfolding picks unit
either_both f g zero = refl
either_both f g (suc n) =
    let h = either_both f g n in let a = more (λ i. f i || g i) n in let b = more (λ i. f i && g i) n in let c = more f n in let d = more g n in let e = units (f n) (g n) in
    omega arith
  where
    units : (a b : Bool) → unit (a || b) + unit (a && b) ≡ unit a + unit b
    units true true = refl
    units true false = refl
    units false true = refl
    units false false = refl

picks_none : (f : ℕ → Bool) (n : ℕ) → ((i : ℕ) → i < n → f i ≡ false) → length (picks n f) ≡ 0
unfolding picks unit
picks_none f zero h = refl
picks_none f (suc n) h = more f n ∙ rw (h n (omega arith), picks_none f n (λ i l. h i (omega arith))) refl

picks_some : (f : ℕ → Bool) (n i : ℕ) → i < n → f i ≡ true → 0 < length (picks n f)
unfolding is_on
picks_some f n i l e = go (picks n f) (is_on-picks f n i ∙ rw (lt-ltb i n l, e) refl)
  where
    go : (s : List ℕ) → On s i → 0 < length s
    go [] o = absurd (false≢true o)
    go (j ∷ s) o = omega arith

-- ---- unions

-- an increasing list is known by its numbers
pub set_known : (n : ℕ) (s t : List ℕ) → Within 0 s n → Within 0 t n → ((i : ℕ) → i < n → On s i ↔ On t i) → s ≡ t
set_known n s t v w h = set_same s t n v w (λ i l. reflects_agree (reflects_on i s) (reflects_iff ((h i l).1, (h i l).0) (reflects_on i t)))

module _ (n : ℕ) (s t : List ℕ) (v : Within 0 s n) (w : Within 0 t n) where
  pub on_either : (i : ℕ) → On (union n s t) i ↔ (On s i ⊎ On t i)
  on_either i = (λ o. (reflects_yes on o).1, λ o. reflects_true on (⊎_elim (λ p. (on_low s 0 n i v p).1) (λ p. (on_low t 0 n i w p).1) o, o))
    where
      on : Reflects ((i < n) × (On s i ⊎ On t i)) (is_on i (union n s t))
      on = rw (on-union n s t i) (reflects-and (reflects_ltb i n) (reflects-or (reflects_on i s) (reflects_on i t)))

  -- the numbers in common
  abbrev common : List ℕ
  common = picks n (λ i. is_on i s && is_on i t)

  union_common : length (union n s t) + length common ≡ length s + length t
  unfolding union
  union_common = either_both (λ i. is_on i s) (λ i. is_on i t) n ∙ (λ k. length (picks_on s n v k) + length (picks_on t n w k))

  pub union_apart : ((i : ℕ) → On s i → On t i → ⊥) → length (union n s t) ≡ length s + length t
  union_apart h =
      let e = union_common in
      let z : length common ≡ 0 = picks_none (λ i. is_on i s && is_on i t) n (λ i l. reflects_false (reflects-and (reflects_on i s) (reflects_on i t)) (λ p. h i p.0 p.1)) in
      omega arith

  pub union_meets : (i : ℕ) → On s i → On t i → length (union n s t) < length s + length t
  union_meets i o p =
      let e = union_common in
      let z = picks_some (λ j. is_on j s && is_on j t) n i (on_low s 0 n i v o).1 (reflects_true (reflects-and (reflects_on i s) (reflects_on i t)) (o, p)) in
      omega arith

-- ---- unions by their numbers

pub union_is : (n : ℕ) (s t u : List ℕ) → Within 0 u n → ((i : ℕ) → (is_on i s || is_on i t) ≡ is_on i u) → union n s t ≡ u
union_is n s t u w h =
    set_same (union n s t) u n (union_within n s t) w (λ i l. on-union n s t i ∙ ap (λ (b : Bool). b && (is_on i s || is_on i t)) (lt-ltb i n l) ∙ h i)

-- two numbers and a third behind them
pub third_last : (n x y k : ℕ) → x < y → y < k → k < n → union n (x ∷ y ∷ []) (k ∷ []) ≡ x ∷ y ∷ k ∷ []
unfolding is_on
third_last n x y k xy yk kn =
    union_is n (x ∷ y ∷ []) (k ∷ []) (x ∷ y ∷ k ∷ []) (omega arith, omega arith, (omega arith, omega arith, (omega arith, kn, tt))) (λ i. turned (eqb i x) (eqb i y) (eqb i k))
  where
    turned : (a b c : Bool) → ((a || (b || false)) || (c || false)) ≡ (a || (b || (c || false)))
    turned true b c = refl
    turned false true c = refl
    turned false false c = refl

-- ---- masks

pub mask_append : (s t : List ℕ) → mask_of (s ++ t) ≡ mask_of s + mask_of t
unfolding mask_of
mask_append [] t = omega arith
mask_append (i ∷ s) t = let e = mask_append s t in omega arith

mask-picks : (f g : ℕ → Bool) (n : ℕ) → ((i : ℕ) → i < n → f i ≡ true → g i ≡ true → ⊥) → mask_of (picks n f) + mask_of (picks n g) ≡ mask_of (picks n (λ i. f i || g i))
unfolding picks mask_of
mask-picks f g zero h = refl
mask-picks f g (suc n) h = go (f n) (g n) refl refl (mask-picks f g n (λ i l. h i (omega arith)))
  where
    go : (a b : Bool) → f n ≡ a → g n ≡ b → mask_of (picks n f) + mask_of (picks n g) ≡ mask_of (picks n (λ i. f i || g i))
        → mask_of (picks n f ++ cond a (n ∷ []) []) + mask_of (picks n g ++ cond b (n ∷ []) []) ≡ mask_of (picks n (λ i. f i || g i) ++ cond (a || b) (n ∷ []) [])
    go true true p q ih = absurd (h n (omega arith) p q)
    go true false p q ih = omega (arith, mask_append (picks n f) (n ∷ []), mask_append (picks n g) [], mask_append (picks n (λ i. f i || g i)) (n ∷ []))
    go false true p q ih = omega (arith, mask_append (picks n f) [], mask_append (picks n g) (n ∷ []), mask_append (picks n (λ i. f i || g i)) (n ∷ []))
    go false false p q ih = omega (arith, mask_append (picks n f) [], mask_append (picks n g) [], mask_append (picks n (λ i. f i || g i)) [])

module _ (n : ℕ) (s t : List ℕ) (v : Within 0 s n) (w : Within 0 t n) (apart : (i : ℕ) → On s i → On t i → ⊥) where
  pub mask-union : mask_of s + mask_of t ≡ mask_of (union n s t)
  unfolding union
  mask-union = (λ k. mask_of (sym (picks_on s n v) k) + mask_of (sym (picks_on t n w) k)) ∙ mask-picks (λ i. is_on i s) (λ i. is_on i t) n (λ i l. apart i)

  pub bit-union : (i : ℕ) → bit (mask_of s + mask_of t) i ≡ is_on i (union n s t)
  bit-union i = ap (λ (x : ℕ). bit x i) mask-union ∙ bit_mask i n (union n s t) (union_within n s t)

-- ---- one number left out

module _ (n a : ℕ) (s : List ℕ) (v : Within 0 s n) where
  pub on_without : (i : ℕ) → On (dropped n a s) i ↔ (On s i × (i ≡ a → ⊥))
  on_without i = (λ o. (reflects_yes on o).1, λ p. reflects_true on ((on_low s 0 n i v p.0).1, p))
    where
      on : Reflects ((i < n) × (On s i × (i ≡ a → ⊥))) (is_on i (dropped n a s))
      on = rw (on-dropped n a s i) (reflects-and (reflects_ltb i n) (reflects-and (reflects_on i s) (reflects-not (reflects_eqb i a))))

  pub dropped-length : On s a → length s ≡ length (dropped n a s) + 1
  dropped-length o = ap length (sym whole) ∙ union_apart n (dropped n a s) (a ∷ []) (dropped_within n a s) alone (λ i p q. ((on_without i).0 p).1 (reflects_yes (on_one a i) q))
    where
      alone : Within 0 (a ∷ []) n
      alone = (omega arith, (on_low s 0 n a v o).1, tt)

      both : (i : ℕ) → Dec (i ≡ a) → (On (dropped n a s) i ⊎ On (a ∷ []) i) ↔ On s i
      both i (yes e) = (λ p. subst (On s) (sym e) o, λ p. inr (reflects_true (on_one a i) e))
      both i (no e) = (λ p. ⊎_elim (λ q. ((on_without i).0 q).0) (λ q. absurd (e (reflects_yes (on_one a i) q))) p, λ p. inl ((on_without i).1 (p, e)))

      whole : union n (dropped n a s) (a ∷ []) ≡ s
      whole =
          let on = on_either n (dropped n a s) (a ∷ []) (dropped_within n a s) alone in
          set_known n (union n (dropped n a s) (a ∷ [])) s (union_within n (dropped n a s) (a ∷ [])) v
          (λ i l. (λ p. (both i (ℕ_discrete i a)).0 ((on i).0 p), λ p. (on i).1 ((both i (ℕ_discrete i a)).1 p)))

pub one_less : (n : ℕ) (e s : List ℕ) → Within 0 e n → Within 0 s n → ((i : ℕ) → On e i → On s i) → length s ≡ length e + 1 → (k : ℕ) × On s k × (e ≡ dropped n k s)
one_less n e s u v h q = go (any n (λ k. is_on k s && not (is_on k e))) left_out
  where
    Out : ℕ → Type 0
    Out k = On s k × (On e k → ⊥)

    left_out : Reflects ((k : ℕ) × (k < n) × Out k) (any n (λ k. is_on k s && not (is_on k e)))
    left_out = reflects-any Out _ n (λ k l. reflects-and (reflects_on k s) (reflects-not (reflects_on k e)))

    go : (b : Bool) → Reflects ((k : ℕ) × (k < n) × Out k) b → (k : ℕ) × On s k × (e ≡ dropped n k s)
    go true (holds (k, l, (a, b))) = (
      k,
      a,
      subset_same e (dropped n k s) n u (dropped_within n k s) (λ i o. (on_without n k s v i).1 (h i o, λ r. b (subst (On e) r o))) (omega (arith, dropped-length n k s v a)),
    )
    go false (fails none) = absurd (let l = subset-length s e n v u (λ i o. reflects_stable (reflects_on i e) (λ m. none (i, (on_low s 0 n i v o).1, (o, m)))) in omega arith)

-- the same list by recursion
abbrev pub without : ℕ → List ℕ → List ℕ
without b [] = []
without b (j ∷ s) = cond (eqb j b) s (j ∷ without b s)

without_within : (b a n : ℕ) (s : List ℕ) → Within a s n → Within a (without b s) n
without_within b a n [] w = tt
without_within b a n (j ∷ s) w = go (eqb j b) (without_within b (j + 1) n s w.2)
  where
    go : (t : Bool) → Within (j + 1) (without b s) n → Within a (cond t s (j ∷ without b s)) n
    go true v = within_early (j + 1) a n s (let h = w.0 in omega arith) w.2
    go false v = (w.0, w.1, v)

is_on_without : (i b a n : ℕ) (s : List ℕ) → Within a s n → is_on i (without b s) ≡ (is_on i s && not (eqb i b))
unfolding is_on
is_on_without i b a n [] w = refl
is_on_without i b a n (j ∷ s) w = go (ℕ_discrete j b) (ℕ_discrete i j) (is_on_without i b (j + 1) n s w.2)
  where
    go : Dec (j ≡ b) → Dec (i ≡ j) → is_on i (without b s) ≡ (is_on i s && not (eqb i b)) → is_on i (cond (eqb j b) s (j ∷ without b s)) ≡ ((eqb i j || is_on i s) && not (eqb i b))
    go (yes e) (yes q) ih = rw (eq-eqb j b e, eq-eqb i j q, eq-eqb i b (q ∙ e)) (early_off i (j + 1) n s (omega arith) w.2)
    go (yes e) (no q) ih = rw (eq-eqb j b e, ne_eqb i j q, ne_eqb i b (λ h. q (h ∙ sym e))) (sym (and-true (is_on i s)))
    go (no e) (yes q) ih = rw (ne_eqb j b e, eq-eqb i j q, ne_eqb i b (λ h. e (sym q ∙ h))) refl
    go (no e) (no q) ih = rw (ne_eqb j b e, ne_eqb i j q) ih

pub dropped_is : (n b : ℕ) (s : List ℕ) → Within 0 s n → dropped n b s ≡ without b s
dropped_is n b s w =
    set_same (dropped n b s) (without b s) n (dropped_within n b s) (without_within b 0 n s w)
    (λ i l. on-dropped n b s i ∙ ap (λ (t : Bool). t && (is_on i s && not (eqb i b))) (lt-ltb i n l) ∙ sym (is_on_without i b 0 n s w))

pub dropped-split : (n b : ℕ) (s : List ℕ) → Within 0 s n → (r : Split b s) → dropped n b s ≡ r.front ++ r.back
dropped-split n b s w r = dropped_is n b s w ∙ ap (without b) r.is ∙ middle_out 0 r.front r.back (subst (λ (t : List ℕ). Within 0 t n) r.is w)
  where
    middle_out : (a : ℕ) (p q : List ℕ) → Within a (p ++ b ∷ q) n → without b (p ++ b ∷ q) ≡ p ++ q
    middle_out a [] q v = rw (eq-eqb b b refl) refl
    middle_out a (j ∷ p) q v =
        rw (ne_eqb j b (λ e. let l = (on_low (p ++ b ∷ q) (j + 1) n b v.2 ((mem_on b (p ++ b ∷ q)).0 (Memᴰ.append_right p (Memᴰ.head refl)))).0 in omega arith))
        (ap (λ (t : List ℕ). j ∷ t) (middle_out (j + 1) p q v.2))
