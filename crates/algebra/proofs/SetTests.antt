-- Tests of increasing lists as sets, how many numbers they hold, and the places of such lists among all of one length.
--
--   reflects_on, reflects_same, reflects_all_on    the tests `is_on`, `same_list` and `all_on` decide what they say
--   same_places                                    the test `same_list`, place by place
--   on_head, on_tail, on_cases, on_none            what is on a list, from its head on
--   mem_on                                         the members of a list are the numbers that are on it
--   dec_on, dec_mem                                it can be told which they are
--   is_on-picks, picks_within                       the numbers that pass a test, as a set
--   on_low, numbers_apart                          the numbers of a list are within its bounds, and they are different
--   set_same                                       increasing lists with the same numbers are the same
--   on-union, on-dropped, union_within, dropped_within    unions, and lists with a number left out
--   mask-on                                        every bit of the mask of s is in t: every number of s is
--   length_within, subset-length, subset_same      how many numbers fit; a part is no longer, and as long only where it is all
--   mem_sets, sets_apart                           the lists of k of the numbers below n; they are different
--   set_at, place_in, place_at                     the lists of k of the numbers below n, and their places: the two are inverse
--   place_lex                                      the places go by the lexicographic order
use mathlib.Core.Path.{◌≡◌, refl, sym, ◌∙◌, ap, subst}
use mathlib.Core.Logic.{inl, inr, ⊎_elim, ◌↔◌}
use mathlib.Core.Bool.{Bool, true, false, not, cond, ◌||◌, ◌&&◌, false≢true, or-false, and-true, and-false}
use mathlib.Core.List.Memᴰ
use mathlib.Core.List.{List, [], ◌∷◌, ◌++◌, append-nil, Memᴰ}
use Prim.Native.Nat.{ℕ, zero, suc, ◌+◌, ◌-◌, ◌<◌, ◌≤◌}
use native.Mathlib.Omega.{arith}
use native.Mathlib.Decide.{dec_lt, ℕ_discrete}
use native.Mathlib.Nat.{not-suc-le-zero}
use lib.Dec.{ltb, eqb}
use lib.ListN.{length, get_or}
use lib.Seq.{ext_get_or}
use borrow.Author.Tests.{lt-ltb, le-ltb, eqb-true, eq-eqb, ne_eqb}
use Rattle.algebra.specs.Answer.{Reflects, holds, fails}
use Rattle.algebra.specs.Loops.{picks, every}
use Rattle.algebra.specs.Sets.{is_on, On, all_on, same_list, union, dropped, Within, Lex, mask_of, bit, sets_of, place_of}
use Rattle.algebra.proofs.AnswerLaws.{reflects_dec, reflects_true, reflects_false, reflects_agree, reflects_iff, reflects-and, reflects_eqb}
use Rattle.algebra.proofs.LoopLaws.{every_same, reflects-every, reflects_test}
use Rattle.algebra.proofs.ListLaws.{Apart, Other, get_d_mem, apart_at, apart_more}
use Rattle.algebra.proofs.SetLaws.{lex_same, nest_in, nest_out, nest_apart, picks_on, picks_same}
use Rattle.algebra.proofs.BitLaws.{bit_mask}

-- ---- a number is in a list

pub reflects_on : (i : ℕ) (s : List ℕ) → Reflects (On s i) (is_on i s)
reflects_on i s = reflects_test (is_on i s)

-- the first, or one of the rest
pub on_cases : {X : Type 0} (i j : ℕ) (s : List ℕ) → On (j ∷ s) i → (i ≡ j → X) → (On s i → X) → X
unfolding is_on
on_cases {X} i j s h f g = go (eqb i j) refl
  where
    go : (b : Bool) → eqb i j ≡ b → X
    go true e = f (eqb-true i j e)
    go false e = g (rw e at h)

pub on_head : (i : ℕ) (s : List ℕ) → On (i ∷ s) i
unfolding is_on
on_head i s = rw (eq-eqb i i refl) refl

pub on_tail : (i j : ℕ) (s : List ℕ) → On s i → On (j ∷ s) i
unfolding is_on
on_tail i j s h = go (eqb i j)
  where
    go : (b : Bool) → (b || is_on i s) ≡ true
    go true = refl
    go false = h

pub on_none : (i : ℕ) → On [] i → ⊥
unfolding is_on
on_none i h = false≢true h

-- the members of a list are the numbers that are on it
pub mem_on : (i : ℕ) (s : List ℕ) → Memᴰ i s ↔ On s i
mem_on i [] = (λ m. absurd (Memᴰ.not-nil m), λ o. absurd (on_none i o))
mem_on i (j ∷ s) = (
  λ m. ⊎_elim (λ e. subst (On (j ∷ s)) (sym e) (on_head j s)) (λ n. on_tail i j s ((mem_on i s).0 n)) (Memᴰ.cases_cons m),
  λ o. on_cases i j s o Memᴰ.head (λ p. Memᴰ.tail ((mem_on i s).1 p)),
)

pub dec_on : (i : ℕ) (s : List ℕ) → Dec (On s i)
dec_on i s = reflects_dec (reflects_on i s)

pub dec_mem : (i : ℕ) (s : List ℕ) → Dec (Memᴰ i s)
dec_mem i s = reflects_dec (reflects_iff ((mem_on i s).1, (mem_on i s).0) (reflects_on i s))

pub on_low : (s : List ℕ) (a n i : ℕ) → Within a s n → On s i → (a ≤ i) × (i < n)
on_low [] a n i w h = absurd (on_none i h)
on_low (j ∷ s) a n i w h = on_cases i j s h (here w.0 w.1) (λ o. there w.0 (on_low s (j + 1) n i w.2 o))
  where
    here : a ≤ j → j < n → i ≡ j → (a ≤ i) × (i < n)
    here p q e = omega arith

    there : a ≤ j → (j + 1 ≤ i) × (i < n) → (a ≤ i) × (i < n)
    there p q = omega arith

pub numbers_apart : (s : List ℕ) (a n : ℕ) → Within a s n → Apart Other s
numbers_apart [] a n w = tt
numbers_apart (i ∷ s) a n w = (λ j m e. let l = (on_low s (i + 1) n j w.2 ((mem_on j s).0 m)).0 in omega arith, numbers_apart s (i + 1) n w.2)

pub set_same : (s t : List ℕ) (n : ℕ) → Within 0 s n → Within 0 t n → ((i : ℕ) → i < n → is_on i s ≡ is_on i t) → s ≡ t
set_same s t n v w h = sym (picks_on s n v) ∙ picks_same (λ i. is_on i s) (λ i. is_on i t) n h ∙ picks_on t n w

-- ---- the numbers that pass

is_on-append : (i : ℕ) (s t : List ℕ) → is_on i (s ++ t) ≡ (is_on i s || is_on i t)
unfolding is_on
is_on-append i [] t = refl
is_on-append i (j ∷ s) t = go (eqb i j) (is_on-append i s t)
  where
    go : (b : Bool) → is_on i (s ++ t) ≡ (is_on i s || is_on i t) → (b || is_on i (s ++ t)) ≡ (b || is_on i s || is_on i t)
    go true e = refl
    go false e = e

is_on_one : (i n : ℕ) (b : Bool) → is_on i (cond b (n ∷ []) []) ≡ (eqb i n && b)
unfolding is_on
is_on_one i n true = or-false (eqb i n) ∙ sym (and-true (eqb i n))
is_on_one i n false = sym (and-false (eqb i n))

pub is_on-picks : (f : ℕ → Bool) (n i : ℕ) → is_on i (picks n f) ≡ (ltb i n && f i)
unfolding picks is_on
is_on-picks f zero i = rw (le-ltb i 0 (omega arith)) refl
is_on-picks f (suc n) i = is_on-append i (picks n f) (cond (f n) (n ∷ []) []) ∙ (λ k. is_on-picks f n i k || is_on_one i n (f n) k) ∙ go (dec_lt i n) (ℕ_discrete i n)
  where
    go : Dec (i < n) → Dec (i ≡ n) → (ltb i n && f i || eqb i n && f n) ≡ (ltb i (suc n) && f i)
    go (yes l) e = rw (lt-ltb i n l, lt-ltb i (suc n) (omega arith), ne_eqb i n (λ q. omega arith)) (or-false (f i))
    go (no l) (yes e) = rw (le-ltb i n (omega arith), lt-ltb i (suc n) (omega arith), eq-eqb i n e) (ap f (sym e))
    go (no l) (no e) = rw (le-ltb i n (omega arith), le-ltb i (suc n) (omega arith), ne_eqb i n e) refl

within_snoc : (s : List ℕ) (a n : ℕ) → a ≤ n → Within a s n → Within a (s ++ n ∷ []) (suc n)
within_snoc [] a n h w = (h, omega arith, tt)
within_snoc (i ∷ s) a n h w = (w.0, let l = w.1 in omega arith, within_snoc s (i + 1) n (let l = w.1 in omega arith) w.2)

within_late : (s : List ℕ) (a n : ℕ) → Within a s n → Within a s (suc n)
within_late [] a n w = tt
within_late (i ∷ s) a n w = (w.0, let l = w.1 in omega arith, within_late s (i + 1) n w.2)

pub picks_within : (f : ℕ → Bool) (n : ℕ) → Within 0 (picks n f) n
unfolding picks
picks_within f zero = tt
picks_within f (suc n) = go (f n) (picks_within f n)
  where
    go : (b : Bool) → Within 0 (picks n f) n → Within 0 (picks n f ++ cond b (n ∷ []) []) (suc n)
    go true w = within_snoc (picks n f) 0 n (omega arith) w
    go false w = subst (λ (s : List ℕ). Within 0 s (suc n)) (sym (append-nil (picks n f))) (within_late (picks n f) 0 n w)

pub on-union : (n : ℕ) (s t : List ℕ) (i : ℕ) → is_on i (union n s t) ≡ (ltb i n && (is_on i s || is_on i t))
unfolding union
on-union n s t i = is_on-picks (λ j. is_on j s || is_on j t) n i

pub union_within : (n : ℕ) (s t : List ℕ) → Within 0 (union n s t) n
unfolding union
union_within n s t = picks_within (λ j. is_on j s || is_on j t) n

pub on-dropped : (n a : ℕ) (s : List ℕ) (i : ℕ) → is_on i (dropped n a s) ≡ (ltb i n && (is_on i s && not (eqb i a)))
unfolding dropped
on-dropped n a s i = is_on-picks (λ j. is_on j s && not (eqb j a)) n i

pub dropped_within : (n a : ℕ) (s : List ℕ) → Within 0 (dropped n a s) n
unfolding dropped
dropped_within n a s = picks_within (λ j. is_on j s && not (eqb j a)) n

-- ---- tests of two lists

pub reflects_same : (s t : List ℕ) → Reflects (s ≡ t) (same_list s t)
unfolding same_list
reflects_same [] [] = holds refl
reflects_same [] (j ∷ t) = fails (λ e. clash (ap length e))
  where
    clash : 0 ≡ suc (length t) → ⊥
    clash e = omega arith
reflects_same (i ∷ s) [] = fails (λ e. clash (ap length e))
  where
    clash : suc (length s) ≡ 0 → ⊥
    clash e = omega arith
reflects_same (i ∷ s) (j ∷ t) = reflects_iff (λ p k. p.0 k ∷ p.1 k, λ e. (cc, cc)) (reflects-and (reflects_eqb i j) (reflects_same s t))

pub same_places : (k : ℕ) (s t : List ℕ) → length s ≡ k → length t ≡ k → every k (λ i. eqb (get_or s i 0) (get_or t i 0)) ≡ same_list s t
same_places k s t m n =
    reflects_agree
    (reflects_iff (λ f. ext_get_or 0 s t (m ∙ sym n) (λ i h. f i (omega arith)), λ e i h. ap (λ (u : List ℕ). get_or u i 0) e)
    (reflects-every (λ i. get_or s i 0 ≡ get_or t i 0) (λ i. eqb (get_or s i 0) (get_or t i 0)) k (λ i h. reflects_eqb (get_or s i 0) (get_or t i 0))))
    (reflects_same s t)

pub reflects_all_on : (s t : List ℕ) → Reflects ((i : ℕ) → On s i → On t i) (all_on s t)
unfolding all_on
reflects_all_on [] t = holds (λ i h. absurd (on_none i h))
reflects_all_on (j ∷ s) t =
    reflects_iff (λ p i h. on_cases i j s h (λ e. subst (On t) (sym e) p.0) (p.1 i), λ h. (h j (on_head j s), λ i o. h i (on_tail i j s o)))
    (reflects-and (reflects_on j t) (reflects_all_on s t))

pub mask-on : (n : ℕ) (s t : List ℕ) → Within 0 s n → every n (λ i. not (bit (mask_of s) i) || is_on i t) ≡ all_on s t
mask-on n s t w =
    every_same (λ i. not (bit (mask_of s) i) || is_on i t) (λ i. not (is_on i s) || is_on i t) n (λ i l. ap (λ (b : Bool). not b || is_on i t) (bit_mask i n s w))
    ∙ reflects_agree (reflects-every (λ i. On s i → On t i) (λ i. not (is_on i s) || is_on i t) n (λ i l. implies (is_on i s) (is_on i t)))
    (reflects_iff (λ h i l. h i, λ h i o. h i (on_low s 0 n i w o).1 o) (reflects_all_on s t))
  where
    implies : (a b : Bool) → Reflects (a ≡ true → b ≡ true) (not a || b)
    implies true true = holds (λ e. refl)
    implies true false = fails (λ h. false≢true (h refl))
    implies false b = holds (λ e. absurd (false≢true e))

-- ---- how many

pub length_within : (s : List ℕ) (a n : ℕ) → Within a s n → length s ≤ n - a
length_within [] a n w = omega arith
length_within (i ∷ s) a n w = omega (arith, length_within s (i + 1) n w.2, w.0, w.1)

-- the rest of a part lies in the rest of the whole, where they begin alike and where the part begins later
module _ (s t : List ℕ) (i j n : ℕ) (v : Within (i + 1) s n) (h : (k : ℕ) → On (i ∷ s) k → On (j ∷ t) k) where
  alike : i ≡ j → (k : ℕ) → On s k → On t k
  alike e k o = on_cases k j t (h k (on_tail k i s o)) (λ q. absurd (apart (on_low s (i + 1) n k v o).0 q)) (λ p. p)
    where
      apart : i + 1 ≤ k → k ≡ j → ⊥
      apart l q = omega arith

  later : (i ≡ j → ⊥) → Within (j + 1) t n → (k : ℕ) → On (i ∷ s) k → On t k
  later ne w k o = on_cases k j t (h k o) (λ q. absurd (apart q)) (λ p. p)
    where
      past : j + 1 ≤ i
      past = on_cases i j t (h i (on_head i s)) (λ q. absurd (ne q)) (λ p. (on_low t (j + 1) n i w p).0)

      apart : k ≡ j → ⊥
      apart q = on_cases k i s o (λ e. ne (sym e ∙ q)) (λ p. let l = (on_low s (i + 1) n k v p).0 in let m = past in absurd (omega arith))

part_length : (s t : List ℕ) (a b n : ℕ) → Within a s n → Within b t n → ((i : ℕ) → On s i → On t i) → length s ≤ length t
part_length [] t a b n v w h = omega arith
part_length (i ∷ s) [] a b n v w h = absurd (on_none i (h i (on_head i s)))
part_length (i ∷ s) (j ∷ t) a b n v w h = go (ℕ_discrete i j) (λ u. part_length s t (i + 1) (j + 1) n v.2 w.2 u) (λ u. part_length (i ∷ s) t a (j + 1) n v w.2 u)
  where
    go : Dec (i ≡ j) → (((k : ℕ) → On s k → On t k) → length s ≤ length t) → (((k : ℕ) → On (i ∷ s) k → On t k) → length (i ∷ s) ≤ length t) → length (i ∷ s) ≤ length (j ∷ t)
    go (yes e) f g = let r = f (alike s t i j n v.2 h e) in omega arith
    go (no e) f g = let r = g (later s t i j n v.2 h e w.2) in omega arith

part_same : (s t : List ℕ) (a b n : ℕ) → Within a s n → Within b t n → ((i : ℕ) → On s i → On t i) → length s ≡ length t → s ≡ t
part_same [] [] a b n v w h l = refl
part_same [] (j ∷ t) a b n v w h l = absurd (clash l)
  where
    clash : 0 ≡ suc (length t) → ⊥
    clash l = omega arith
part_same (i ∷ s) [] a b n v w h l = absurd (on_none i (h i (on_head i s)))
part_same (i ∷ s) (j ∷ t) a b n v w h l = go (ℕ_discrete i j) (λ u. part_same s t (i + 1) (j + 1) n v.2 w.2 u (omega arith))
  where
    go : Dec (i ≡ j) → (((k : ℕ) → On s k → On t k) → s ≡ t) → i ∷ s ≡ j ∷ t
    go (yes e) f = let r = f (alike s t i j n v.2 h e) in λ k. e k ∷ r k
    go (no e) f = absurd (let r = part_length (i ∷ s) t a (j + 1) n v w.2 (later s t i j n v.2 h e w.2) in omega arith)

pub subset-length : (s t : List ℕ) (n : ℕ) → Within 0 s n → Within 0 t n → ((i : ℕ) → On s i → On t i) → length s ≤ length t
subset-length s t n v w h = part_length s t 0 0 n v w h

pub subset_same : (s t : List ℕ) (n : ℕ) → Within 0 s n → Within 0 t n → ((i : ℕ) → On s i → On t i) → length s ≡ length t → s ≡ t
subset_same s t n v w h l = part_same s t 0 0 n v w h l

-- ---- places

place_mem : (s : List ℕ) (ss : List (List ℕ)) → Memᴰ s ss → (place_of s ss < length ss) × (get_or ss (place_of s ss) [] ≡ s)
unfolding place_of
place_mem s [] m = absurd (Memᴰ.not-nil m)
place_mem s (t ∷ ts) m = go (same_list s t) (reflects_same s t) (λ n. place_mem s ts n)
  where
    go : (b : Bool) → Reflects (s ≡ t) b → (Memᴰ s ts → (place_of s ts < length ts) × (get_or ts (place_of s ts) [] ≡ s))
        → (cond b 0 (suc (place_of s ts)) < length (t ∷ ts)) × (get_or (t ∷ ts) (cond b 0 (suc (place_of s ts))) [] ≡ s)
    go true (holds e) ih = (omega arith, sym e)
    go false (fails ne) ih = let r = ih (⊎_elim (λ e. absurd (ne e)) (λ n. n) (Memᴰ.cases_cons m)) in (let l = r.0 in omega arith, r.1)

place_apart : (R : List ℕ → List ℕ → Type 0) → ((s : List ℕ) → R s s → ⊥) → (ss : List (List ℕ)) (r : ℕ) → Apart R ss → r < length ss → place_of (get_or ss r []) ss ≡ r
unfolding place_of
place_apart R ne [] r p h = absurd (not-suc-le-zero h)
place_apart R ne (t ∷ ts) zero p h = rw (reflects_true (reflects_same t t) refl) refl
place_apart R ne (t ∷ ts) (suc r) p h =
    rw (reflects_false (reflects_same (get_or ts r []) t) (λ e. ne t (subst (R t) e (p.0 (get_or ts r []) (get_d_mem ts [] r (omega arith))))))
    (ap suc (place_apart R ne ts r p.1 (omega arith)))

lex_apart : (k n : ℕ) → Apart Lex (sets_of k n)
lex_apart k n =
    nest_apart Lex k (λ s. s ∷ []) 0 n (λ s w e. (λ y m. absurd (Memᴰ.not-nil m), tt))
    (λ s t v w e q o x y m m'. subst (λ (a : List ℕ). Lex a y) (sym (Memᴰ.eq_of_singleton m)) (subst (Lex s) (sym (Memᴰ.eq_of_singleton m')) o))

pub sets_apart : (k n : ℕ) → Apart Other (sets_of k n)
sets_apart k n = apart_more Lex Other (sets_of k n) (λ s t o e. lex_same s (subst (Lex s) (sym e) o)) (lex_apart k n)

pub mem_sets : (k n : ℕ) (s : List ℕ) → Memᴰ s (sets_of k n) ↔ (Within 0 s n × (length s ≡ k))
mem_sets k n s = (
  λ m. let q = nest_out k (λ t. t ∷ []) 0 n m in subst (λ (t : List ℕ). Within 0 t n × (length t ≡ k)) (sym (Memᴰ.eq_of_singleton q.3)) (q.1, q.2),
  λ p. nest_in k (λ t. t ∷ []) 0 n s p.0 p.1 (Memᴰ.head refl),
)

pub set_at : (k n r : ℕ) → r < length (sets_of k n) → Within 0 (get_or (sets_of k n) r []) n × (length (get_or (sets_of k n) r []) ≡ k)
set_at k n r h = (mem_sets k n (get_or (sets_of k n) r [])).0 (get_d_mem (sets_of k n) [] r h)

pub place_in : (k n : ℕ) (s : List ℕ) → Within 0 s n → length s ≡ k → (place_of s (sets_of k n) < length (sets_of k n)) × (get_or (sets_of k n) (place_of s (sets_of k n)) [] ≡ s)
place_in k n s w e = place_mem s (sets_of k n) ((mem_sets k n s).1 (w, e))

pub place_at : (k n r : ℕ) → r < length (sets_of k n) → place_of (get_or (sets_of k n) r []) (sets_of k n) ≡ r
place_at k n r h = place_apart Lex lex_same (sets_of k n) r (lex_apart k n) h

place_order : (k n r q : ℕ) → r < q → q < length (sets_of k n) → Lex (get_or (sets_of k n) r []) (get_or (sets_of k n) q [])
place_order k n r q h l = apart_at Lex (sets_of k n) [] r q (lex_apart k n) h l

lex_one_way : (s t : List ℕ) → Lex s t → Lex t s → ⊥
lex_one_way [] t h k = h
lex_one_way (i ∷ s) [] h k = h
lex_one_way (i ∷ s) (j ∷ t) (inl h) (inl k) = omega arith
lex_one_way (i ∷ s) (j ∷ t) (inl h) (inr k) = let e = k.0 in omega arith
lex_one_way (i ∷ s) (j ∷ t) (inr h) (inl k) = let e = h.0 in omega arith
lex_one_way (i ∷ s) (j ∷ t) (inr h) (inr k) = lex_one_way s t h.1 k.1

pub place_lex : (k n : ℕ) (s t : List ℕ) → Within 0 s n → length s ≡ k → Within 0 t n → length t ≡ k → (place_of s (sets_of k n) < place_of t (sets_of k n)) ↔ Lex s t
place_lex k n s t v e w q =
    (λ h. before s t in_s.1 in_t.1 in_t.0 h, back (dec_lt (place_of s (sets_of k n)) (place_of t (sets_of k n))) (dec_lt (place_of t (sets_of k n)) (place_of s (sets_of k n))))
  where
    in_s : (place_of s (sets_of k n) < length (sets_of k n)) × (get_or (sets_of k n) (place_of s (sets_of k n)) [] ≡ s)
    in_s = place_in k n s v e

    in_t : (place_of t (sets_of k n) < length (sets_of k n)) × (get_or (sets_of k n) (place_of t (sets_of k n)) [] ≡ t)
    in_t = place_in k n t w q

    before : (a b : List ℕ) → get_or (sets_of k n) (place_of a (sets_of k n)) [] ≡ a → get_or (sets_of k n) (place_of b (sets_of k n)) [] ≡ b → place_of b (sets_of k n) < length (sets_of k n)
        → place_of a (sets_of k n) < place_of b (sets_of k n) → Lex a b
    before a b x y l h = subst (λ (c : List ℕ). Lex c b) x (subst (Lex (get_or (sets_of k n) (place_of a (sets_of k n)) [])) y (place_order k n (place_of a (sets_of k n)) (place_of b (sets_of k n)) h l))

    back : Dec (place_of s (sets_of k n) < place_of t (sets_of k n)) → Dec (place_of t (sets_of k n) < place_of s (sets_of k n)) → Lex s t → place_of s (sets_of k n) < place_of t (sets_of k n)
    back (yes h) d o = h
    back (no h) (yes l) o = absurd (lex_one_way s t o (before t s in_t.1 in_s.1 in_s.0 l))
    back (no h) (no l) o =
        let z : place_of t (sets_of k n) ≡ place_of s (sets_of k n) = omega arith in
        absurd (lex_same s (subst (Lex s) (sym in_t.1 ∙ ap (λ (r : ℕ). get_or (sets_of k n) r []) z ∙ in_s.1) o))
