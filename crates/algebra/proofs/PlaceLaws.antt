-- The increasing lists of k of the numbers below n, by formula: for every k and n, by induction. Triples read it for three.
--
--   sets_count      there are `choose n k`
--   place_later     the lists before s, s itself and those after it are all of them: the place of s, by how many come after it
--   set-by          the list at place r is `set_by`
--   set_one         of lists of one number
--   set_room, set_skip, set-take    `set_by` from one number to the next: what a loop over the first number wants
--   set_first       the first list: the numbers from 0 on
--   next_place      `next_of` is the list at the next place
use mathlib.Core.Path.{◌≡◌, refl, sym, ◌∙◌, ap, subst}
use mathlib.Core.Bool.{Bool, true, false, cond, true≢false}
use mathlib.Core.List.{List, [], ◌∷◌, ◌++◌, map}
use Prim.Native.Nat.{ℕ, zero, suc, ◌+◌, ◌-◌, ◌<◌, ◌≤◌}
use native.Mathlib.Omega.{arith}
use native.Mathlib.Decide.{dec_lt, ℕ_discrete}
use native.Mathlib.Nat.{zero-add, suc-add}
use native.Mathlib.Numerals.{add-one}
use lib.Dec.{ltb}
use lib.ListN.{length, get_or, length-append, length-map, get_or-append}
use lib.Seq.{get_or-append-add}
use borrow.Author.Tests.{lt-ltb, le-ltb, eq-eqb, ne_eqb, eqb-true, eqb-false}
use Rattle.algebra.specs.Sets.{Within, same_list, nest, sets_of, place_of}
use Rattle.algebra.specs.Places.{choose, later_of, set_by, up_from, is_last, next_of}
use Rattle.algebra.proofs.ListLaws.{get_d_map}
use Rattle.algebra.proofs.ChooseLaws.{choose_none}
use Rattle.algebra.proofs.OverLaws.{over-turn, over_end}
use Rattle.algebra.proofs.SetLaws.{nest-map, within_cast, within_early}
use Rattle.algebra.proofs.SetTests.{length_within, set_at, place_in, place_at}

-- the lists of k of the numbers from a to n - 1
abbrev sets_from : ℕ → ℕ → ℕ → List (List ℕ)
sets_from k a n = nest k (λ s. s ∷ []) a n

-- ---- those that begin with the first number, then the others

first_then : (k a n : ℕ) → a < n → sets_from (suc k) a n ≡ map (λ s. a ∷ s) (sets_from k (a + 1) n) ++ sets_from (suc k) (a + 1) n
unfolding nest
first_then k a n h =
    over-turn (λ i. nest k (λ s. (i ∷ s) ∷ []) (i + 1) n) a n h ∙ ap (λ (t : List (List ℕ)). t ++ sets_from (suc k) (a + 1) n) (nest-map (λ s. a ∷ s) k (λ s. s ∷ []) (a + 1) n)

none_left : (k a n : ℕ) → n ≤ a → sets_from (suc k) a n ≡ []
unfolding nest
none_left k a n h = over_end (λ i. nest k (λ s. (i ∷ s) ∷ []) (i + 1) n) a n h

-- ---- how many

sets_from_count : (k a m n : ℕ) → n ≡ a + m → length (sets_from k a n) ≡ choose m k
unfolding nest choose
sets_from_count zero a m n e = refl
sets_from_count (suc k) a zero n e = ap length (none_left k a n (omega arith))
sets_from_count (suc k) a (suc m) n e =
    ap length (first_then k a n (omega arith)) ∙ length-append (map (λ s. a ∷ s) (sets_from k (a + 1) n)) (sets_from (suc k) (a + 1) n)
    ∙ (λ j. (length-map (sets_from k (a + 1) n) (λ s. a ∷ s) ∙ sets_from_count k (a + 1) m n (omega arith)) j + sets_from_count (suc k) (a + 1) m n (omega arith) j)

pub sets_count : (k n : ℕ) → length (sets_of k n) ≡ choose n k
sets_count k n = sets_from_count k 0 n n (omega arith)

-- ---- the one at a place

set_by_from : (k a m n r : ℕ) → n ≡ a + m → r < choose m k → get_or (sets_from k a n) r [] ≡ set_by k a m r
unfolding nest choose set_by
set_by_from zero a m n zero e h = refl
set_by_from zero a m n (suc r) e h = absurd (omega arith)
set_by_from (suc k) a zero n r e h = absurd (omega arith)
set_by_from (suc k) a (suc m) n r e h =
    ap (λ (t : List (List ℕ)). get_or t r []) (first_then k a n (omega arith))
    ∙ go (dec_lt r (choose m k)) (set_by_from k (a + 1) m n r (omega arith)) (set_by_from (suc k) (a + 1) m n (r - choose m k) (omega arith))
  where
    these : List (List ℕ)
    these = map (λ s. a ∷ s) (sets_from k (a + 1) n)

    others : List (List ℕ)
    others = sets_from (suc k) (a + 1) n

    count : length (sets_from k (a + 1) n) ≡ choose m k
    count = sets_from_count k (a + 1) m n (omega arith)

    long : length these ≡ choose m k
    long = length-map (sets_from k (a + 1) n) (λ s. a ∷ s) ∙ count

    go : Dec (r < choose m k) → (r < choose m k → get_or (sets_from k (a + 1) n) r [] ≡ set_by k (a + 1) m r)
        → (r - choose m k < choose m (suc k) → get_or others (r - choose m k) [] ≡ set_by (suc k) (a + 1) m (r - choose m k))
        → get_or (these ++ others) r [] ≡ cond (ltb r (choose m k)) (a ∷ set_by k (a + 1) m r) (set_by (suc k) (a + 1) m (r - choose m k))
    go (yes l) p q =
        get_or-append these others [] r (omega (arith, long)) ∙ get_d_map (λ s. a ∷ s) (sets_from k (a + 1) n) r [] [] (omega (arith, count))
        ∙ rw (lt-ltb r (choose m k) l) (ap (λ (t : List ℕ). a ∷ t) (p l))
    go (no l) p q =
        ap (λ (x : ℕ). get_or (these ++ others) x []) (let e = long in let z : r ≡ length these + (r - choose m k) = omega arith in z)
        ∙ get_or-append-add these others (r - choose m k) [] ∙ rw (le-ltb r (choose m k) (omega arith)) (q (omega arith))

pub set-by : (k n r : ℕ) → r < choose n k → get_or (sets_of k n) r [] ≡ set_by k 0 n r
set-by k n r h = set_by_from k 0 n n r (omega arith) h

-- ---- the one at a place, by its first number: a loop that looks for it stands at a, and n - a numbers are left

module _ (k a n r : ℕ) (h : r < choose (n - a) (k + 1)) where
  -- a number is left, as there is something to choose
  pub set_room : a < n
  set_room = go (dec_lt a n)
    where
      go : Dec (a < n) → a < n
      go (yes l) = l
      go (no l) = absurd (let e = choose_none (n - a) (k + 1) (omega arith) in omega arith)

  left : n - a ≡ suc (n - 1 - a)
  left = let l = set_room in omega arith

  -- those that begin with it, and the others
  pub set-take : r < choose (n - 1 - a) k → set_by (k + 1) a (n - a) r ≡ a ∷ set_by k (a + 1) (n - 1 - a) r
  unfolding set_by
  set-take l = (λ i. set_by (add-one k i) a (left i) r) ∙ rw (lt-ltb r (choose (n - 1 - a) k) l) refl

  pub set_skip : choose (n - 1 - a) k ≤ r
      → (r - choose (n - 1 - a) k < choose (n - (a + 1)) (k + 1)) × (set_by (k + 1) a (n - a) r ≡ set_by (k + 1) (a + 1) (n - (a + 1)) (r - choose (n - 1 - a) k))
  unfolding set_by choose
  set_skip l = (
    let p : choose (n - a) (k + 1) ≡ choose (suc (n - 1 - a)) (suc k) = λ i. choose (left i) (add-one k i) in
        let q : choose (n - 1 - a) (suc k) ≡ choose (n - (a + 1)) (k + 1) = λ i. choose (next i) (sym (add-one k) i) in
        omega (arith, h, l),
    (λ i. set_by (add-one k i) a (left i) r) ∙ rw (le-ltb r (choose (n - 1 - a) k) l) refl ∙ (λ i. set_by (sym (add-one k) i) (a + 1) (next i) (r - choose (n - 1 - a) k)),
  )
    where
      next : n - 1 - a ≡ n - (a + 1)
      next = omega arith

pub set_one : (a m r : ℕ) → r < m → set_by 1 a m r ≡ (a + r) ∷ []
unfolding set_by choose
set_one a zero r h = absurd (omega arith)
set_one a (suc m) zero h = ap (λ (x : ℕ). x ∷ []) (let e : a ≡ a + 0 = omega arith in e)
set_one a (suc m) (suc r) h =
    rw (le-ltb (suc r) 1 (omega arith)) (ap (set_by 1 (a + 1) m) (let e : suc r - 1 ≡ r = omega arith in e) ∙ set_one (a + 1) m r (omega arith) ∙ ap (λ (x : ℕ). x ∷ []) (let e : a + 1 + r ≡ a + suc r = omega arith in e))

-- ---- how many come after a list

-- the place among lists that all begin with a, and behind lists that do not begin so
place_these : (a : ℕ) (t : List ℕ) (ss us : List (List ℕ)) → place_of t ss < length ss → place_of (a ∷ t) (map (λ s. a ∷ s) ss ++ us) ≡ place_of t ss
unfolding place_of same_list
place_these a t [] us h = absurd (omega arith)
place_these a t (s ∷ ss) us h = rw (eq-eqb a a refl) (go (same_list t s) refl (place_these a t ss us))
  where
    go : (b : Bool) → same_list t s ≡ b → (place_of t ss < length ss → place_of (a ∷ t) (map (λ s. a ∷ s) ss ++ us) ≡ place_of t ss)
        → cond b 0 (suc (place_of (a ∷ t) (map (λ s. a ∷ s) ss ++ us))) ≡ cond b 0 (suc (place_of t ss))
    go true e ih = refl
    go false e ih = ap suc (ih (let z = rw e at h in omega arith))

place-others : (a i : ℕ) (t : List ℕ) (ss us : List (List ℕ)) → (i ≡ a → ⊥) → place_of (i ∷ t) (map (λ s. a ∷ s) ss ++ us) ≡ length ss + place_of (i ∷ t) us
unfolding place_of same_list
place-others a i t [] us ne = sym (zero-add (place_of (i ∷ t) us))
place-others a i t (s ∷ ss) us ne = rw (ne_eqb i a ne) (ap suc (place-others a i t ss us ne) ∙ sym (suc-add (length ss) (place_of (i ∷ t) us)))

later_from : (s : List ℕ) (a m n : ℕ) → n ≡ a + m → Within a s n → place_of s (sets_from (length s) a n) + suc (later_of n s) ≡ choose m (length s)
unfolding nest later_of place_of same_list choose
later_from [] a m n e w = refl
later_from (i ∷ s) a zero n e w = absurd (let l = w.0 in let u = w.1 in omega arith)
later_from (i ∷ s) a (suc m) n e w =
    ap (λ (ss : List (List ℕ)). place_of (i ∷ s) ss + suc (later_of n (i ∷ s))) (first_then (length s) a n (omega arith))
    ∙ go (ℕ_discrete i a) (later_from s (a + 1) m n (omega arith)) (later_from (i ∷ s) (a + 1) m n (omega arith))
  where
    these : List (List ℕ)
    these = sets_from (length s) (a + 1) n

    others : List (List ℕ)
    others = sets_from (suc (length s)) (a + 1) n

    count : length these ≡ choose m (length s)
    count = sets_from_count (length s) (a + 1) m n (omega arith)

    go : Dec (i ≡ a) → (Within (a + 1) s n → place_of s these + suc (later_of n s) ≡ choose m (length s))
        → (Within (a + 1) (i ∷ s) n → place_of (i ∷ s) others + suc (later_of n (i ∷ s)) ≡ choose m (suc (length s)))
        → place_of (i ∷ s) (map (λ t. a ∷ t) these ++ others) + suc (later_of n (i ∷ s)) ≡ choose m (length s) + choose m (suc (length s))
    go (yes z) p q =
        let ih = p (within_cast s (ap (λ (x : ℕ). x + 1) z) refl w.2) in
        let here = ap (λ (x : ℕ). place_of (x ∷ s) (map (λ t. a ∷ t) these ++ others)) z ∙ place_these a s these others (omega (arith, ih, count)) in
        let rest = ap (λ (x : ℕ). choose x (suc (length s))) (let y : n - 1 - i ≡ m = omega arith in y) in
        omega (arith, here, ih, rest)
    go (no ne) p q =
        let l = w.0 in
        let ih = q (omega arith, w.1, w.2) in
        let here = place-others a i s these others ne in
        omega (arith, here, ih, count)

pub place_later : (k n : ℕ) (s : List ℕ) → Within 0 s n → length s ≡ k → place_of s (sets_of k n) + suc (later_of n s) ≡ choose n k
place_later k n s w e = subst (λ (x : ℕ). place_of s (sets_of x n) + suc (later_of n s) ≡ choose n x) e (later_from s 0 n n (omega arith) w)

-- ---- the first list, the last one, and from one to the next

up-length : (k a : ℕ) → length (up_from k a) ≡ k
unfolding up_from
up-length zero a = refl
up-length (suc k) a = ap suc (up-length k (a + 1))

up_within : (k a n : ℕ) → a + k ≤ n → Within a (up_from k a) n
unfolding up_from
up_within zero a n h = tt
up_within (suc k) a n h = (omega arith, omega arith, up_within k (a + 1) n (omega arith))

-- all others come after the first
up_later : (k a n : ℕ) → a + k ≤ n → suc (later_of n (up_from k a)) ≡ choose (n - a) k
unfolding up_from later_of choose
up_later zero a n h = refl
up_later (suc k) a n h =
    let ih = up_later k (a + 1) n (omega arith) in
    let c = ap (λ (x : ℕ). choose (n - 1 - a) (suc x)) (up-length k (a + 1)) in
    let d = ap (λ (x : ℕ). choose x k) (let e : n - (a + 1) ≡ n - 1 - a = omega arith in e) in
    let p = ap (λ (x : ℕ). choose x (suc k)) (let e : n - a ≡ suc (n - 1 - a) = omega arith in e) in
    omega arith

-- none comes after one that begins as late as it can
late_later : (s : List ℕ) (a n : ℕ) → Within a s n → n ≤ a + length s → later_of n s ≡ 0
unfolding later_of
late_later [] a n w h = refl
late_later (i ∷ s) a n w h =
    let l = w.0 in let u = w.1 in
    λ j. choose_none (n - 1 - i) (suc (length s)) (omega arith) j + late_later s (i + 1) n w.2 (omega arith) j

last_later : (s : List ℕ) (a n : ℕ) → Within a s n → is_last n s ≡ true → later_of n s ≡ 0
unfolding is_last later_of
last_later [] a n w h = refl
last_later (i ∷ s) a n w h = let e = eqb-true (i + suc (length s)) n h in late_later (i ∷ s) i n (omega arith, w.1, w.2) (omega arith)

next_later : (s : List ℕ) (a n : ℕ) → Within a s n → is_last n s ≡ false → Within a (next_of n s) n × (length (next_of n s) ≡ length s) × (suc (later_of n (next_of n s)) ≡ later_of n s)
unfolding is_last next_of later_of
next_later [] a n w h = absurd (true≢false h)
next_later (i ∷ s) a n w h = go (is_last n s) refl (next_later s (i + 1) n w.2)
  where
    room : i + 1 + suc (length s) ≤ n
    room = let ne = eqb-false (i + suc (length s)) n h in let l = length_within s (i + 1) n w.2 in let u = w.1 in omega arith

    go : (b : Bool) → is_last n s ≡ b → (is_last n s ≡ false → Within (i + 1) (next_of n s) n × (length (next_of n s) ≡ length s) × (suc (later_of n (next_of n s)) ≡ later_of n s))
        → let t = cond b (up_from (suc (length s)) (i + 1)) (i ∷ next_of n s) in Within a t n × (length t ≡ suc (length s)) × (suc (later_of n t) ≡ later_of n (i ∷ s))
    go true e ih = (
      within_early (i + 1) a n (up_from (suc (length s)) (i + 1)) (let l = w.0 in omega arith) (up_within (suc (length s)) (i + 1) n room),
      up-length (suc (length s)) (i + 1),
      let p = up_later (suc (length s)) (i + 1) n room in
          let q = last_later s (i + 1) n w.2 e in
          let c = ap (λ (x : ℕ). choose x (suc (length s))) (let z : n - (i + 1) ≡ n - 1 - i = omega arith in z) in
          omega arith,
    )
    go false e ih = let r = ih e in (
      (w.0, w.1, r.0),
      ap suc r.1,
      let c = ap (λ (x : ℕ). choose (n - 1 - i) (suc x)) r.1 in let q = r.2 in omega arith,
    )

pub set_first : (k n : ℕ) → k ≤ n → get_or (sets_of k n) 0 [] ≡ up_from k 0
set_first k n h = ap (λ (r : ℕ). get_or (sets_of k n) r []) (sym front) ∙ (place_in k n (up_from k 0) within (up-length k 0)).1
  where
    within : Within 0 (up_from k 0) n
    within = up_within k 0 n (omega arith)

    front : place_of (up_from k 0) (sets_of k n) ≡ 0
    front = omega (arith, place_later k n (up_from k 0) within (up-length k 0), up_later k 0 n (omega arith), ap (λ (x : ℕ). choose x k) (let e : n - 0 ≡ n = omega arith in e))

pub next_place : (k n r : ℕ) → r + 1 < length (sets_of k n) → next_of n (get_or (sets_of k n) r []) ≡ get_or (sets_of k n) (r + 1) []
next_place k n r h = sym (place_in k n t after.0 long).1 ∙ ap (λ (q : ℕ). get_or (sets_of k n) q []) behind
  where
    s : List ℕ
    s = get_or (sets_of k n) r []

    t : List ℕ
    t = next_of n s

    at : Within 0 s n × (length s ≡ k)
    at = set_at k n r (omega arith)

    here : place_of s (sets_of k n) ≡ r
    here = place_at k n r (omega arith)

    all : place_of s (sets_of k n) + suc (later_of n s) ≡ choose n k
    all = place_later k n s at.0 at.1

    more : (b : Bool) → is_last n s ≡ b → is_last n s ≡ false
    more true e = absurd (let z = last_later s 0 n at.0 e in let c = sets_count k n in let p = here in let q = all in omega arith)
    more false e = e

    after : Within 0 t n × (length t ≡ length s) × (suc (later_of n t) ≡ later_of n s)
    after = next_later s 0 n at.0 (more (is_last n s) refl)

    long : length t ≡ k
    long = after.1 ∙ at.1

    behind : place_of t (sets_of k n) ≡ r + 1
    behind = let p = place_later k n t after.0 long in let q = after.2 in let c = all in let d = here in omega arith
