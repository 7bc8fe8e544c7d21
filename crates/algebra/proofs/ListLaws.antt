-- Places in a list, a member and the others, and lists whose members are apart.
--
--   get_d_mem, mem_get_d    what stands at a place is in the list, and what is in the list stands at a place
--   get_d_map              what stands at a place of a mapped list, whatever stands for no place
--   two_parts             two numbers as a list
--   some-member           a member with a property, or none has it
--   each-cons, neither    what each member of a list has, and what is no member of it, from its head on
--   Split a xs            xs as what stands before a, a itself, and what stands behind it; `split_at`: a member splits its list
--   middle, around        what is in the list is a or one of the others; the others are in the list
--   Apart R xs            an earlier and a later member of xs are always related by R
--   apart-append, apart_at, apart_more    joined lists; the members at two places; related by more
--   Other x y             x and y are different; `apart-map`: the members of a mapped list are
--   apart_middle          where all members are different, none stands a second time among the others
--   places_apart          they are where no two places hold the same
--   apart_fewer           a list of different members has at most as many as one that holds them all
--   exactly_apart, exactly-length    a list of different members with a property; two such lists are of one length
--   kept f xs             those of xs that pass f
--   kept_in, kept_out, kept_apart    what is in it; its members are different where those of xs are
use mathlib.Core.Path.{◌≡◌, refl, sym, ◌∙◌, ap, subst}
use mathlib.Core.Logic.{◌⊎◌, inl, inr, ⊎_elim, ◌↔◌}
use mathlib.Core.Bool.{Bool, true, false, cond, false≢true}
use mathlib.Core.List.Memᴰ
use mathlib.Core.List.{List, [], ◌∷◌, ◌++◌, map, Memᴰ}
use Prim.Native.Nat.{ℕ, zero, suc, ◌≤◌, ◌<◌}
use native.Mathlib.Omega.{arith}
use native.Mathlib.Nat.{not-suc-le-zero}
use lib.ListN.{length, get_or, length-append}
use Rattle.algebra.specs.Sets.{Exactly}

pub two_parts : {i j k l : ℕ} → ◌≡◌ {A = List ℕ} (i ∷ j ∷ []) (k ∷ l ∷ []) → (i ≡ k) × (j ≡ l)
two_parts e = (ap (λ (s : List ℕ). get_or s 0 0) e, ap (λ (s : List ℕ). get_or s 1 0) e)

module _ {A B : Type 0} (g : A → B) where
  pub get_d_map : (xs : List A) (i : ℕ) (d : A) (e : B) → i < length xs → get_or (map g xs) i e ≡ g (get_or xs i d)
  get_d_map [] i d e h = absurd (not-suc-le-zero h)
  get_d_map (x ∷ xs) zero d e h = refl
  get_d_map (x ∷ xs) (suc i) d e h = get_d_map xs i d e (omega arith)

module _ {A : Type 0} where
  pub get_d_mem : (xs : List A) (d : A) (i : ℕ) → i < length xs → Memᴰ (get_or xs i d) xs
  get_d_mem [] d i h = absurd (not-suc-le-zero h)
  get_d_mem (x ∷ xs) d zero h = Memᴰ.head refl
  get_d_mem (x ∷ xs) d (suc i) h = Memᴰ.tail (get_d_mem xs d i (omega arith))

  pub mem_get_d : (xs : List A) (d : A) {a : A} → Memᴰ a xs → (i : ℕ) × (i < length xs) × (get_or xs i d ≡ a)
  mem_get_d [] d m = absurd (Memᴰ.not-nil m)
  mem_get_d (x ∷ xs) d {a} m = go (Memᴰ.cases_cons m) (λ n. mem_get_d xs d n)
    where
      go : (a ≡ x) ⊎ Memᴰ a xs → (Memᴰ a xs → (i : ℕ) × (i < length xs) × (get_or xs i d ≡ a)) → (i : ℕ) × (i < length (x ∷ xs)) × (get_or (x ∷ xs) i d ≡ a)
      go (inl e) ih = (0, omega arith, sym e)
      go (inr n) ih = let r = ih n in (suc r.0, up r.1, r.2)
        where
          up : {i : ℕ} → i < length xs → suc i < length (x ∷ xs)
          up h = omega arith

  pub some-member : (C : A → Type 0) → ((a : A) → Dec (C a)) → (xs : List A) → ((a : A) × Memᴰ a xs × C a) ⊎ ((a : A) → Memᴰ a xs → C a → ⊥)
  some-member C d [] = inr (λ a m c. Memᴰ.not-nil m)
  some-member C d (x ∷ xs) = go (d x) (some-member C d xs)
    where
      go : Dec (C x) → ((a : A) × Memᴰ a xs × C a) ⊎ ((a : A) → Memᴰ a xs → C a → ⊥) → ((a : A) × Memᴰ a (x ∷ xs) × C a) ⊎ ((a : A) → Memᴰ a (x ∷ xs) → C a → ⊥)
      go (yes c) r = inl (x, Memᴰ.head refl, c)
      go (no c) (inl (a, m, k)) = inl (a, Memᴰ.tail m, k)
      go (no c) (inr none) = inr (λ a m k. ⊎_elim (λ (e : a ≡ x). c (subst C e k)) (λ h. none a h k) (Memᴰ.cases_cons m))

  pub each-cons : (Q : A → Type 0) {a : A} {xs : List A} → Q a → ((b : A) → Memᴰ b xs → Q b) → (b : A) → Memᴰ b (a ∷ xs) → Q b
  each-cons Q q h b m = ⊎_elim (λ e. subst Q (sym e) q) (h b) (Memᴰ.cases_cons m)

  pub neither : {a b : A} {xs : List A} → (b ≡ a → ⊥) → (Memᴰ b xs → ⊥) → Memᴰ b (a ∷ xs) → ⊥
  neither h k m = ⊎_elim h k (Memᴰ.cases_cons m)

  -- ---- a member and the others

  pub record Split (a : A) (xs : List A) : Type 0 where
    pub front : List A
    pub back : List A
    pub is : xs ≡ front ++ a ∷ back

  pub split_at : (a : A) (xs : List A) → Memᴰ a xs → Split a xs
  split_at a [] m = absurd (Memᴰ.not-nil m)
  split_at a (x ∷ xs) m =
      ⊎_elim (λ (e : a ≡ x). record { front = []; back = xs; is = ap (λ (y : A). y ∷ xs) (sym e) })
      (λ k. let r = split_at a xs k in record { front = x ∷ r.front; back = r.back; is = ap (λ (ys : List A). x ∷ ys) r.is }) (Memᴰ.cases_cons m)

  pub middle : {a b : A} (p q : List A) → Memᴰ b (p ++ a ∷ q) → (b ≡ a) ⊎ Memᴰ b (p ++ q)
  middle p q m = ⊎_elim (λ k. inr (Memᴰ.append_left q k)) (λ k. ⊎_elim inl (λ h. inr (Memᴰ.append_right p h)) (Memᴰ.cases_cons k)) (Memᴰ.append_cases p m)

  pub around : {b : A} (a : A) (p q : List A) → Memᴰ b (p ++ q) → Memᴰ b (p ++ a ∷ q)
  around a p q m = ⊎_elim (Memᴰ.append_left (a ∷ q)) (λ k. Memᴰ.append_right p (Memᴰ.tail k)) (Memᴰ.append_cases p m)

  -- ---- members apart

  module _ (R : A → A → Type 0) where
    abbrev pub Apart : List A → Type 0
    Apart [] = Unit {0}
    Apart (x ∷ xs) = ((y : A) → Memᴰ y xs → R x y) × Apart xs

    pub apart-append : (xs ys : List A) → Apart xs → Apart ys → ((x y : A) → Memᴰ x xs → Memᴰ y ys → R x y) → Apart (xs ++ ys)
    apart-append [] ys p q h = q
    apart-append (x ∷ xs) ys p q h =
        (λ y m. ⊎_elim (p.0 y) (h x y (Memᴰ.head refl)) (Memᴰ.append_cases xs m), apart-append xs ys p.1 q (λ a b m n. h a b (Memᴰ.tail m) n))

    pub apart_at : (xs : List A) (d : A) (i j : ℕ) → Apart xs → i < j → j < length xs → R (get_or xs i d) (get_or xs j d)
    apart_at [] d i j p h l = absurd (not-suc-le-zero l)
    apart_at (x ∷ xs) d i zero p h l = absurd (not-suc-le-zero h)
    apart_at (x ∷ xs) d zero (suc j) p h l = p.0 (get_or xs j d) (get_d_mem xs d j (omega arith))
    apart_at (x ∷ xs) d (suc i) (suc j) p h l = apart_at xs d i j p.1 (omega arith) (omega arith)

pub apart_more : {A : Type 0} (R Q : A → A → Type 0) (xs : List A) → ((x y : A) → R x y → Q x y) → Apart R xs → Apart Q xs
apart_more R Q [] h p = tt
apart_more R Q (x ∷ xs) h p = (λ y m. h x y (p.0 y m), apart_more R Q xs h p.1)

-- ---- lists whose members are all different

abbrev pub Other : {A : Type 0} → A → A → Type 0
Other x y = x ≡ y → ⊥

pub apart-map : {A B : Type 0} (f : A → B) (xs : List A) → Apart Other xs → ((x y : A) → Memᴰ x xs → Memᴰ y xs → f x ≡ f y → x ≡ y) → Apart Other (map f xs)
apart-map f [] p h = tt
apart-map f (x ∷ xs) p h =
    (λ v m e. let (y, k, q) = Memᴰ.of_map f xs m in p.0 y k (h x y (Memᴰ.head refl) (Memᴰ.tail k) (e ∙ sym q)), apart-map f xs p.1 (λ y z m k. h y z (Memᴰ.tail m) (Memᴰ.tail k)))

pub apart_middle : {A : Type 0} (p : List A) (a : A) (q : List A) → Apart Other (p ++ a ∷ q) → Memᴰ a (p ++ q) → ⊥
apart_middle [] a q h m = h.0 a m refl
apart_middle (x ∷ p) a q h m = ⊎_elim (λ e. h.0 a (Memᴰ.append_right p (Memᴰ.head refl)) (sym e)) (apart_middle p a q h.1) (Memᴰ.cases_cons m)

pub places_apart : {A : Type 0} (d : A) (xs : List A) → ((i j : ℕ) → i < j → j < length xs → get_or xs i d ≡ get_or xs j d → ⊥) → Apart Other xs
places_apart d [] h = tt
places_apart d (x ∷ xs) h = (λ y m e. let (i, l, q) = mem_get_d xs d m in h 0 (suc i) (omega arith) (omega arith) (e ∙ sym q), places_apart d xs (λ i j k l. h (suc i) (suc j) (omega arith) (omega arith)))

pub apart_fewer : {A : Type 0} (xs ys : List A) → Apart Other xs → ((x : A) → Memᴰ x xs → Memᴰ x ys) → length xs ≤ length ys
apart_fewer [] ys p h = omega arith
apart_fewer {A} (x ∷ xs) ys p h = go (split_at x ys (h x (Memᴰ.head refl))) (apart_fewer xs)
  where
    go : Split x ys → ((zs : List A) → Apart Other xs → ((y : A) → Memᴰ y xs → Memᴰ y zs) → length xs ≤ length zs) → length (x ∷ xs) ≤ length ys
    go s ih =
        let fewer = ih (s.front ++ s.back) p.1 (λ y m. ⊎_elim (λ e. absurd (p.0 y m (sym e))) (λ k. k) (middle s.front s.back (subst (Memᴰ y) s.is (h y (Memᴰ.tail m))))) in
        rw s.is (omega (arith, length-append s.front (x ∷ s.back), length-append s.front s.back))

module _ {A : Type 0} {d : A} {Q : A → Type 0} where
  pub exactly_apart : (xs : List A) → ((x : A) → Memᴰ x xs ↔ Q x) → Apart Other xs → Exactly d Q xs
  exactly_apart xs h p = record { each = h; once = λ i j. apart_at Other xs d i j p }

  exactly_fewer : {xs ys : List A} → Exactly d Q xs → Exactly d Q ys → length xs ≤ length ys
  exactly_fewer {xs} {ys} p q = apart_fewer xs ys (places_apart d xs p.once) (λ x m. (q.each x).1 ((p.each x).0 m))

  pub exactly-length : {xs ys : List A} → Exactly d Q xs → Exactly d Q ys → length xs ≡ length ys
  exactly-length p q = omega (arith, exactly_fewer p q, exactly_fewer q p)

-- those of a list that pass a test
abbrev pub kept : {A : Type 0} → (A → Bool) → List A → List A
kept f [] = []
kept f (x ∷ xs) = cond (f x) (x ∷ kept f xs) (kept f xs)

module _ {A : Type 0} (f : A → Bool) where
  pub kept_out : (x : A) (xs : List A) → Memᴰ x (kept f xs) → Memᴰ x xs × (f x ≡ true)
  kept_out x [] m = absurd (Memᴰ.not-nil m)
  kept_out x (y ∷ xs) m = go (f y) refl (kept_out x xs) m
    where
      go : (b : Bool) → f y ≡ b → (Memᴰ x (kept f xs) → Memᴰ x xs × (f x ≡ true)) → Memᴰ x (cond b (y ∷ kept f xs) (kept f xs)) → Memᴰ x (y ∷ xs) × (f x ≡ true)
      go true e ih m = ⊎_elim (λ q. (Memᴰ.head q, ap f q ∙ e)) (λ k. let r = ih k in (Memᴰ.tail r.0, r.1)) (Memᴰ.cases_cons m)
      go false e ih m = let r = ih m in (Memᴰ.tail r.0, r.1)

  pub kept_in : (x : A) (xs : List A) → Memᴰ x xs → f x ≡ true → Memᴰ x (kept f xs)
  kept_in x [] m e = absurd (Memᴰ.not-nil m)
  kept_in x (y ∷ xs) m e = go (f y) refl (λ k. kept_in x xs k e) (Memᴰ.cases_cons m)
    where
      go : (b : Bool) → f y ≡ b → (Memᴰ x xs → Memᴰ x (kept f xs)) → (x ≡ y) ⊎ Memᴰ x xs → Memᴰ x (cond b (y ∷ kept f xs) (kept f xs))
      go true q ih (inl h) = Memᴰ.head h
      go true q ih (inr k) = Memᴰ.tail (ih k)
      go false q ih (inl h) = absurd (false≢true (sym q ∙ ap f (sym h) ∙ e))
      go false q ih (inr k) = ih k

  pub kept_apart : (xs : List A) → Apart Other xs → Apart Other (kept f xs)
  kept_apart [] p = tt
  kept_apart (x ∷ xs) p = go (f x) (kept_apart xs p.1)
    where
      go : (b : Bool) → Apart Other (kept f xs) → Apart Other (cond b (x ∷ kept f xs) (kept f xs))
      go true q = (λ y m. p.0 y (kept_out y xs m).0, q)
      go false q = q
