-- Where the numbered circuits come from: each is made of three shots on a line or of four with no three on a line, and each such set makes one.
--
--   three_of l s, four_of l s      the circuit of a list of shots, or none
--   threes-nest, fours-nest      the loops go through the increasing lists of three and of four shots
--   Three, Four                  three and four shots in order; `three_within`, `four_within`: as lists
--   OnLine l t, NoneOnLine l q   the three are on a line; no three of the four are
--   Source l z                   how z was made; `Of l s z`: of the shots s
--   three_out, four_out          what is listed for the shots s is made of them
--   sources, source_numbered     every numbered circuit has a source; what has a source is numbered
--   Made n z                     z is split from terms with signs, their shots increasing and below n; `made`: every source makes a circuit so
--   source_at, made_at           so was circuit z
use Rattle.std.specs.Prelude.{◌≡◌, ℕ, ◌+◌, ◌<◌, ◌≤◌, Bool, true, false, not, List, [], ◌∷◌, length, ℤ}
use mathlib.Core.Path.{refl, sym, ◌∙◌, ap, subst}
use mathlib.Core.Logic.{⊎_elim}
use mathlib.Core.List.Memᴰ
use mathlib.Core.List.{Memᴰ}
use native.Mathlib.Omega.{arith}
use borrow.Author.Tests.{not-true}
use Rattle.algebra.specs.Sets.{Within, nest}
use Rattle.algebra.specs.Sign.{opposite, is_nought}
use Rattle.algebra.proofs.ListLaws.{get_d_mem}
use Rattle.algebra.proofs.SetLaws.{nest_in, nest_out}
use Rattle.algebra.proofs.SignLaws.{opposite-signed}
use Rattle.shots.specs.Patch.{count_of, orient_of, between_of}
use Rattle.circuits.specs.Sides.{TwoSides, Term, split}
use Rattle.circuits.specs.Numbering.{one_if, end_sign, terms3, terms4, flat_among, three, threes_with, threes_from, threes, four, fours_upon, fours_with, fours_from, fours, circuits_of}
use Rattle.circuits.specs.Calls.{circuit_at}
use Rattle.circuits.proofs.MaskLaws.{Signed}
use Rattle.circuits.proofs.SideLaws.{shots_of}
use Rattle.circuits.proofs.StepLaws.{end-signed, none_of}

abbrev pub three_of : List ℤ → List ℕ → List TwoSides
three_of l [] = []
three_of l (a ∷ []) = []
three_of l (a ∷ b ∷ []) = []
three_of l (a ∷ b ∷ c ∷ []) = three l a b c
three_of l (a ∷ b ∷ c ∷ d ∷ s) = []

abbrev pub four_of : List ℤ → List ℕ → List TwoSides
four_of l [] = []
four_of l (a ∷ []) = []
four_of l (a ∷ b ∷ []) = []
four_of l (a ∷ b ∷ c ∷ []) = []
four_of l (a ∷ b ∷ c ∷ d ∷ []) = four l a b c d
four_of l (a ∷ b ∷ c ∷ d ∷ e ∷ s) = []

pub threes-nest : (l : List ℤ) → threes l ≡ nest 3 (three_of l) 0 (count_of l)
unfolding threes threes_from threes_with nest
threes-nest l = refl

pub fours-nest : (l : List ℤ) → fours l ≡ nest 4 (four_of l) 0 (count_of l)
unfolding fours fours_from fours_with fours_upon nest
fours-nest l = refl

-- ---- three and four shots in order

pub record Three (n : ℕ) : Type 0 where
  pub a : ℕ
  pub b : ℕ
  pub c : ℕ
  pub ab : a < b
  pub bc : b < c
  pub cn : c < n

pub record Four (n : ℕ) : Type 0 where
  pub a : ℕ
  pub b : ℕ
  pub c : ℕ
  pub d : ℕ
  pub ab : a < b
  pub bc : b < c
  pub cd : c < d
  pub dn : d < n

after : {i j : ℕ} → i + 1 ≤ j → i < j
after h = omega arith

behind : {i j : ℕ} → i < j → i + 1 ≤ j
behind h = omega arith

abbrev three_at : (n a b c : ℕ) → Within 0 (a ∷ b ∷ c ∷ []) n → Three n
three_at n a b c w = record { a = a; b = b; c = c; ab = after w.2.0; bc = after w.2.2.0; cn = w.2.2.1 }

abbrev four_at : (n a b c d : ℕ) → Within 0 (a ∷ b ∷ c ∷ d ∷ []) n → Four n
four_at n a b c d w = record { a = a; b = b; c = c; d = d; ab = after w.2.0; bc = after w.2.2.0; cd = after w.2.2.2.0; dn = w.2.2.2.1 }

pub three_within : {n : ℕ} (t : Three n) → Within 0 (t.a ∷ t.b ∷ t.c ∷ []) n
three_within t =
    let p = t.ab in let q = t.bc in let r = t.cn in
    (omega arith, omega arith, (behind p, omega arith, (behind q, r, tt)))

pub four_within : {n : ℕ} (q : Four n) → Within 0 (q.a ∷ q.b ∷ q.c ∷ q.d ∷ []) n
four_within q =
    let h = q.ab in let i = q.bc in let j = q.cd in let k = q.dn in
    (omega arith, omega arith, (behind h, omega arith, (behind i, omega arith, (behind j, k, tt))))

-- ---- from a circuit to its shots and back

module _ (l : List ℤ) where
  abbrev n : ℕ
  n = count_of l

  abbrev pub OnLine : Three n → Type 0
  OnLine t = is_nought (orient_of l t.a t.b t.c) ≡ true

  abbrev pub NoneOnLine : Four n → Type 0
  NoneOnLine q = flat_among l q.a q.b q.c q.d ≡ false

  pub data Source : TwoSides → Type 0 where
    from3 : (t : Three n) → OnLine t → Source (split (terms3 l t.a t.b t.c))
    from4 : (q : Four n) → NoneOnLine q → Source (split (terms4 l q.a q.b q.c q.d))

  -- of which shots
  abbrev pub shots : {z : TwoSides} → Source z → List ℕ
  shots (from3 t h) = t.a ∷ t.b ∷ t.c ∷ []
  shots (from4 q h) = q.a ∷ q.b ∷ q.c ∷ q.d ∷ []

  -- one circuit or none
  one_out : (b : Bool) (z x : TwoSides) → Memᴰ x (one_if b z) → (b ≡ true) × (x ≡ z)
  unfolding one_if
  one_out true z x m = (refl, Memᴰ.eq_of_singleton m)
  one_out false z x m = absurd (Memᴰ.not-nil m)

  one_in : (b : Bool) (z : TwoSides) → b ≡ true → Memᴰ z (one_if b z)
  unfolding one_if
  one_in b z h = rw h (Memᴰ.head refl)

  -- a source of z with the shots s
  abbrev pub Of : List ℕ → TwoSides → Type 0
  Of s z = (k : Source z) × (shots k ≡ s)

  pub three_out : (s : List ℕ) {z : TwoSides} → Within 0 s n → Memᴰ z (three_of l s) → Of s z
  unfolding three
  three_out [] w m = absurd (Memᴰ.not-nil m)
  three_out (a ∷ []) w m = absurd (Memᴰ.not-nil m)
  three_out (a ∷ b ∷ []) w m = absurd (Memᴰ.not-nil m)
  three_out (a ∷ b ∷ c ∷ []) {z} w m =
      let r = one_out (is_nought (orient_of l a b c)) (split (terms3 l a b c)) z m in
      subst (Of (a ∷ b ∷ c ∷ [])) (sym r.1) (from3 (three_at n a b c w) r.0, refl)
  three_out (a ∷ b ∷ c ∷ d ∷ s) w m = absurd (Memᴰ.not-nil m)

  pub four_out : (s : List ℕ) {z : TwoSides} → Within 0 s n → Memᴰ z (four_of l s) → Of s z
  unfolding four
  four_out [] w m = absurd (Memᴰ.not-nil m)
  four_out (a ∷ []) w m = absurd (Memᴰ.not-nil m)
  four_out (a ∷ b ∷ []) w m = absurd (Memᴰ.not-nil m)
  four_out (a ∷ b ∷ c ∷ []) w m = absurd (Memᴰ.not-nil m)
  four_out (a ∷ b ∷ c ∷ d ∷ []) {z} w m =
      let r = one_out (not (flat_among l a b c d)) (split (terms4 l a b c d)) z m in
      subst (Of (a ∷ b ∷ c ∷ d ∷ [])) (sym r.1) (from4 (four_at n a b c d w) (not-true (flat_among l a b c d) r.0), refl)
  four_out (a ∷ b ∷ c ∷ d ∷ e ∷ s) w m = absurd (Memᴰ.not-nil m)

  pub sources : {z : TwoSides} → Memᴰ z (circuits_of l) → Source z
  unfolding circuits_of
  sources {z} m =
      ⊎_elim
      (λ k. let r = nest_out 3 (three_of l) 0 n (subst (Memᴰ z) (threes-nest l) k) in (three_out r.0 r.1 r.3).0)
      (λ k. let r = nest_out 4 (four_of l) 0 n (subst (Memᴰ z) (fours-nest l) k) in (four_out r.0 r.1 r.3).0)
      (Memᴰ.append_cases (threes l) m)

  pub source_numbered : {z : TwoSides} → Source z → Memᴰ z (circuits_of l)
  unfolding circuits_of three four
  source_numbered (from3 t h) =
      Memᴰ.append_left (fours l)
      (subst (Memᴰ (split (terms3 l t.a t.b t.c))) (sym (threes-nest l))
      (nest_in 3 (three_of l) 0 n (t.a ∷ t.b ∷ t.c ∷ []) (three_within t) refl (one_in (is_nought (orient_of l t.a t.b t.c)) (split (terms3 l t.a t.b t.c)) h)))
  source_numbered (from4 q h) =
      Memᴰ.append_right (threes l)
      (subst (Memᴰ (split (terms4 l q.a q.b q.c q.d))) (sym (fours-nest l))
      (nest_in 4 (four_of l) 0 n (q.a ∷ q.b ∷ q.c ∷ q.d ∷ []) (four_within q) refl (one_in (not (flat_among l q.a q.b q.c q.d)) (split (terms4 l q.a q.b q.c q.d)) (ap not h))))

-- ---- what every circuit is made of

pub record Made (n : ℕ) (z : TwoSides) : Type 0 where
  pub first : Term
  pub rest : List Term
  pub is : z ≡ split (first ∷ rest)
  pub signed : Signed (first ∷ rest)
  pub within : Within 0 (shots_of (first ∷ rest)) n

unfoldable pub made : (l : List ℤ) {z : TwoSides} → Source l z → Made (count_of l) z
made l (from3 t h) =
    record {
      first = record { shot = t.a; sign = end_sign (between_of l t.a t.b t.c) };
      rest = record { shot = t.b; sign = end_sign (between_of l t.b t.a t.c) } ∷ record { shot = t.c; sign = end_sign (between_of l t.c t.a t.b) } ∷ [];
      is = refl;
      signed = (end-signed (between_of l t.a t.b t.c), (end-signed (between_of l t.b t.a t.c), (end-signed (between_of l t.c t.a t.b), tt)));
      within = three_within t;
    }
made l (from4 q h) =
    let o = none_of (is_nought (orient_of l q.b q.c q.d)) (is_nought (orient_of l q.a q.c q.d)) (is_nought (orient_of l q.a q.b q.d)) (is_nought (orient_of l q.a q.b q.c)) h in
    record {
      first = record { shot = q.a; sign = orient_of l q.b q.c q.d };
      rest = record { shot = q.b; sign = opposite (orient_of l q.a q.c q.d) } ∷ record { shot = q.c; sign = orient_of l q.a q.b q.d } ∷ record { shot = q.d; sign = opposite (orient_of l q.a q.b q.c) } ∷ [];
      is = refl;
      signed = (o.0, (opposite-signed (orient_of l q.a q.c q.d) ∙ o.1, (o.2, (opposite-signed (orient_of l q.a q.b q.c) ∙ o.3, tt))));
      within = four_within q;
    }

module _ (l : List ℤ) (z : ℕ) (h : z < length (circuits_of l)) where
  pub source_at : Source l (circuit_at l z)
  source_at = sources l (get_d_mem (circuits_of l) (record { plus = []; minus = [] }) z h)

  pub made_at : Made (count_of l) (circuit_at l z)
  made_at = made l source_at
