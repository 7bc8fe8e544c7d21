-- Volumes, bases and fundamental circuits, in any dimension. A basis and one point more carry one dependency, whose weights are the volumes of the others; its signs are a circuit.
--
--   volume-front, volume_repeated    a volume is 0 where it is 0 with a point moved to the front, and where a point stands twice
--   Basis n P B            some of the first n points, in any order, whose volume is not 0; `simplex_basis`: a simplex is one
--   basis_once             no point stands twice in a basis
--   volumes_balance        points of one list, each weighed with the volume of the others, the signs alternating, balance in every column of the matrix
--   weights P s            for each place of s the volume of the other points, with alternating signs; 0 elsewhere
--   weights_off, weights_at, weights_on, weights_under    their values; where they are not 0; they live where f does
--   weigh                  a sum with such weights, as an alternating sum
--   weights_dependency     they are a dependency (Cramer's rule)
--   dep-volume             a dependency weighs to 0 the volumes of its points joined with the same others
--   independent            a dependency that lives on a basis is 0 everywhere
--   exchange               a point of a basis that has a weight may be exchanged for the one more
--   Elementary n P f       f is the weights of a basis and one point more
--
-- Main theorems: `elementary_dependency`, `elementary_somewhere`, `elementary_circuit`.
use mathlib.Core.Path.{◌≡◌, refl, sym, ◌∙◌, ap, subst}
use mathlib.Core.Logic.{◌⊎◌, inl, inr, ⊎_elim}
use mathlib.Core.List.Memᴰ
use mathlib.Core.List.{List, [], ◌∷◌, ◌++◌, Memᴰ}
use Prim.Native.Nat.{ℕ, zero, suc, ◌<◌}
use native.Mathlib.Omega.{arith}
use lib.ListN.{length}
use lib.IntN.{ℤ, pos, negsuc, ◌+ℤ◌, ◌*ℤ◌, *ℤ_comm}
use Rattle.algebra.specs.Sign.{NZ, sign_of}
use Rattle.algebra.specs.Sum.{sum, unit}
use Rattle.algebra.proofs.ListLaws.{Split, split_at, middle, around, apart_middle}
use Rattle.algebra.proofs.LoopLaws.{tabulate_in, tabulate_out}
use Rattle.algebra.proofs.Ring.{cst, var, ◌⊕◌, ◌⊝◌, ◌⊗◌, ring}
use Rattle.algebra.proofs.SetTests.{mem_on, dec_mem, on_low}
use Rattle.algebra.proofs.SignLaws.{mul-zero, zero-mul, zero_of_mul, zero_if, sign_of-zero}
use Rattle.algebra.proofs.SumLaws.{sum_cong, sum_lin, sum_lone, sum_none, sum-unit}
use Rattle.matroid.specs.Configurations.{Configuration, row, rank, volume, Simplex}
use Rattle.matroid.specs.Determinants.{alt, det, columns}
use Rattle.matroid.specs.Dependencies.{Dependency, Somewhere}
use Rattle.matroid.specs.Circuits.{Circuit}
use Rattle.matroid.proofs.Determinants.{alt_same, alt_none, alternate, alternate-zero, alt_off, alt_at, Swaps, repeated, swaps_apart, to_front, by_column, rows_swap, columns_swap}
use Rattle.matroid.proofs.Dependent.{somewhere_nowhere, also_at, dep-row}

-- ---- volumes

module _ (P : Configuration) where
  volume_swaps : Swaps (volume P)
  volume_swaps = rows_swap (row P) (columns (rank P))

  pub volume_repeated : (i : ℕ) (s : List ℕ) → Memᴰ i s → volume P (i ∷ s) ≡ pos 0
  volume_repeated = repeated (volume P) volume_swaps

  pub volume-front : (p : List ℕ) (i : ℕ) (q : List ℕ) → volume P (i ∷ p ++ q) ≡ pos 0 → volume P (p ++ i ∷ q) ≡ pos 0
  volume-front = to_front (volume P) volume_swaps

pub record Basis (n : ℕ) (P : Configuration) (B : List ℕ) : Type 0 where
  pub low : (i : ℕ) → Memᴰ i B → i < n
  pub nz : NZ (volume P B)

pub simplex_basis : {n : ℕ} {P : Configuration} {s : List ℕ} → Simplex n P s → Basis n P s
simplex_basis {n} {P} {s} h = record { low = λ i m. (on_low s 0 n i h.within ((mem_on i s).0 m)).1; nz = λ e. h.full (sign_of-zero (volume P s) e) }

pub basis_once : {n : ℕ} {P : Configuration} {B : List ℕ} → Basis n P B → (i : ℕ) (r : Split i B) → Memᴰ i (r.front ++ r.back) → ⊥
basis_once {n} {P} b i r = apart_middle r.front i r.back (swaps_apart (volume P) (volume_swaps P) (r.front ++ i ∷ r.back) (λ e. b.nz (ap (volume P) r.is ∙ e)))

-- ---- weights

-- the determinant with a column twice
pub volumes_balance : (P : Configuration) (s : List ℕ) (c : ℕ) → c < rank P → alt (volume P) s (λ m. row P m c) ≡ pos 0
volumes_balance P s c l =
    sym (by_column (row P) s c (columns (rank P))) ∙ repeated (det (row P) s) (columns_swap (row P) s) c (columns (rank P)) (tabulate_in (λ i. i) (rank P) c l)

abbrev pub weights : Configuration → List ℕ → ℕ → ℤ
weights P s m = alt (volume P) s (λ i. unit i m)

module _ (P : Configuration) (s : List ℕ) (m : ℕ) where
  pub weights_off : (Memᴰ m s → ⊥) → weights P s m ≡ pos 0
  weights_off = alt_off (volume P) s m

  pub weights_at : (r : Split m s) → (Memᴰ m (r.front ++ r.back) → ⊥) → weights P s m ≡ alternate (length r.front) (volume P (r.front ++ r.back))
  weights_at r off = ap (λ (t : List ℕ). weights P t m) r.is ∙ alt_at (volume P) r.front r.back m off

  pub weights_on : NZ (weights P s m) → Memᴰ m s
  weights_on nz = go (dec_mem m s)
    where
      go : Dec (Memᴰ m s) → Memᴰ m s
      go (yes k) = k
      go (no k) = absurd (nz (weights_off k))

  pub weights_under : (f : ℕ → ℤ) → ((i : ℕ) → Memᴰ i s → NZ (f i)) → f m ≡ pos 0 → weights P s m ≡ pos 0
  weights_under f nz e = weights_off (λ k. nz m k e)

module _ (n : ℕ) where
  alt-sum : {A : Type 0} (f : ℕ → ℤ) (D : List A → ℤ) (s : List A) (Q : ℕ → A → ℤ) → sum n (λ m. f m *ℤ alt D s (Q m)) ≡ alt D s (λ a. sum n (λ m. f m *ℤ Q m a))
  alt-sum f D [] Q = sum_none n (λ m. f m *ℤ pos 0) (λ m l. mul-zero (f m) refl)
  alt-sum f D (a ∷ s) Q =
      sum_cong n (λ m. ring (f m ∷ Q m a ∷ D s ∷ alt (λ t. D (a ∷ t)) s (Q m) ∷ []) (var 0 ⊗ (var 1 ⊗ var 2 ⊝ var 3)) (var 2 ⊗ (var 0 ⊗ var 1) ⊕ cst (negsuc 0) ⊗ (var 0 ⊗ var 3)) tt)
      ∙ sum_lin n (D s) (negsuc 0) (λ m. f m *ℤ Q m a) (λ m. f m *ℤ alt (λ t. D (a ∷ t)) s (Q m))
      ∙ ap (λ z. D s *ℤ sum n (λ m. f m *ℤ Q m a) +ℤ negsuc 0 *ℤ z) (alt-sum f (λ t. D (a ∷ t)) s Q)
      ∙ ring (D s ∷ sum n (λ m. f m *ℤ Q m a) ∷ alt (λ t. D (a ∷ t)) s (λ b. sum n (λ m. f m *ℤ Q m b)) ∷ []) (var 0 ⊗ var 1 ⊕ cst (negsuc 0) ⊗ var 2) (var 1 ⊗ var 0 ⊝ var 2) tt

  pub weigh : (P : Configuration) (s : List ℕ) → ((i : ℕ) → Memᴰ i s → i < n) → (g : ℕ → ℤ) → sum n (λ m. weights P s m *ℤ g m) ≡ alt (volume P) s g
  weigh P s low g =
      sum_cong n (λ m. *ℤ_comm (weights P s m) (g m)) ∙ alt-sum g (volume P) s (λ m i. unit i m)
      ∙ alt_same (volume P) s (λ i k. sum_cong n (λ m. *ℤ_comm (g m) (unit i m)) ∙ sum-unit n i g (low i k))

module _ (n : ℕ) (P : Configuration) where
  pub weights_dependency : (s : List ℕ) → ((i : ℕ) → Memᴰ i s → i < n) → Dependency n P (weights P s)
  weights_dependency s low = record {
    ones = sum_cong n (λ m. ring (weights P s m ∷ []) (var 0) (var 0 ⊗ cst (pos 1)) tt) ∙ at zero (omega arith);
    each = λ c l. at (suc c) (omega arith);
  }
    where
      at : (c : ℕ) → c < rank P → sum n (λ m. weights P s m *ℤ row P m c) ≡ pos 0
      at c l = weigh n P s low (λ m. row P m c) ∙ volumes_balance P s c l

  pub dep-volume : (f : ℕ → ℤ) → Dependency n P f → (r : List ℕ) → sum n (λ m. f m *ℤ volume P (m ∷ r)) ≡ pos 0
  dep-volume f h r = alt-sum n f (det (row P) r) (columns (rank P)) (row P) ∙ alt_none (det (row P) r) (columns (rank P)) (λ c. sum n (λ m. f m *ℤ row P m c))
      (λ c k. let (i, l, e) = tabulate_out (λ j. j) (rank P) k in dep-row n P f h c (omega arith))

  -- ---- a basis

  pub independent : (B : List ℕ) → NZ (volume P B) → (f : ℕ → ℤ) → Dependency n P f → ((m : ℕ) → m < n → (Memᴰ m B → ⊥) → f m ≡ pos 0) → (m : ℕ) → m < n → f m ≡ pos 0
  independent B nz f h off i l = go (dec_mem i B)
    where
      on : Split i B → f i ≡ pos 0
      on r = zero_of_mul first (*ℤ_comm (volume P (i ∷ rest)) (f i) ∙ sym (sum_lone n i (λ m. f m *ℤ volume P (m ∷ rest)) l (λ m k ne. others m k ne (dec_mem m rest))) ∙ dep-volume f h rest)
        where
          rest : List ℕ
          rest = r.front ++ r.back

          first : NZ (volume P (i ∷ rest))
          first e = nz (ap (volume P) r.is ∙ volume-front P r.front i r.back e)

          others : (m : ℕ) → m < n → (m ≡ i → ⊥) → Dec (Memᴰ m rest) → f m *ℤ volume P (m ∷ rest) ≡ pos 0
          others m k ne (yes y) = mul-zero (f m) (volume_repeated P m rest y)
          others m k ne (no y) = zero-mul (volume P (m ∷ rest)) (off m k (λ x. ⊎_elim ne y (middle r.front r.back (subst (Memᴰ m) r.is x))))

      go : Dec (Memᴰ i B) → f i ≡ pos 0
      go (yes k) = on (split_at i B k)
      go (no k) = off i l k

  -- ---- a basis and one point more

  module _ (s : ℕ) (B : List ℕ) (sn : s < n) (b : Basis n P B) (new : Memᴰ s B → ⊥) where
    more_low : (i : ℕ) → Memᴰ i (s ∷ B) → i < n
    more_low i m = ⊎_elim (λ (e : i ≡ s). let k = sn in omega arith) (b.low i) (Memᴰ.cases_cons m)

    at_more : weights P (s ∷ B) s ≡ volume P B
    at_more = weights_at P (s ∷ B) s (record { front = []; back = B; is = refl }) new

    pub exchange : (e : ℕ) (r : Split e B) → NZ (weights P (s ∷ B) e) → Basis n P (s ∷ r.front ++ r.back)
    exchange e r nz = record {
      low = λ i m. more_low i (⊎_elim Memᴰ.head (λ k. Memᴰ.tail (subst (Memᴰ i) (sym r.is) (around e r.front r.back k))) (Memᴰ.cases_cons m));
      nz = λ z. nz (weights_at P (s ∷ B) e (record { front = s ∷ r.front; back = r.back; is = ap (λ (t : List ℕ). s ∷ t) r.is }) apart ∙ alternate-zero (length (s ∷ r.front)) z);
    }
      where
        apart : Memᴰ e (s ∷ r.front ++ r.back) → ⊥
        apart m = ⊎_elim (λ q. new (Memᴰ.cast (sym q) (subst (Memᴰ e) (sym r.is) (Memᴰ.append_right r.front (Memᴰ.head refl))))) (basis_once b e r) (Memᴰ.cases_cons m)

    -- a dependency inside the weights that is 0 at one of their places is 0
    nowhere : (g : ℕ → ℤ) → Dependency n P g → ((i : ℕ) → i < n → weights P (s ∷ B) i ≡ pos 0 → g i ≡ pos 0) → (i : ℕ) → g i ≡ pos 0 → NZ (weights P (s ∷ B) i) → (m : ℕ) → m < n → g m ≡ pos 0
    nowhere g h off i z nz = at (Memᴰ.cases_cons (weights_on P (s ∷ B) i nz))
      where
        outside : (m : ℕ) → m < n → (Memᴰ m (s ∷ B) → ⊥) → g m ≡ pos 0
        outside m l k = off m l (weights_off P (s ∷ B) m k)

        at : (i ≡ s) ⊎ Memᴰ i B → (m : ℕ) → m < n → g m ≡ pos 0
        at (inl e) = independent B b.nz g h (λ m l k. also_at g s m (ap g (sym e) ∙ z) (λ q. outside m l (λ y. ⊎_elim q k (Memᴰ.cases_cons y))))
        at (inr y) =
            let r = split_at i B y in
            independent (s ∷ r.front ++ r.back) (exchange i r nz).nz g h
            (λ m l k. also_at g i m z (λ q. outside m l (λ x. ⊎_elim (λ e. k (Memᴰ.head e)) (λ u. ⊎_elim q (λ v. k (Memᴰ.tail v)) (middle r.front r.back (subst (Memᴰ m) r.is u))) (Memᴰ.cases_cons x))))

-- ---- elementary dependencies

pub data Elementary (n : ℕ) (P : Configuration) : (ℕ → ℤ) → Type 0 where
  one_more : (s : ℕ) (B : List ℕ) → s < n → Basis n P B → (Memᴰ s B → ⊥) → Elementary n P (weights P (s ∷ B))

module _ (n : ℕ) (P : Configuration) where
  pub elementary_dependency : (f : ℕ → ℤ) → Elementary n P f → Dependency n P f
  elementary_dependency f (one_more s B sn b new) = weights_dependency n P (s ∷ B) (more_low n P s B sn b new)

  pub elementary_somewhere : (f : ℕ → ℤ) → Elementary n P f → Somewhere n f
  elementary_somewhere f (one_more s B sn b new) = record { at = s; low = sn; so = λ e. b.nz (sym (at_more n P s B sn b new) ∙ e) }

  pub elementary_circuit : (f : ℕ → ℤ) → Elementary n P f → Circuit n P (λ i. sign_of (f i))
  elementary_circuit f (one_more s B sn b new) = record {
    by = f;
    dependency = elementary_dependency f (one_more s B sn b new);
    somewhere = elementary_somewhere f (one_more s B sn b new);
    signs = λ i l. refl;
    smallest = λ g h so off i l z. sign_of-zero (f i) (zero_if (f i) (λ nz. somewhere_nowhere so (nowhere n P s B sn b new g h (λ m k e. off m k (sign_of-zero (f m) e)) i z nz)));
  }
