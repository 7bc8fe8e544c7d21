-- The circuits of distinct points in the plane: three points on a line, and four points no three of which are (document 01).
--
--   along P a c           the points along the direction from a to c, as a configuration of dimension 1
--   weights3 P a b c      the weights of three points on a line: those of the points along it
--   weights4 P a b c d    the weights of four points
--   weights3_a, -b, -c, -off, weights4_a, -b, -c, -d, -off     their values: scalar products with the vector from a to c; the turns of the other three, with alternating signs
--   weights3_dependency, weights4_dependency     they are dependencies
--   points_differ         points of different numbers are different
--   three_nowhere         a dependency that lives on three points off a line is 0 everywhere
--   Planar n P f          f is one of these, its points in order and below n
--   support-three         a circuit has three points at least
--
-- Main theorems: `planar_circuit`; `circuit_planar`: every circuit is one of these, or its opposite.
use mathlib.Core.Path.{◌≡◌, refl, sym, ◌∙◌, ap}
use mathlib.Core.Logic.{◌⊎◌}
use mathlib.Core.List.Memᴰ
use mathlib.Core.List.{List, [], ◌∷◌, Memᴰ}
use Prim.Native.Nat.{ℕ, zero, suc, ◌<◌, ◌≤◌}
use native.Mathlib.Omega.{arith}
use native.Mathlib.Decide.{ℕ_discrete, dec_lt}
use lib.IntN.{ℤ, pos, neg_ℤ, ◌-ℤ◌, ◌*ℤ◌, neg_ℤ-neg_ℤ, ℤ_discrete}
use lib.ListN.{length}
use Rattle.algebra.specs.Loops.{tabulate}
use Rattle.algebra.specs.Sets.{Within}
use Rattle.algebra.specs.Sign.{NZ, nought, sign_of}
use Rattle.algebra.specs.Sum.{sum}
use Rattle.algebra.proofs.Ring.{Ex, cst, ◌⊝◌, ◌⊗◌, neg, ring}
use Rattle.algebra.proofs.AnswerLaws.{reflects_yes}
use Rattle.algebra.proofs.ListLaws.{each-cons, neither}
use Rattle.algebra.proofs.SetTests.{mem_on}
use Rattle.algebra.proofs.SignLaws.{mul-zero, neg-zero, sign_of-zero, zero_if}
use Rattle.matroid.specs.Configurations.{Configuration, volume}
use Rattle.matroid.specs.Points.{Points, plane, Distinct, turn, dot}
use Rattle.matroid.specs.Dependencies.{Dependency, Somewhere}
use Rattle.matroid.specs.Circuits.{SignVector, Circuit, Alike, against}
use Rattle.matroid.proofs.Turns.{coordinates, X, Y, D, O, alt_ex, det_ex, turn_is_volume, point_path, dot-zero}
use Rattle.matroid.proofs.Dependent.{somewhere_nowhere, also_at, one_nowhere, two_same}
use Rattle.matroid.proofs.Bases.{weights, weights_off, weights_at, weights_under, weigh, weights_dependency, independent, Elementary, one_more, elementary_somewhere, elementary_circuit}
use Rattle.matroid.proofs.Inside.{Inside}
use Rattle.matroid.proofs.CircuitLaws.{support, support_within, on_support, circuit_off, support_off, circuit_like}

abbrev pub along : Points → ℕ → ℕ → Configuration
along P a c = record { dimension = 1; at = λ i k. dot (P a) (P i) (P c) }

abbrev pub weights3 : Points → ℕ → ℕ → ℕ → ℕ → ℤ
weights3 P a b c = weights (along P a c) (a ∷ b ∷ c ∷ [])

abbrev pub weights4 : Points → ℕ → ℕ → ℕ → ℕ → ℕ → ℤ
weights4 P a b c d = weights (plane P) (a ∷ b ∷ c ∷ d ∷ [])

pub data Planar (n : ℕ) (P : Points) : (ℕ → ℤ) → Type 0 where
  e3 : (a b c : ℕ) → a < b → b < c → c < n → turn (P a) (P b) (P c) ≡ pos 0 → Planar n P (weights3 P a b c)
  e4 : (a b c d : ℕ) → a < b → b < c → c < d → d < n → NZ (turn (P b) (P c) (P d)) → NZ (turn (P a) (P c) (P d)) → NZ (turn (P a) (P b) (P d)) → NZ (turn (P a) (P b) (P c)) → Planar n P (weights4 P a b c d)

-- ---- the values

-- a number that is none of two, none of three
none_of_2 : {m a b : ℕ} → (m ≡ a → ⊥) → (m ≡ b → ⊥) → Memᴰ m (a ∷ b ∷ []) → ⊥
none_of_2 x y = neither x (neither y Memᴰ.not-nil)

none_of_3 : {m a b c : ℕ} → (m ≡ a → ⊥) → (m ≡ b → ⊥) → (m ≡ c → ⊥) → Memᴰ m (a ∷ b ∷ c ∷ []) → ⊥
none_of_3 x y z = neither x (none_of_2 y z)

-- the points along the direction from the first of three to the last, and the length from one to another, as expressions
abbrev along_ex : ℕ → ℕ → Ex
along_ex i zero = cst (pos 1)
along_ex i (suc k) = O 0 i 2

abbrev L : List ℕ → Ex
L s = det_ex along_ex s (0 ∷ 1 ∷ [])

module _ (P : Points) (a b c : ℕ) where
  pub weights3_off : (m : ℕ) → (m ≡ a → ⊥) → (m ≡ b → ⊥) → (m ≡ c → ⊥) → weights3 P a b c m ≡ pos 0
  weights3_off m x y z = weights_off (along P a c) (a ∷ b ∷ c ∷ []) m (none_of_3 x y z)

  ρ3 : List ℤ
  ρ3 = coordinates (P a ∷ P b ∷ P c ∷ [])

  module _ (ab : a < b) (bc : b < c) where
    pub weights3_a : weights3 P a b c a ≡ dot (P c) (P a) (P b)
    unfolding tabulate ρ3
    weights3_a =
        weights_at (along P a c) (a ∷ b ∷ c ∷ []) a (record { front = []; back = b ∷ c ∷ []; is = refl }) (none_of_2 (λ e. omega arith) (λ e. omega arith))
        ∙ ring ρ3 (L (1 ∷ 2 ∷ [])) (O 2 0 1) tt

    pub weights3_b : weights3 P a b c b ≡ neg_ℤ (dot (P a) (P c) (P c))
    unfolding tabulate ρ3
    weights3_b =
        weights_at (along P a c) (a ∷ b ∷ c ∷ []) b (record { front = a ∷ []; back = c ∷ []; is = refl }) (none_of_2 (λ e. omega arith) (λ e. omega arith))
        ∙ ring ρ3 (neg (L (0 ∷ 2 ∷ []))) (neg (O 0 2 2)) tt

    pub weights3_c : weights3 P a b c c ≡ dot (P a) (P b) (P c)
    unfolding tabulate ρ3
    weights3_c =
        weights_at (along P a c) (a ∷ b ∷ c ∷ []) c (record { front = a ∷ b ∷ []; back = []; is = refl }) (none_of_2 (λ e. omega arith) (λ e. omega arith))
        ∙ ring ρ3 (neg (neg (L (0 ∷ 1 ∷ [])))) (O 0 1 2) tt

module _ (P : Points) (a b c d : ℕ) where
  pub weights4_off : (m : ℕ) → (m ≡ a → ⊥) → (m ≡ b → ⊥) → (m ≡ c → ⊥) → (m ≡ d → ⊥) → weights4 P a b c d m ≡ pos 0
  weights4_off m x y z w = weights_off (plane P) (a ∷ b ∷ c ∷ d ∷ []) m (neither x (none_of_3 y z w))

  module _ (ab : a < b) (bc : b < c) (cd : c < d) where
    pub weights4_a : weights4 P a b c d a ≡ turn (P b) (P c) (P d)
    weights4_a =
        weights_at (plane P) (a ∷ b ∷ c ∷ d ∷ []) a (record { front = []; back = b ∷ c ∷ d ∷ []; is = refl }) (none_of_3 (λ e. omega arith) (λ e. omega arith) (λ e. omega arith))
        ∙ sym (turn_is_volume P b c d)

    pub weights4_b : weights4 P a b c d b ≡ neg_ℤ (turn (P a) (P c) (P d))
    weights4_b =
        weights_at (plane P) (a ∷ b ∷ c ∷ d ∷ []) b (record { front = a ∷ []; back = c ∷ d ∷ []; is = refl }) (none_of_3 (λ e. omega arith) (λ e. omega arith) (λ e. omega arith))
        ∙ ap neg_ℤ (sym (turn_is_volume P a c d))

    pub weights4_c : weights4 P a b c d c ≡ turn (P a) (P b) (P d)
    weights4_c =
        weights_at (plane P) (a ∷ b ∷ c ∷ d ∷ []) c (record { front = a ∷ b ∷ []; back = d ∷ []; is = refl }) (none_of_3 (λ e. omega arith) (λ e. omega arith) (λ e. omega arith))
        ∙ neg_ℤ-neg_ℤ (volume (plane P) (a ∷ b ∷ d ∷ [])) ∙ sym (turn_is_volume P a b d)

    pub weights4_d : weights4 P a b c d d ≡ neg_ℤ (turn (P a) (P b) (P c))
    weights4_d =
        weights_at (plane P) (a ∷ b ∷ c ∷ d ∷ []) d (record { front = a ∷ b ∷ c ∷ []; back = []; is = refl }) (none_of_3 (λ e. omega arith) (λ e. omega arith) (λ e. omega arith))
        ∙ ap neg_ℤ (neg_ℤ-neg_ℤ (volume (plane P) (a ∷ b ∷ c ∷ [])) ∙ sym (turn_is_volume P a b c))

-- ---- dependencies

module _ (n : ℕ) (P : Points) where
  low_3 : {a b c : ℕ} → a < n → b < n → c < n → (i : ℕ) → Memᴰ i (a ∷ b ∷ c ∷ []) → i < n
  low_3 x y z = each-cons (◌< n) x (each-cons (◌< n) y (each-cons (◌< n) z (λ i m. absurd (Memᴰ.not-nil m))))

  weights3_dependency : (a b c : ℕ) → a < n → b < n → c < n → turn (P a) (P b) (P c) ≡ pos 0 → Dependency n (plane P) (weights3 P a b c)
  unfolding tabulate
  weights3_dependency a b c an bn cn e = record { ones = (weights_dependency n (along P a c) (a ∷ b ∷ c ∷ []) (low_3 an bn cn)).ones; each = at }
    where
      ρ : List ℤ
      ρ = coordinates (P a ∷ P b ∷ P c ∷ [])

      weighed : (ℕ → Ex) → Ex
      weighed g = alt_ex L (0 ∷ 1 ∷ 2 ∷ []) g

      at : (k : ℕ) → k < 2 → sum n (λ m. weights3 P a b c m *ℤ (plane P).at m k) ≡ pos 0
      at zero l = weigh n (along P a c) (a ∷ b ∷ c ∷ []) (low_3 an bn cn) (λ m. (P m).x) ∙ ring ρ (weighed X) ((Y 0 ⊝ Y 2) ⊗ D 0 1 2) tt ∙ mul-zero ((P a).y -ℤ (P c).y) e
      at (suc k) l = weigh n (along P a c) (a ∷ b ∷ c ∷ []) (low_3 an bn cn) (λ m. (P m).y) ∙ ring ρ (weighed Y) ((X 2 ⊝ X 0) ⊗ D 0 1 2) tt ∙ mul-zero ((P c).x -ℤ (P a).x) e

  pub weights4_dependency : (a b c d : ℕ) → a < n → b < n → c < n → d < n → Dependency n (plane P) (weights4 P a b c d)
  weights4_dependency a b c d an bn cn dn = weights_dependency n (plane P) (a ∷ b ∷ c ∷ d ∷ []) (each-cons (◌< n) an (low_3 bn cn dn))

  -- ---- on two points, on three

  module _ (f : ℕ → ℤ) (h : Dependency n (plane P) f) where
    two_nowhere : (i j : ℕ) → i < n → j < n → (P i ≡ P j → ⊥) → ((m : ℕ) → m < n → (m ≡ i → ⊥) → (m ≡ j → ⊥) → f m ≡ pos 0) → (m : ℕ) → m < n → f m ≡ pos 0
    two_nowhere i j il jl ne off m ml = also_at f i m (same i j il off ne) (λ ni. also_at f j m (same j i jl (λ k l x y. off k l y x) (λ q. ne (sym q))) (λ nj. off m ml ni nj))
      where
        same : (a b : ℕ) → a < n → ((m : ℕ) → m < n → (m ≡ a → ⊥) → (m ≡ b → ⊥) → f m ≡ pos 0) → (P a ≡ P b → ⊥) → f a ≡ pos 0
        same a b l o d = zero_if (f a) (λ nz. d (point_path (P a) (P b) (two_same n (plane P) f h a b l o nz 0 (omega arith)) (two_same n (plane P) f h a b l o nz 1 (omega arith))))

    pub three_nowhere : (i j k : ℕ) → NZ (turn (P i) (P j) (P k)) → ((m : ℕ) → m < n → (m ≡ i → ⊥) → (m ≡ j → ⊥) → (m ≡ k → ⊥) → f m ≡ pos 0) → (m : ℕ) → m < n → f m ≡ pos 0
    three_nowhere i j k nz off = independent n (plane P) (i ∷ j ∷ k ∷ []) (λ e. nz (turn_is_volume P i j k ∙ e)) f h
        (λ m l o. off m l (λ e. o (Memᴰ.head e)) (λ e. o (Memᴰ.tail (Memᴰ.head e))) (λ e. o (Memᴰ.tail (Memᴰ.tail (Memᴰ.head e)))))

-- ---- distinct points, in either order

pub points_differ : {n : ℕ} {P : Points} → Distinct n P → (i j : ℕ) → i < n → j < n → (i ≡ j → ⊥) → P i ≡ P j → ⊥
points_differ ds i j il jl ne e = go (dec_lt i j)
  where
    go : Dec (i < j) → ⊥
    go (yes k) = ds i j k jl e
    go (no k) = ds j i (omega arith) il (sym e)

-- ---- circuits

module _ (n : ℕ) (P : Points) (ds : Distinct n P) where
  module _ (a b c : ℕ) (ab : a < b) (bc : b < c) (cn : c < n) where
    -- a dependency among three points that is 0 at one of them lives on two different points
    smallest3 : (g : ℕ → ℤ) → Dependency n (plane P) g → Somewhere n g → ((i : ℕ) → i < n → sign_of (weights3 P a b c i) ≡ nought → g i ≡ pos 0) → (i : ℕ) → i < n → g i ≡ pos 0 → sign_of (weights3 P a b c i) ≡ nought
    smallest3 g h s off i l z = go (ℕ_discrete i a) (ℕ_discrete i b) (ℕ_discrete i c)
      where
        none : (m : ℕ) → m < n → (m ≡ a → ⊥) → (m ≡ b → ⊥) → (m ≡ c → ⊥) → g m ≡ pos 0
        none m ml na nb nc = off m ml (sign_of-zero (weights3 P a b c m) (weights3_off P a b c m na nb nc))

        go : Dec (i ≡ a) → Dec (i ≡ b) → Dec (i ≡ c) → sign_of (weights3 P a b c i) ≡ nought
        go (yes e) _ _ = somewhere_nowhere s (two_nowhere n P g h b c (omega arith) cn (ds b c bc cn) (λ m ml nb nc. also_at g a m (ap g (sym e) ∙ z) (λ na. none m ml na nb nc)))
        go (no _) (yes e) _ = somewhere_nowhere s (two_nowhere n P g h a c (omega arith) cn (ds a c (omega arith) cn) (λ m ml na nc. also_at g b m (ap g (sym e) ∙ z) (λ nb. none m ml na nb nc)))
        go (no _) (no _) (yes e) = somewhere_nowhere s (two_nowhere n P g h a b (omega arith) (omega arith) (ds a b ab (omega arith)) (λ m ml na nb. also_at g c m (ap g (sym e) ∙ z) (λ nc. none m ml na nb nc)))
        go (no na) (no nb) (no nc) = sign_of-zero (weights3 P a b c i) (weights3_off P a b c i na nb nc)

    somewhere3 : Somewhere n (weights3 P a b c)
    somewhere3 = record { at = b; low = omega arith; so = λ z. ds a c (omega arith) cn (sym (dot-zero (P a) (P c) (neg-zero (dot (P a) (P c) (P c)) (sym (weights3_b P a b c ab bc) ∙ z)))) }

    circuit3 : turn (P a) (P b) (P c) ≡ pos 0 → Circuit n (plane P) (λ i. sign_of (weights3 P a b c i))
    circuit3 e = record {
      by = weights3 P a b c;
      dependency = weights3_dependency n P a b c (omega arith) (omega arith) cn e;
      somewhere = somewhere3;
      signs = λ i l. refl;
      smallest = smallest3;
    }

  -- four points are a basis and one point more
  elementary4 : (a b c d : ℕ) → a < b → b < c → c < d → d < n → NZ (turn (P b) (P c) (P d)) → Elementary n (plane P) (weights4 P a b c d)
  elementary4 a b c d ab bc cd dn nz =
      one_more a (b ∷ c ∷ d ∷ []) (omega arith) (record { low = low_3 n P (omega arith) (omega arith) dn; nz = λ e. nz (turn_is_volume P b c d ∙ e) }) (none_of_3 (λ e. omega arith) (λ e. omega arith) (λ e. omega arith))

  pub planar_circuit : (f : ℕ → ℤ) → Planar n P f → Circuit n (plane P) (λ i. sign_of (f i))
  planar_circuit f (e3 a b c ab bc cn e) = circuit3 a b c ab bc cn e
  planar_circuit f (e4 a b c d ab bc cd dn nz _ _ _) = elementary_circuit n (plane P) f (elementary4 a b c d ab bc cd dn nz)

  planar_dependency : (f : ℕ → ℤ) → Planar n P f → Dependency n (plane P) f
  planar_dependency f (e3 a b c ab bc cn e) = weights3_dependency n P a b c (omega arith) (omega arith) cn e
  planar_dependency f (e4 a b c d ab bc cd dn _ _ _ _) = weights4_dependency n P a b c d (omega arith) (omega arith) (omega arith) dn

  planar_somewhere : (f : ℕ → ℤ) → Planar n P f → Somewhere n f
  planar_somewhere f (e3 a b c ab bc cn e) = somewhere3 a b c ab bc cn
  planar_somewhere f (e4 a b c d ab bc cd dn nz _ _ _) = elementary_somewhere n (plane P) f (elementary4 a b c d ab bc cd dn nz)

  -- ---- every circuit

  -- a dependency that lives on fewer than three points is 0
  few_nowhere : (f : ℕ → ℤ) → Dependency n (plane P) f → (t : List ℕ) → Within 0 t n → ((i : ℕ) → i < n → (Memᴰ i t → ⊥) → f i ≡ pos 0) → length t < 3 → (m : ℕ) → m < n → f m ≡ pos 0
  few_nowhere f h [] w off e m l = off m l Memᴰ.not-nil
  few_nowhere f h (a ∷ []) w off e m l = also_at f a m (one_nowhere n (plane P) f h a w.1 (λ i k x. off i k (neither x Memᴰ.not-nil))) (λ x. off m l (neither x Memᴰ.not-nil))
  few_nowhere f h (a ∷ b ∷ []) w off e m l = two_nowhere n P f h a b w.1 w.2.1 (ds a b (let k = w.2.0 in omega arith) w.2.1) (λ i k x y. off i k (none_of_2 x y)) m l
  few_nowhere f h (a ∷ b ∷ c ∷ t) w off e m l = absurd (omega arith)

  -- the first three places of a dependency lie on a line, or there is a fourth
  module _ (f : ℕ → ℤ) (h : Dependency n (plane P) f) (s : Somewhere n f) where
    abbrev Nonzero : ℕ → Type 0
    Nonzero i = NZ (f i)

    on_line : (a b c : ℕ) → a < b → b < c → c < n → NZ (f a) → NZ (f b) → NZ (f c) → turn (P a) (P b) (P c) ≡ pos 0 → Inside (Planar n P) f
    on_line a b c ab bc cn ha hb hc e = record {
      part = weights3 P a b c;
      kind = e3 a b c ab bc cn e;
      under = λ m. weights_under (along P a c) (a ∷ b ∷ c ∷ []) m f (each-cons Nonzero ha (each-cons Nonzero hb (each-cons Nonzero hc (λ i k. absurd (Memᴰ.not-nil k)))));
    }

    of_four : (a b c d : ℕ) → a < b → b < c → c < d → d < n → NZ (f a) → NZ (f b) → NZ (f c) → NZ (f d) → Inside (Planar n P) f
    of_four a b c d ab bc cd dn ha hb hc hd = go (ℤ_discrete (turn (P b) (P c) (P d)) (pos 0)) (ℤ_discrete (turn (P a) (P c) (P d)) (pos 0)) (ℤ_discrete (turn (P a) (P b) (P d)) (pos 0)) (ℤ_discrete (turn (P a) (P b) (P c)) (pos 0))
      where
        go : Dec (turn (P b) (P c) (P d) ≡ pos 0) → Dec (turn (P a) (P c) (P d) ≡ pos 0) → Dec (turn (P a) (P b) (P d) ≡ pos 0) → Dec (turn (P a) (P b) (P c) ≡ pos 0) → Inside (Planar n P) f
        go (yes e) _ _ _ = on_line b c d bc cd dn hb hc hd e
        go (no _) (yes e) _ _ = on_line a c d (omega arith) cd dn ha hc hd e
        go (no _) (no _) (yes e) _ = on_line a b d ab (omega arith) dn ha hb hd e
        go (no _) (no _) (no _) (yes e) = on_line a b c ab bc (omega arith) ha hb hc e
        go (no x) (no y) (no z) (no w) = record {
          part = weights4 P a b c d;
          kind = e4 a b c d ab bc cd dn x y z w;
          under = λ m. weights_under (plane P) (a ∷ b ∷ c ∷ d ∷ []) m f (each-cons Nonzero ha (each-cons Nonzero hb (each-cons Nonzero hc (each-cons Nonzero hd (λ i k. absurd (Memᴰ.not-nil k))))));
        }

    find : (t : List ℕ) → Within 0 t n → ((i : ℕ) → Memᴰ i t → NZ (f i)) → ((i : ℕ) → i < n → (Memᴰ i t → ⊥) → f i ≡ pos 0) → Inside (Planar n P) f
    find [] w on off = somewhere_nowhere s (few_nowhere f h [] w off (omega arith))
    find (a ∷ []) w on off = somewhere_nowhere s (few_nowhere f h (a ∷ []) w off (omega arith))
    find (a ∷ b ∷ []) w on off = somewhere_nowhere s (few_nowhere f h (a ∷ b ∷ []) w off (omega arith))
    find (a ∷ b ∷ c ∷ []) w on off = go (ℤ_discrete (turn (P a) (P b) (P c)) (pos 0))
      where
        go : Dec (turn (P a) (P b) (P c) ≡ pos 0) → Inside (Planar n P) f
        go (yes e) = on_line a b c (let k = w.2.0 in omega arith) (let k = w.2.2.0 in omega arith) w.2.2.1 (on a (Memᴰ.head refl)) (on b (Memᴰ.tail (Memᴰ.head refl))) (on c (Memᴰ.tail (Memᴰ.tail (Memᴰ.head refl)))) e
        go (no nz) = absurd (on a (Memᴰ.head refl) (three_nowhere n P f h a b c nz (λ m l x y z. off m l (none_of_3 x y z)) a w.1))
    find (a ∷ b ∷ c ∷ d ∷ t) w on off =
        of_four a b c d (let k = w.2.0 in omega arith) (let k = w.2.2.0 in omega arith) (let k = w.2.2.2.0 in omega arith) w.2.2.2.1 (on a (Memᴰ.head refl)) (on b (Memᴰ.tail (Memᴰ.head refl)))
        (on c (Memᴰ.tail (Memᴰ.tail (Memᴰ.head refl)))) (on d (Memᴰ.tail (Memᴰ.tail (Memᴰ.tail (Memᴰ.head refl)))))

  pub circuit_planar : (X : SignVector) → Circuit n (plane P) X → (f : ℕ → ℤ) × Planar n P f × (Alike n X (λ i. sign_of (f i)) ⊎ Alike n X (against (λ i. sign_of (f i))))
  circuit_planar X c = (r.part, r.kind, circuit_like n (plane P) X c r.part (planar_dependency r.part r.kind) (planar_somewhere r.part r.kind) (λ i l e. r.under i (circuit_off c i l e)))
    where
      r : Inside (Planar n P) c.by
      r = find c.by c.dependency c.somewhere (support n X) (support_within n X)
          (λ i m z. let (l, nz) = reflects_yes (on_support n X i) ((mem_on i (support n X)).0 m) in nz (c.signs i l ∙ sign_of-zero (c.by i) z)) (support_off c)

  pub support-three : (X : SignVector) → Circuit n (plane P) X → 3 ≤ length (support n X)
  support-three X c = go (dec_lt (length (support n X)) 3)
    where
      go : Dec (length (support n X) < 3) → 3 ≤ length (support n X)
      go (yes l) = somewhere_nowhere c.somewhere (few_nowhere c.by c.dependency (support n X) (support_within n X) (support_off c) l)
      go (no l) = omega arith
