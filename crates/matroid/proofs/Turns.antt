-- The determinant of three points and the scalar product: their identities, by `ring`.
--
--   coordinates ps     the environment of `ring` for a list of points: point i has the variables 2 i and 2 i + 1
--   X i, Y i           the coordinates of point i, as expressions
--   D i j k, O m i j   turn and dot of the points of these numbers, as expressions
--   alt_ex, det_ex       alternating sums and determinants, as expressions
--
-- Main theorems: `turn_is_volume`, `chirotope-turn`; alternating: `turn_cycle`, `turn_swap`, `turn_swap_first`; repeated points: `turn-first`, `turn_last`, `turn_ends`; four points: `turn_balance`; `turn_form`;
-- `dot_base`, `dot-zero`, `dot_pos`: the scalar product, and that different points are apart; `point_path`: points with the same coordinates are the same.
use mathlib.Core.Path.{◌≡◌, sym, ◌∙◌, ap}
use mathlib.Core.List.{List, [], ◌∷◌}
use Prim.Native.Nat.{ℕ, zero, suc, ◌+◌, ◌*◌}
use native.Mathlib.Omega.{arith}
use lib.IntN.{ℤ, pos, neg_ℤ, ◌+ℤ◌, ◌-ℤ◌, ◌*ℤ◌, +ℤ_comm}
use Rattle.algebra.specs.Sign.{sign_of, Pos}
use Rattle.algebra.proofs.Ring.{Ex, cst, var, ◌⊕◌, ◌⊝◌, ◌⊗◌, neg, ring, sub-zero→eq}
use Rattle.algebra.proofs.SignLaws.{square_nn, squares-zero, nn-add, pos_of_nn}
use Rattle.algebra.specs.Loops.{tabulate}
use Rattle.matroid.specs.Configurations.{volume, chirotope}
use Rattle.matroid.specs.Points.{Point, Points, plane, turn, dot}
use Rattle.matroid.proofs.Bases.{volumes_balance}

-- ---- expressions

abbrev pub coordinates : List Point → List ℤ
coordinates [] = []
coordinates (p ∷ ps) = p.x ∷ p.y ∷ coordinates ps

abbrev pub X : ℕ → Ex
X i = var (2 * i)

abbrev pub Y : ℕ → Ex
Y i = var (2 * i + 1)

abbrev pub D : ℕ → ℕ → ℕ → Ex
D i j k = (X j ⊝ X i) ⊗ (Y k ⊝ Y i) ⊝ (Y j ⊝ Y i) ⊗ (X k ⊝ X i)

abbrev pub O : ℕ → ℕ → ℕ → Ex
O m i j = (X i ⊝ X m) ⊗ (X j ⊝ X m) ⊕ (Y i ⊝ Y m) ⊗ (Y j ⊝ Y m)

-- ---- the determinant

abbrev pub alt_ex : {A : Type 0} → (List A → Ex) → List A → (A → Ex) → Ex
alt_ex D [] g = cst (pos 0)
alt_ex D (a ∷ s) g = g a ⊗ D s ⊝ alt_ex (λ t. D (a ∷ t)) s g

abbrev pub det_ex : (ℕ → ℕ → Ex) → List ℕ → List ℕ → Ex
det_ex M [] [] = cst (pos 1)
det_ex M [] (c ∷ cs) = cst (pos 0)
det_ex M (i ∷ s) cs = alt_ex (det_ex M s) cs (M i)

-- the row 1, x, y of point i
abbrev row_ex : ℕ → ℕ → Ex
row_ex i zero = cst (pos 1)
row_ex i (suc zero) = X i
row_ex i (suc (suc c)) = Y i

pub turn_is_volume : (P : Points) (a b c : ℕ) → turn (P a) (P b) (P c) ≡ volume (plane P) (a ∷ b ∷ c ∷ [])
unfolding tabulate
turn_is_volume P a b c = ring (coordinates (P a ∷ P b ∷ P c ∷ [])) (D 0 1 2) (det_ex row_ex (0 ∷ 1 ∷ 2 ∷ []) (0 ∷ 1 ∷ 2 ∷ [])) tt

pub chirotope-turn : (P : Points) (a b c : ℕ) → chirotope (plane P) (a ∷ b ∷ c ∷ []) ≡ sign_of (turn (P a) (P b) (P c))
chirotope-turn P a b c = ap sign_of (sym (turn_is_volume P a b c))

pub turn_cycle : (a b c : Point) → turn a b c ≡ turn b c a
turn_cycle a b c = ring (coordinates (a ∷ b ∷ c ∷ [])) (D 0 1 2) (D 1 2 0) tt

pub turn_swap : (a b c : Point) → turn a c b ≡ neg_ℤ (turn a b c)
turn_swap a b c = ring (coordinates (a ∷ b ∷ c ∷ [])) (D 0 2 1) (neg (D 0 1 2)) tt

pub turn_swap_first : (a b c : Point) → turn b a c ≡ neg_ℤ (turn a b c)
turn_swap_first a b c = ring (coordinates (a ∷ b ∷ c ∷ [])) (D 1 0 2) (neg (D 0 1 2)) tt

pub turn-first : (a c : Point) → turn a a c ≡ pos 0
turn-first a c = ring (coordinates (a ∷ c ∷ [])) (D 0 0 1) (cst (pos 0)) tt

pub turn_last : (a b : Point) → turn a b b ≡ pos 0
turn_last a b = ring (coordinates (a ∷ b ∷ [])) (D 0 1 1) (cst (pos 0)) tt

pub turn_ends : (a b : Point) → turn a b a ≡ pos 0
turn_ends a b = ring (coordinates (a ∷ b ∷ [])) (D 0 1 0) (cst (pos 0)) tt

-- of four points: `volumes_balance` in the plane, in the column of the ones
volume_balance : (P : Points) (a b c d : ℕ) → volume (plane P) (a ∷ b ∷ c ∷ []) +ℤ volume (plane P) (a ∷ c ∷ d ∷ []) ≡ volume (plane P) (a ∷ b ∷ d ∷ []) +ℤ volume (plane P) (b ∷ c ∷ d ∷ [])
volume_balance P a b c d =
    sub-zero→eq _ _ (ring (v b c d ∷ v a c d ∷ v a b d ∷ v a b c ∷ []) (var 3 ⊕ var 1 ⊝ (var 2 ⊕ var 0)) (neg (one (var 0) (one (var 1) (one (var 2) (one (var 3) (cst (pos 0))))))) tt
    ∙ ap neg_ℤ (volumes_balance (plane P) (a ∷ b ∷ c ∷ d ∷ []) 0 (omega arith)))
  where
    v : ℕ → ℕ → ℕ → ℤ
    v i j k = volume (plane P) (i ∷ j ∷ k ∷ [])

    one : Ex → Ex → Ex
    one x y = cst (pos 1) ⊗ x ⊝ y

pub turn_balance : (P : Points) (a b c d : ℕ) → turn (P a) (P b) (P c) +ℤ turn (P a) (P c) (P d) ≡ turn (P a) (P b) (P d) +ℤ turn (P b) (P c) (P d)
turn_balance P a b c d =
    (λ k. turn_is_volume P a b c k +ℤ turn_is_volume P a c d k) ∙ volume_balance P a b c d ∙ (λ k. sym (turn_is_volume P a b d) k +ℤ sym (turn_is_volume P b c d) k)

-- as an affine form of the last point
pub turn_form : (p q z : Point) → turn p q z ≡ (p.y -ℤ q.y) *ℤ z.x +ℤ (q.x -ℤ p.x) *ℤ z.y +ℤ (p.x *ℤ q.y -ℤ p.y *ℤ q.x)
turn_form p q z = ring (coordinates (p ∷ q ∷ z ∷ [])) (D 0 1 2) ((Y 0 ⊝ Y 1) ⊗ X 2 ⊕ (X 1 ⊝ X 0) ⊗ Y 2 ⊕ (X 0 ⊗ Y 1 ⊝ Y 0 ⊗ X 1)) tt

-- ---- the scalar product

pub point_path : (p q : Point) → p.x ≡ q.x → p.y ≡ q.y → p ≡ q
point_path p q e f = λ k. record { x = e k; y = f k }

pub dot_base : (m p : Point) → dot m p m ≡ pos 0
dot_base m p = ring (coordinates (m ∷ p ∷ [])) (O 0 1 0) (cst (pos 0)) tt

pub dot-zero : (p q : Point) → dot p q q ≡ pos 0 → q ≡ p
dot-zero p q e =
    point_path q p (sub-zero→eq q.x p.x (squares-zero (q.x -ℤ p.x) (q.y -ℤ p.y) e))
    (sub-zero→eq q.y p.y (squares-zero (q.y -ℤ p.y) (q.x -ℤ p.x) (+ℤ_comm ((q.y -ℤ p.y) *ℤ (q.y -ℤ p.y)) ((q.x -ℤ p.x) *ℤ (q.x -ℤ p.x)) ∙ e)))

pub dot_pos : (p q : Point) → (q ≡ p → ⊥) → Pos (dot p q q)
dot_pos p q ne = pos_of_nn (dot p q q) (nn-add (square_nn (q.x -ℤ p.x)) (square_nn (q.y -ℤ p.y))) (λ e. ne (dot-zero p q e))
