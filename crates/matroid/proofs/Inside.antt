-- Every dependency of points that span their space has an elementary one inside its support: a basis is exchanged, point by point, for one with fewer points where the dependency is 0.
--
--   Inside E f       a part of the kind E that is 0 wherever f is
--   noughts f s      how many of the points s have f at 0
--
-- Main theorem: `inside`.
use mathlib.Core.Path.{◌≡◌, ◌∙◌, ap, sym}
use mathlib.Core.Logic.{◌⊎◌, inl, inr, ⊎_elim}
use mathlib.Core.Bool.{Bool, cond}
use mathlib.Core.List.Memᴰ
use mathlib.Core.List.{List, ◌∷◌, ◌++◌, Memᴰ}
use Prim.Native.Nat.{ℕ, zero, suc, ◌<◌}
use native.Mathlib.Omega.{arith}
use native.Mathlib.Nat.{not-suc-le-zero}
use lib.IntN.{ℤ, pos, ℤ_discrete}
use Rattle.algebra.specs.Loops.{sum_of}
use Rattle.algebra.specs.Sign.{NZ, sign_of, is_nought}
use Rattle.algebra.proofs.AnswerLaws.{reflects_true, reflects_false, reflects-nought}
use Rattle.algebra.proofs.ListLaws.{Split, split_at, some-member}
use Rattle.algebra.proofs.LoopLaws.{sum-append}
use Rattle.algebra.proofs.SetTests.{dec_mem}
use Rattle.algebra.proofs.SignLaws.{dec_nz, zero_if}
use Rattle.matroid.specs.Configurations.{Configuration, Spans}
use Rattle.matroid.specs.Dependencies.{Dependency, Somewhere}
use Rattle.matroid.proofs.Search.{dec_both, dec-not, Least, least}
use Rattle.matroid.proofs.Dependent.{somewhere_nowhere}
use Rattle.matroid.proofs.Bases.{Basis, simplex_basis, weights, weights_on, independent, exchange, Elementary, one_more}

pub record Inside (E : (ℕ → ℤ) → Type 0) (f : ℕ → ℤ) : Type 0 where
  pub part : ℕ → ℤ
  pub kind : E part
  pub under : (m : ℕ) → f m ≡ pos 0 → part m ≡ pos 0

-- ---- how many are nought

abbrev nought1 : ℤ → ℕ
nought1 z = cond (is_nought (sign_of z)) 1 0

abbrev noughts : (ℕ → ℤ) → List ℕ → ℕ
noughts f s = sum_of (λ i. nought1 (f i)) s

-- one is exchanged for another
noughts_fewer : (f : ℕ → ℤ) (s : ℕ) (B : List ℕ) (e : ℕ) (r : Split e B) → NZ (f s) → f e ≡ pos 0 → suc (noughts f (s ∷ r.front ++ r.back)) ≡ noughts f B
noughts_fewer f s B e r nz z =
    let a = sum-append (λ i. nought1 (f i)) r.front r.back in
    let b = ap (noughts f) r.is ∙ sum-append (λ i. nought1 (f i)) r.front (e ∷ r.back) in
    let c : nought1 (f s) ≡ 0 = ap (λ (t : Bool). cond t 1 0) (reflects_false (reflects-nought (f s)) nz) in
    let d : nought1 (f e) ≡ 1 = ap (λ (t : Bool). cond t 1 0) (reflects_true (reflects-nought (f e)) z) in
    omega arith

module _ (n : ℕ) (P : Configuration) (f : ℕ → ℤ) (h : Dependency n P f) (so : Somewhere n f) where
  -- a point where the weights leave the support of f
  abbrev Leaves : ℕ → List ℕ → ℕ → Type 0
  Leaves s B e = (f e ≡ pos 0) × NZ (weights P (s ∷ B) e)

  stays : (s : ℕ) (B : List ℕ) → s < n → Basis n P B → (Memᴰ s B → ⊥) → NZ (f s) → ((e : ℕ) → Memᴰ e B → Leaves s B e → ⊥) → Inside (Elementary n P) f
  stays s B sn b new nz none = record {
    part = weights P (s ∷ B);
    kind = one_more s B sn b new;
    under = λ m z. zero_if (weights P (s ∷ B) m) (λ w. ⊎_elim (λ (e : m ≡ s). nz (ap f (sym e) ∙ z)) (λ k. none m k (z, w)) (Memᴰ.cases_cons (weights_on P (s ∷ B) m w)));
  }

  search_in : (k : ℕ) (B : List ℕ) → Basis n P B → noughts f B < k → Inside (Elementary n P) f
  search_in zero B b l = absurd (not-suc-le-zero l)
  search_in (suc k) B b l = more (search_in k) (least n (λ m. NZ (f m) × (Memᴰ m B → ⊥)) (λ m. dec_both (dec_nz (f m)) (dec-not (dec_mem m B))))
    where
      at : ((C : List ℕ) → Basis n P C → noughts f C < k → Inside (Elementary n P) f) → (s : ℕ) → s < n → NZ (f s) → (Memᴰ s B → ⊥)
          → ((e : ℕ) × Memᴰ e B × Leaves s B e) ⊎ ((e : ℕ) → Memᴰ e B → Leaves s B e → ⊥) → Inside (Elementary n P) f
      at go s sn nz new (inl (e, m, (z, w))) = let r = split_at e B m in go (s ∷ r.front ++ r.back) (exchange n P s B sn b new e r w) (omega (arith, noughts_fewer f s B e r nz z))
      at go s sn nz new (inr none) = stays s B sn b new nz none

      more : ((C : List ℕ) → Basis n P C → noughts f C < k → Inside (Elementary n P) f)
          → Least n (λ m. NZ (f m) × (Memᴰ m B → ⊥)) ⊎ ((m : ℕ) → m < n → NZ (f m) × (Memᴰ m B → ⊥) → ⊥) → Inside (Elementary n P) f
      more go (inl r) = at go r.here r.low r.so.0 r.so.1 (some-member (Leaves r.here B) (λ e. dec_both (ℤ_discrete (f e) (pos 0)) (dec_nz (weights P (r.here ∷ B) e))) B)
      more go (inr none) = somewhere_nowhere so (independent n P B b.nz f h (λ m i k. zero_if (f m) (λ z. none m i (z, k))))

  pub inside : Spans n P → Inside (Elementary n P) f
  inside (s, x) = search_in (suc (noughts f s)) s (simplex_basis x) (omega arith)
