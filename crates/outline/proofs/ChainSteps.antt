-- A chain while it is written, shot by shot.
--
--   chain_at_last, chain_goes_on    a chain from its last shot on, and from another one
--   chain_short     a chain has at most so many shots as it may have
--   Coming l north n out k p    the k shots of out, and what is still to come from p on, are the whole chain
--   coming_all, coming_more, coming_last, coming_none     before the first shot, behind one, behind the last, and where all n are there
use mathlib.Core.Path.{◌≡◌, refl, sym, ◌∙◌, ap}
use mathlib.Core.Bool.{Bool, true, false, cond}
use mathlib.Core.List.{List, [], ◌∷◌, ◌++◌, append-nil, append_assoc}
use Prim.Native.Nat.{ℕ, zero, suc, ◌+◌, ◌-◌, ◌≤◌, ◌<◌}
use native.Mathlib.Omega.{arith}
use borrow.Author.Tests.{eq-eqb, ne_eqb}
use lib.Dec.{eqb}
use lib.IntN.{ℤ}
use lib.ListN.{length, length-append}
use Rattle.shots.specs.Patch.{count_of}
use Rattle.outline.specs.Wrapping.{next_of, first_of, chain_from, chain_of}

module _ (l : List ℤ) (north : Bool) where
  -- what comes behind p, where the test of its being the last says b
  abbrev rest : ℕ → ℕ → Bool → List ℕ
  rest m p b = cond b [] (chain_from l north m (next_of l north p))

  chain-cons : (n m p : ℕ) → n ≡ suc m → chain_from l north n p ≡ p ∷ rest m p (eqb (next_of l north p) p)
  unfolding chain_from
  chain-cons n m p e = ap (λ (k : ℕ). chain_from l north k p) e

  pub chain_at_last : (m p : ℕ) → next_of l north p ≡ p → chain_from l north (suc m) p ≡ p ∷ []
  chain_at_last m p e = chain-cons (suc m) m p refl ∙ ap (λ (b : Bool). p ∷ rest m p b) (eq-eqb (next_of l north p) p e)

  pub chain_goes_on : (m p : ℕ) → (next_of l north p ≡ p → ⊥) → chain_from l north (suc m) p ≡ p ∷ chain_from l north m (next_of l north p)
  chain_goes_on m p ne = chain-cons (suc m) m p refl ∙ ap (λ (b : Bool). p ∷ rest m p b) (ne_eqb (next_of l north p) p ne)

  pub chain_short : (m p : ℕ) → length (chain_from l north m p) ≤ m
  unfolding chain_from
  chain_short zero p = omega arith
  chain_short (suc m) p = go (eqb (next_of l north p) p) (chain_short m (next_of l north p))
    where
      go : (b : Bool) → length (chain_from l north m (next_of l north p)) ≤ m → length (p ∷ rest m p b) ≤ suc m
      go true h = omega arith
      go false h = omega arith

  -- ---- as it is written

  abbrev pub Coming : ℕ → List ℕ → ℕ → ℕ → Type 0
  Coming n out k p = (out ++ chain_from l north (n - k) p ≡ chain_of l north) × (length out ≡ k)

  pub coming_all : (p : ℕ) {out : List ℕ} → p ≡ first_of l → out ≡ [] → Coming (count_of l) out 0 p
  unfolding chain_of
  coming_all p h e = let m : count_of l - 0 ≡ count_of l = omega arith in (λ i. e i ++ chain_from l north (m i) (h i), ap length e)

  module _ (n : ℕ) (out : List ℕ) (k p : ℕ) (h : Coming n out k p) where
    pub coming_none : n ≤ k → out ≡ chain_of l north
    unfolding chain_from
    coming_none m = let e : n - k ≡ 0 = omega arith in sym (append-nil out) ∙ ap (λ (j : ℕ). out ++ chain_from l north j p) (sym e) ∙ h.0

    module _ (m : k < n) {out' : List ℕ} (w : out' ≡ out ++ p ∷ []) where
      more : n - k ≡ suc (n - (k + 1))
      more = omega arith

      -- the chain from p on, as its first shot and the others
      begun : {s : List ℕ} → chain_from l north (suc (n - (k + 1))) p ≡ p ∷ s → out' ++ s ≡ chain_of l north
      begun {s} e = ap (λ (o : List ℕ). o ++ s) w ∙ append_assoc out (p ∷ []) s ∙ ap (λ (t : List ℕ). out ++ t) (sym e ∙ ap (λ (j : ℕ). chain_from l north j p) (sym more)) ∙ h.0

      pub coming_last : (q : ℕ) → q ≡ next_of l north p → q ≡ p → out' ≡ chain_of l north
      coming_last q e i = sym (append-nil out') ∙ begun (chain_at_last (n - (k + 1)) p (sym e ∙ i))

      pub coming_more : (q : ℕ) → q ≡ next_of l north p → (q ≡ p → ⊥) → Coming n out' (k + 1) q
      coming_more q e ne = (
        ap (λ (j : ℕ). out' ++ chain_from l north (n - (k + 1)) j) e ∙ begun (chain_goes_on (n - (k + 1)) p (λ z. ne (e ∙ z))),
        omega (arith, h.1, ap length w, length-append out (p ∷ [])),
      )
