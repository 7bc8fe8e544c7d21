-- Signed circuits (source 001, section 2): the signs of an affine dependency whose support holds no smaller dependent set.
-- Nothing here mentions a determinant.
--
--   SignVector             a sign for each point; Z⁺ is where it is plus, Z⁻ where it is minus
--   Circuit n P X          X is a signed circuit of the first n points
--   Alike n X Y            the same signs below n
--   against X              every sign turned: (Z⁻, Z⁺)
--   Crossing n P S T       a circuit with Z⁺ inside S and Z⁻ inside T (source 001, Theorem 2.1, IP)
--
-- Main theorems: proofs/CircuitLaws (`circuit_like`: a circuit is known by its support, up to the sign), proofs/Conforming (one inside every dependency), proofs/Crossing,
-- proofs/Planar (what the circuits of distinct points in the plane are).
use Rattle.std.specs.Prelude.{◌≡◌, ℕ, ◌<◌, ℤ, pos}
use Rattle.algebra.specs.Sign.{Sign, minus, nought, plus, sign_of, opposite}
use Rattle.matroid.specs.Configurations.{Configuration}
use Rattle.matroid.specs.Dependencies.{Dependency, Somewhere}

abbrev pub SignVector : Type 0
SignVector = ℕ → Sign

pub record Circuit (n : ℕ) (P : Configuration) (X : SignVector) : Type 0 where
  pub by : ℕ → ℤ
  pub dependency : Dependency n P by
  pub somewhere : Somewhere n by
  pub signs : (i : ℕ) → i < n → X i ≡ sign_of (by i)
  -- a dependency inside the support, not 0 everywhere, is 0 nowhere on the support
  pub smallest : (g : ℕ → ℤ) → Dependency n P g → Somewhere n g → ((i : ℕ) → i < n → X i ≡ nought → g i ≡ pos 0) → (i : ℕ) → i < n → g i ≡ pos 0 → X i ≡ nought

abbrev pub Alike : ℕ → SignVector → SignVector → Type 0
Alike n X Y = (i : ℕ) → i < n → X i ≡ Y i

abbrev pub against : SignVector → SignVector
against X i = opposite (X i)

pub record Crossing (n : ℕ) (P : Configuration) (S T : ℕ → Type 0) : Type 0 where
  pub by : SignVector
  pub circuit : Circuit n P by
  pub left : (i : ℕ) → i < n → by i ≡ plus → S i
  pub right : (i : ℕ) → i < n → by i ≡ minus → T i
