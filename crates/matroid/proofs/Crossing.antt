-- A crossing by a circuit and by any dependency: the two are one, for points that span their space.
--
-- Main theorem: `crossing_iff_separated`.
use mathlib.Core.Path.{sym, ◌∙◌}
use mathlib.Core.Logic.{◌↔◌}
use Prim.Native.Nat.{ℕ}
use Rattle.algebra.proofs.SignLaws.{sign_of_pos, sign_of-neg, pos-sign_of, neg-sign_of, plus-nought, minus-nought}
use Rattle.matroid.specs.Configurations.{Configuration, Spans}
use Rattle.matroid.specs.Dependencies.{Separated}
use Rattle.matroid.specs.Circuits.{Crossing}
use Rattle.matroid.proofs.Conforming.{circuit_inside}

pub crossing_iff_separated : (n : ℕ) (P : Configuration) → Spans n P → (S T : ℕ → Type 0) → Crossing n P S T ↔ Separated n P S T
crossing_iff_separated n P sp S T = (out, into)
  where
    out : Crossing n P S T → Separated n P S T
    out c = let z = c.circuit in record {
      by = z.by;
      dependency = z.dependency;
      somewhere = z.somewhere;
      left = λ i l p. c.left i l (z.signs i l ∙ sign_of_pos (z.by i) p);
      right = λ i l p. c.right i l (z.signs i l ∙ sign_of-neg (z.by i) p);
    }

    into : Separated n P S T → Crossing n P S T
    into s = let (X, z, fits) = circuit_inside n P sp s.by s.dependency s.somewhere in record {
      by = X;
      circuit = z;
      left = λ i l e. s.left i l (pos-sign_of (s.by i) (sym (fits i l (λ q. plus-nought (sym e ∙ q))) ∙ e));
      right = λ i l e. s.right i l (neg-sign_of (s.by i) (sym (fits i l (λ q. minus-nought (sym e ∙ q))) ∙ e));
    }
