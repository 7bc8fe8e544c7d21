-- What each public call of this room answers, for every input.
--
--   count_call_of l            C, the number of circuits; or 1-4
--   circuit_call_of l z        the two sides of circuit z, as masks over shots; or 1-4, 12
--   circuit_at l z, signs_of l z    circuit z, and its signs
--   circuit_rule l z          12: the number is not below C
--   GivenFor l X z           the circuit with the signs X is given for z: what `circuit` gives for z has these signs, or all of them turned
--
-- That these are the published circuits: proofs/Promises (`circuit_agrees`, `circuit-given`). Source: document 01, "Circuits".
use Rattle.std.specs.Prelude.{◌≡◌, ℕ, ◌⊎◌, List, [], ◌∷◌, ◌++◌, length, ℤ, nat_le, slice_index_or}
use Rattle.algebra.specs.Answer.{Answer, gives, Rule, chain}
use Rattle.matroid.specs.Circuits.{SignVector, Alike, against}
use Rattle.shots.specs.Patch.{count_of}
use Rattle.shots.specs.Tests.{shot_rules}
use Rattle.circuits.specs.Sides.{TwoSides, masks, sign_in, mask_signs}
use Rattle.circuits.specs.Numbering.{circuits_of}
use Rattle.circuits.specs.declared.Sides.{Sides}

-- the circuit of number z; one without shots past the last
abbrev pub circuit_at : List ℤ → ℕ → TwoSides
circuit_at l z = slice_index_or (circuits_of l) z (record { plus = []; minus = [] })

abbrev pub signs_of : List ℤ → ℕ → SignVector
signs_of l z = sign_in (circuit_at l z)

unfoldable pub count_call_of : List ℤ → Answer ℕ
count_call_of l = chain (shot_rules l) (length (circuits_of l))

abbrev pub circuit_rule : List ℤ → ℕ → Rule
circuit_rule l z = record { number = 12; broken = nat_le (length (circuits_of l)) z }

unfoldable pub circuit_call_of : List ℤ → ℕ → Answer Sides
circuit_call_of l z = chain (shot_rules l ++ circuit_rule l z ∷ []) (masks (circuit_at l z))

abbrev pub GivenFor : List ℤ → SignVector → ℕ → Type 0
GivenFor l X z = (s : Sides) × (circuit_call_of l z ≡ gives s) × (Alike (count_of l) X (mask_signs s) ⊎ Alike (count_of l) X (against (mask_signs s)))
