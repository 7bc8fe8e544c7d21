-- How the code makes the masks of a circuit, shot by shot in increasing order. Laws: proofs/MaskLaws.
--
--   begun i         one shot, on the plus side
--   joined z i s    one shot more, on the plus side where s says so
--   sides3, sides4  three and four shots in order, those behind the first on its side or not
--   Below z i       the shots so far are below i
use Rattle.std.specs.Prelude.{ℕ, ◌+◌, ◌^◌, ◌<◌, Bool, cond}
use Rattle.circuits.specs.declared.Sides.{Sides}

abbrev pub begun : ℕ → Sides
begun i = record { plus = 2 ^ i; minus = 0 }

abbrev pub joined : Sides → ℕ → Bool → Sides
joined z i s = cond s (record { plus = z.plus + 2 ^ i; minus = z.minus }) (record { plus = z.plus; minus = z.minus + 2 ^ i })

abbrev pub sides3 : ℕ → ℕ → ℕ → Bool → Bool → Sides
sides3 a b c p q = joined (joined (begun a) b p) c q

abbrev pub sides4 : ℕ → ℕ → ℕ → ℕ → Bool → Bool → Bool → Sides
sides4 a b c d p q r = joined (sides3 a b c p q) d r

abbrev pub Below : Sides → ℕ → Type 0
Below z i = (z.plus < 2 ^ i) × (z.minus < 2 ^ i)
