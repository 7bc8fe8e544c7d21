-- What a C caller gets of a call that hands out shots, from what the room's call ensures: its answer reads as g.
--
--   returned_patch      the number that is returned, the coordinates at a lent place that held x, and the number of shots at one that held n
use mathlib.Core.Path.{◌≡◌, ap}
use mathlib.Core.List.{List}
use Prim.Native.Nat.{ℕ}
use lib.IntN.{ℤ}
use Rattle.std.proofs.Common.{Result}
use Rattle.shots.specs.Calls.{PatchRead, read_patch}
use Rattle.shots.specs.declared.Handed.{Handed}
use Rattle.shots.specs.declared.refusal.Refusal.{Refusal}
use Rattle.patch.specs.Returns.{number_of, left_at, beside_at}

-- with what `handed` ensures of the answer r
pub returned_patch : (x : List ℤ) (n : ℕ) (r : Result Handed Refusal) {g : PatchRead} → read_patch r ≡ g
    → (number_of (read_patch r).answer ≡ number_of g.answer) × (beside_at x (read_patch r).answer (read_patch r).coordinates ≡ beside_at x g.answer g.coordinates) × (left_at n (read_patch r).answer ≡ left_at n g.answer)
returned_patch x n r q =
    (ap (λ (g : PatchRead). number_of g.answer) q, ap (λ (g : PatchRead). beside_at x g.answer g.coordinates) q, ap (λ (g : PatchRead). left_at n g.answer) q)
