-- What the reader hands over for an accepted record of n shots.
--
--   shots_few, shots-accepted     there are few shots, and the patch is accepted
--   shots_count                   byte 3 counts them, and it is there
--   handed_count, shots-front     the count is that of the reader, and the coordinates stand at the front of the array
use Rattle.std.specs.Prelude.{◌≡◌, ℕ, ◌*◌, ◌<◌, ◌≤◌, List, length, get_or, take, Ok}
use mathlib.Core.Path.{sym, ◌∙◌, ap}
use native.Mathlib.Omega.{arith}
use native.Mathlib.Decide.{dec_lt}
use lib.ListN.{get_or-eq_default}
use Rattle.algebra.specs.Answer.{gives}
use Rattle.shots.specs.Sizes.{shots_least, shots_most}
use Rattle.shots.specs.Tests.{refusal_of}
use Rattle.shots.specs.Calls.{PatchRead, read_patch}
use Rattle.shots.specs.declared.Handed.{Handed}
use Rattle.shots.proofs.Patch.{patch_few}
use Rattle.records.specs.Reading.{coordinates_of}
use Rattle.records.specs.Calls.{read_patch_of}
use Rattle.records.proofs.Promises.{read_patch_gives, read_patch_front, read_patch_count, read_patch_accepted}

module _ (b : List ℕ) (n : ℕ) (given : (read_patch_of b).answer ≡ gives n) where
  pub shots-accepted : refusal_of (coordinates_of b) ≡ 0
  shots-accepted = read_patch_accepted b n given

  between : (shots_least ≤ n) × (n ≤ shots_most)
  between = let few = patch_few (coordinates_of b) shots-accepted in (omega (arith, read_patch_count b n given), omega (arith, read_patch_count b n given))

  pub shots_few : n ≤ shots_most
  shots_few = between.1

  pub shots_count : (get_or b 3 0 ≡ n) × (3 < length b)
  shots_count = (((read_patch_gives b n).0 given).1, there (dec_lt 3 (length b)))
    where
      there : Dec (3 < length b) → 3 < length b
      there (yes h) = h
      there (no h) = absurd (omega (arith, get_or-eq_default b 0 {n = 3} (omega arith), ((read_patch_gives b n).0 given).1, between.0))

module _ (b : List ℕ) (p : Handed) (e : read_patch (Ok p) ≡ read_patch_of b) where
  pub handed_count : (read_patch_of b).answer ≡ gives p.count
  handed_count = ap (λ (y : PatchRead). y.answer) (sym e)

  pub shots-front : take (2 * p.count) p.coordinates ≡ coordinates_of b
  shots-front = ap (λ (y : PatchRead). take (2 * p.count) y.coordinates) e ∙ read_patch_front b p.count handed_count
