-- Laws of the circuits that loops find one by one, each put behind those before.
--
--   Pouring rest done whole    the masks of the circuits still to come, behind those found, make the whole: the invariant of nested loops
--   pouring_start, pouring_last, pouring_into, pouring_room, pouring-turn, pouring_kept, pouring_out, pouring_end    what such loops want where they begin, for their body, after a turn with a circuit or without one, and at their end
--   found_count, found_most, found_at    of the masks of all circuits: how many they are, that there is room for them, and what stands at place z
--   circuit_found                        what the call `circuit` makes of them
use Rattle.std.proofs.Common.{◌≡◌, sym, ◌∙◌, ap, subst, ℕ, ◌+◌, ◌<◌, ◌≤◌, List, [], ◌∷◌, ◌++◌, length, map, Option, Some, None, Bor, ok_or, slice_index_or}
use Rattle.std.specs.Option.{option_copied}
use Rattle.std.specs.Slice.{IsItemAt}
use lib.IntN.{ℤ}
use mathlib.Core.List.{append_assoc, append-nil, map-append}
use native.Mathlib.Omega.{arith}
use lib.ListN.{length-append, length-map}
use borrow.Author.Tests.{le-leb, lt-leb}
use Rattle.algebra.specs.Answer.{gives, chain}
use Rattle.algebra.specs.Loops.{over}
use Rattle.algebra.proofs.AnswerLaws.{chain_broken, chain_kept}
use Rattle.algebra.proofs.ListLaws.{get_d_map}
use Rattle.algebra.proofs.OverLaws.{over-turn, over_end}
use Rattle.shots.specs.Sizes.{shots_most}
use Rattle.shots.specs.Patch.{count_of}
use Rattle.shots.specs.Refusals.{answered}
use Rattle.shots.specs.declared.refusal.Refusal.TheVariants as R
use Rattle.circuits.specs.declared.Sides.{Sides}
use Rattle.circuits.specs.Sides.{TwoSides, masks}
use Rattle.circuits.specs.Sizes.{circuits_most}
use Rattle.circuits.specs.Numbering.{circuits_of}
use Rattle.circuits.specs.Calls.{circuit_at, circuit_rule}
use Rattle.circuits.proofs.Bounds.{circuits-most}

-- ---- loops that go through all circuits

pub record Pouring (rest : List TwoSides) (done whole : List Sides) : Type 0 where
  pub makes : done ++ map masks rest ≡ whole

pub pouring_start : (xs : List TwoSides) {done : List Sides} → done ≡ [] → Pouring xs done (map masks xs)
pouring_start xs e = record { makes = ap (λ (zs : List Sides). zs ++ map masks xs) e }

pub pouring_last : {xs : List TwoSides} {done whole : List Sides} → Pouring xs done whole → Pouring (xs ++ []) done whole
pouring_last {xs} {done} {whole} p = subst (λ (ys : List TwoSides). Pouring ys done whole) (sym (append-nil xs)) p

-- the part xs comes next, and ys behind it
module _ (xs ys : List TwoSides) {done whole : List Sides} (p : Pouring (xs ++ ys) done whole) where
  parts : (done ++ map masks xs) ++ map masks ys ≡ whole
  parts = append_assoc done (map masks xs) (map masks ys) ∙ ap (λ (zs : List Sides). done ++ zs) (sym (map-append masks xs ys)) ∙ p.makes

  pub pouring_room : {z : Sides} → z ∷ [] ≡ map masks xs → length whole ≤ circuits_most → length done < circuits_most
  pouring_room e few =
      omega (arith, few, ap length parts, ap length e, length-append (done ++ map masks xs) (map masks ys), length-append done (map masks xs))

  pub pouring-turn : {z : Sides} {now : List Sides} → now ≡ done ++ z ∷ [] → z ∷ [] ≡ map masks xs → Pouring ys now whole
  pouring-turn q e = record { makes = ap (λ (zs : List Sides). zs ++ map masks ys) (q ∙ ap (λ (zs : List Sides). done ++ zs) e) ∙ parts }

  pub pouring_kept : {now : List Sides} → now ≡ done → [] ≡ map masks xs → Pouring ys now whole
  pouring_kept q e = record { makes = ap (λ (zs : List Sides). zs ++ map masks ys) (q ∙ sym (append-nil done) ∙ ap (λ (zs : List Sides). done ++ zs) e) ∙ parts }

pub pouring_end : {done whole : List Sides} → Pouring [] done whole → done ≡ whole
pouring_end {done} p = sym (append-nil done) ∙ p.makes

-- a loop over i below n: at its first turn or one more, and at its end
module _ (F : ℕ → List TwoSides) (ys : List TwoSides) {n i : ℕ} {done whole : List Sides} where
  pub pouring_into : i < n → Pouring (over F i n ++ ys) done whole → Pouring (F i ++ (over F (i + 1) n ++ ys)) done whole
  pouring_into h p = subst (λ (xs : List TwoSides). Pouring xs done whole) (ap (λ (xs : List TwoSides). xs ++ ys) (over-turn F i n h) ∙ append_assoc (F i) (over F (i + 1) n) ys) p

  pub pouring_out : n ≤ i → Pouring (over F i n ++ ys) done whole → Pouring ys done whole
  pouring_out h p = subst (λ (xs : List TwoSides). Pouring (xs ++ ys) done whole) (over_end F i n h) p

-- ---- all of them

module _ (l : List ℤ) {found : List Sides} (e : found ≡ map masks (circuits_of l)) where
  pub found_count : length found ≡ length (circuits_of l)
  found_count = ap length e ∙ length-map (circuits_of l) masks

  pub found_most : count_of l ≤ shots_most → length found ≤ circuits_most
  found_most few = omega (arith, found_count, circuits-most l few)

  pub found_at : (z : ℕ) (d : Sides) → z < length (circuits_of l) → slice_index_or found z d ≡ masks (circuit_at l z)
  found_at z d h = ap (λ (zs : List Sides). slice_index_or zs z d) e ∙ get_d_map masks (circuits_of l) z (record { plus = []; minus = [] }) d h

  -- r is what `get` answers
  pub circuit_found : (z : ℕ) (r : Option (Bor Sides)) → IsItemAt found z r → answered (ok_or (option_copied r) R.Circuit) ≡ chain (circuit_rule l z ∷ []) (masks (circuit_at l z))
  unfolding chain
  circuit_found z None g = chain_broken (circuit_rule l z) [] (masks (circuit_at l z)) (le-leb (length (circuits_of l)) z (omega (arith, g.3, found_count)))
  circuit_found z (Some x) g =
      let h : z < length (circuits_of l) = omega (arith, g.3.0, found_count) in
      ap gives (g.1 ∙ found_at z x.now h) ∙ chain_kept (circuit_rule l z) [] (masks (circuit_at l z)) (lt-leb (length (circuits_of l)) z h)
