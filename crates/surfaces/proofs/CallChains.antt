-- The chain of refusals of `flip`, test by test as the code makes them.
--
--   flip_stops, flip_unlisted, flip_unnumbered    the shots are refused, the list is; there is no such circuit
--   flip_turned                what is found between the stars of the circuit's sides is the flip's answer
use Rattle.std.specs.Prelude.{◌≡◌, ℕ, ◌+◌, ◌<◌, ◌≤◌, Bool, true, false, not, List, [], ◌∷◌, ◌++◌, Option, length, ℤ}
use mathlib.Core.Path.{refl, sym, ◌∙◌, ap}
use borrow.Author.Tests.{le-leb, lt-leb}
use Rattle.algebra.specs.Answer.{gives, refuses, Rule, chain}
use Rattle.algebra.specs.Words.{Words}
use Rattle.algebra.proofs.AnswerLaws.{chain_broken, chain_kept, chain_stops, chain_goes}
use Rattle.shots.specs.Patch.{count_of}
use Rattle.shots.specs.Calls.{accept_of}
use Rattle.shots.proofs.Patch.{patch_few}
use Rattle.shots.proofs.Chains.{run_accepted, run_refused, run_passed}
use Rattle.circuits.specs.Sides.{masks}
use Rattle.circuits.specs.Numbering.{circuits_of}
use Rattle.circuits.specs.Calls.{circuit_at, circuit_rule}
use Rattle.triples.specs.Sizes.{word_count}
use Rattle.lists.specs.Tests.{list_rules}
use Rattle.lists.proofs.ByWords.{accepted_solid}
use Rattle.lists.proofs.Chains.{list_accepted}
use Rattle.surfaces.specs.Flips.{flipped_of}
use Rattle.surfaces.specs.Calls.{no_flip, flip_rules, flip_of}
use Rattle.surfaces.specs.Stars.{star_of, found_by, flipped_by, taken_by, found_answer}
use Rattle.surfaces.proofs.ByStars.{found-along, list-along}

-- what is found counts only where a flip is
found_same : {a : Bool} (b : Bool) {u v : List ℕ} → a ≡ b → (b ≡ true → u ≡ v) → {r : Rule} → r.number ≡ 13 → r.broken ≡ not b → found_answer (taken_by a u) ≡ chain (r ∷ []) v
unfolding chain
found_same true e f n k = rw (e, k) (ap gives (f refl))
found_same false e f n k = rw (e, k) (ap refuses (sym n))

-- the shots are refused, or accepted
module _ (l : List ℤ) (w : List ℕ) (z : ℕ) where
  abbrev given : List ℕ
  given = flipped_of (count_of l) w (circuit_at l z)

  pub flip_stops : {n : ℕ} → refuses n ≡ accept_of l → refuses n ≡ flip_of l w z
  unfolding flip_of
  flip_stops e = run_refused l (list_rules l w ++ flip_rules l w z) given e

  module _ {u : Unit {0}} (e : gives u ≡ accept_of l) where
    pub flip_unlisted : {n : ℕ} → refuses n ≡ chain {A = Unit {0}} (list_rules l w) tt → refuses n ≡ flip_of l w z
    unfolding flip_of
    flip_unlisted k = chain_stops (list_rules l w) (flip_rules l w z) tt given (sym k) ∙ run_passed l (list_rules l w ++ flip_rules l w z) given e

    module _ {v : Unit {0}} (k : gives v ≡ chain {A = Unit {0}} (list_rules l w) tt) where
      behind : chain (flip_rules l w z) given ≡ flip_of l w z
      unfolding flip_of
      behind = chain_goes (list_rules l w) (flip_rules l w z) tt given (sym k) ∙ run_passed l (list_rules l w ++ flip_rules l w z) given e

      pub flip_unnumbered : length (circuits_of l) ≤ z → refuses 12 ≡ flip_of l w z
      flip_unnumbered m = chain_broken (circuit_rule l z) _ given (le-leb (length (circuits_of l)) z m) ∙ behind

      -- p and m are the masks of the circuit's sides; t and u are their stars, and o is what is found between them
      module _ (words : Words word_count w) (low : z < length (circuits_of l)) (p m : ℕ) (sided : (p ≡ (masks (circuit_at l z)).plus) × (m ≡ (masks (circuit_at l z)).minus)) where
        abbrev n : ℕ
        n = count_of l

        turned-along : found_answer (taken_by (found_by n (p + m) (star_of n p (p + m)) (star_of n m (p + m)) w) (flipped_by n (p + m) (star_of n p (p + m)) (star_of n m (p + m)) w)) ≡ flip_of l w z
        turned-along =
            let few = (patch_few l (run_accepted l e)).1 in
            let solid = (accepted_solid l w (list_accepted l w k)).1 in
            found_same _ (found-along l few z low p m sided w words solid) (list-along l few z low p m sided w words solid) {r = no_flip l w (circuit_at l z)} refl refl
            ∙ chain_kept (circuit_rule l z) _ given (lt-leb (length (circuits_of l)) z low) ∙ behind

        pub flip_turned : {t u : List ℕ} → t ≡ star_of n p (p + m) → u ≡ star_of n m (p + m)
            → {o : Option (List ℕ)} → o ≡ taken_by (found_by n (p + m) t u w) (flipped_by n (p + m) t u w) → found_answer o ≡ flip_of l w z
        flip_turned plus minus is = ap found_answer is ∙ (λ j. found_answer (taken_by (found_by n (p + m) (plus j) (minus j) w) (flipped_by n (p + m) (plus j) (minus j) w))) ∙ turned-along
