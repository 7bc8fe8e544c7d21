-- A call that hands out shots, in this room's terms (`patch_given`): its answer and the array beside it, from the rules rs that refuse it, the number n of shots and their coordinates l.
--
--   handed            an answer that the chain has, with the array that goes with it
--   handed_stops      a first part of the rules refuses
--   handed_done       no rule refuses
--   handed_refuses, handed_gives           the two kinds of answer, where the rules decide the lines ls
--   handed_coordinates, handed-refused     the array beside the answer
--   handed-front      as many coordinates as the answer says stand in front
--   patch_one         two answers with one reading are one answer
use mathlib.Core.Path.{◌≡◌, refl, sym, ◌∙◌, ap}
use mathlib.Core.Logic.{◌↔◌}
use Rattle.std.proofs.Common.{Result, Ok, Err}
use mathlib.Core.List.{List, ◌++◌}
use Prim.Native.Nat.{ℕ, ◌*◌, ◌≤◌}
use native.Mathlib.Omega.{arith}
use lib.ListN.{length, take, replicate}
use lib.IntN.{ℤ, pos}
use Rattle.algebra.specs.Answer.{Answer, gives, refuses, Rule, chain, refusal, Line, First, Clear, Decides}
use Rattle.algebra.specs.Writing.{wrote}
use Rattle.algebra.proofs.AnswerLaws.{chain_refuses, chain_gives, chain_stop, one_answer, Unbroken, unbroken_gives, gives_unbroken}
use Rattle.algebra.proofs.WritingLaws.{wrote_taken}
use Rattle.shots.specs.Sizes.{shots_most, coordinates_most}
use Rattle.shots.specs.Calls.{PatchRead, read_patch, coordinates_with, patch_given}
use Rattle.shots.specs.declared.Handed.{Handed}
use Rattle.shots.specs.declared.refusal.Refusal.{Refusal}
use Rattle.shots.proofs.RefusalLaws.{refusal_at, number_back}

module _ (rs : List Rule) (n : ℕ) (l : List ℤ) where
  pub handed : {a : Answer ℕ} → a ≡ chain rs n → record { answer = a; coordinates = coordinates_with a l } ≡ patch_given rs n l
  handed p = λ k. record { answer = p k; coordinates = coordinates_with (p k) l }

  pub handed_done : Unbroken rs → {t : List ℤ} → t ≡ wrote (replicate coordinates_most (pos 0)) 0 l → record { answer = gives n; coordinates = t } ≡ patch_given rs n l
  handed_done u e = (λ k. record { answer = gives n; coordinates = e k }) ∙ handed (sym (unbroken_gives rs n u))

  pub handed_kept : (m : ℕ) → (patch_given rs n l).answer ≡ gives m → Unbroken rs × (n ≡ m)
  handed_kept m e = gives_unbroken rs n m e

  -- where every coordinate has its place in the array
  pub handed-front : length l ≡ 2 * n → n ≤ shots_most → (m : ℕ) → (patch_given rs n l).answer ≡ gives m → take (2 * m) (patch_given rs n l).coordinates ≡ l
  handed-front e h m q =
      ap (λ (a : Answer ℕ). take (2 * m) (coordinates_with a l)) q
      ∙ ap (λ k. take k (wrote (replicate coordinates_most (pos 0)) 0 l)) (let s = (gives_unbroken rs n m q).1 in let f : 2 * m ≡ length l = omega arith in f)
      ∙ wrote_taken (replicate coordinates_most (pos 0)) l (omega arith)

  module _ (ls : List Line) (d : Decides rs ls) where
    pub handed_refuses : (k : ℕ) → ((patch_given rs n l).answer ≡ refuses k) ↔ First k ls
    handed_refuses k = chain_refuses rs ls n k d

    pub handed_gives : (m : ℕ) → ((patch_given rs n l).answer ≡ gives m) ↔ (Clear ls × (n ≡ m))
    handed_gives m = chain_gives rs ls n m d

    pub handed_coordinates : Clear ls → (patch_given rs n l).coordinates ≡ wrote (replicate coordinates_most (pos 0)) 0 l
    handed_coordinates h = ap (λ (a : Answer ℕ). coordinates_with a l) ((handed_gives n).1 (h, refl))

    pub handed-refused : (k : ℕ) → First k ls → (patch_given rs n l).coordinates ≡ replicate coordinates_most (pos 0)
    handed-refused k h = ap (λ (a : Answer ℕ). coordinates_with a l) ((handed_refuses k).1 h)

pub handed_stops : (rs ss : List Rule) (n : ℕ) (l : List ℤ) {r : ℕ} → r ≡ refusal rs → (r ≡ 0 → ⊥) → record { answer = refuses r; coordinates = replicate coordinates_most (pos 0) } ≡ patch_given (rs ++ ss) n l
handed_stops rs ss n l e h = handed (rs ++ ss) n l (ap refuses e ∙ chain_stop rs ss n (λ z. h (e ∙ z)))

-- ---- one answer: the reading can be undone

abbrev patch_as : PatchRead → Result Handed Refusal
patch_as p = go p.answer
  where
    go : Answer ℕ → Result Handed Refusal
    go (gives n) = Ok (record { count = n; coordinates = p.coordinates })
    go (refuses n) = Err (refusal_at n)

patch_back : (r : Result Handed Refusal) → patch_as (read_patch r) ≡ r
patch_back (Ok p) = refl
patch_back (Err e) = ap Err (number_back e)

pub patch_one : {x : PatchRead} {r r' : Result Handed Refusal} → read_patch r ≡ x → read_patch r' ≡ x → r ≡ r'
patch_one = one_answer read_patch patch_as patch_back
