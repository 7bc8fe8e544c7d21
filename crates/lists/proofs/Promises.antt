-- What the public call `test` promises.
--
--   accepted_decided for an accepted patch, the number that refuses a list decides that it is a triangulation with nothing past the last rank
--   test_refuses     a refusal number exactly when its line is the first that holds
--   test_accepts     accepted exactly when the patch is, the list has no bit past the last rank, and its triples are a triangulation in the published sense
--   tested_right     a list that is accepted is one of a patch that is
--   test_one         two permitted answers are the same
--   never_empty      a list without a triple is never accepted
--
-- That the lines are the published statements: specs/Lines; that the tests decide them: proofs/Agreement.
use Rattle.std.specs.Prelude.{◌≡◌, ℕ, ◌<◌, false, eqb, ◌↔◌, List, ℤ}
use mathlib.Core.Path.{refl, sym, ◌∙◌}
use mathlib.Core.Bool.{true≢false}
use Rattle.algebra.specs.Answer.{gives, refuses, refusal, First, Clear, Reflects, Decides}
use Rattle.algebra.specs.Words.{member}
use Rattle.algebra.proofs.AnswerLaws.{chain_refuses_upon, chain_gives_upon, clear-append, clear-refusal, reflects_iff, reflects_eqb}
use Rattle.matroid.specs.Triangulations.{Triangulation}
use Rattle.shots.specs.Coordinates.{patch_of}
use Rattle.shots.specs.Patch.{count_of}
use Rattle.shots.specs.Tests.{shot_rules, refusal_of}
use Rattle.shots.specs.Lines.{shot_lines}
use Rattle.shots.proofs.Promises.{shots_decided, shots_kept}
use Rattle.triples.specs.Ranks.{triple_count}
use Rattle.lists.specs.Tests.{list_rules, list_refusal_of}
use Rattle.lists.specs.Lines.{Listed, PastLast, list_lines, test_lines, Accepted}
use Rattle.std.proofs.Common.{Result}
use Rattle.shots.specs.Refusals.{answered}
use Rattle.shots.specs.declared.refusal.Refusal.{Refusal}
use Rattle.shots.proofs.RefusalLaws.{answered_one}
use Rattle.lists.specs.Calls.{test_of}
use Rattle.lists.proofs.Agreement.{list_decided, accepted_iff_triangulation}
use Rattle.lists.proofs.Chains.{list_numbered}

pub accepted_decided : (l : List ℤ) → refusal_of l ≡ 0 → (w : List ℕ) → Reflects (Accepted l w) (eqb (list_refusal_of l w) 0)
unfolding list_refusal_of
accepted_decided l ok w =
    let c = clear-refusal (list_rules l w) (list_lines l w) (list_numbered l w) (list_decided l w ok) in
    let a = accepted_iff_triangulation l w in
    reflects_iff (λ e. a.0 (c.0 e), λ h. c.1 (a.1 h)) (reflects_eqb (refusal (list_rules l w)) 0)

module _ (l : List ℤ) (w : List ℕ) where
  decided : Clear (shot_lines l) → Decides (list_rules l w) (list_lines l w)
  decided h = list_decided l w ((shots_kept l).0 h)

  pub test_refuses : (n : ℕ) → (test_of l w ≡ refuses n) ↔ First n (test_lines l w)
  unfolding test_of
  test_refuses n = chain_refuses_upon (shot_rules l) (list_rules l w) (shot_lines l) (list_lines l w) tt n (shots_decided l) decided

  test_gives : (v : Unit {0}) → (test_of l w ≡ gives v) ↔ (Clear (test_lines l w) × (tt ≡ v))
  unfolding test_of
  test_gives v = chain_gives_upon (shot_rules l) (list_rules l w) (shot_lines l) (list_lines l w) tt v (shots_decided l) decided

  pub test_accepts : (test_of l w ≡ gives tt) ↔ (Clear (shot_lines l) × (PastLast l w → ⊥) × Triangulation (count_of l) (patch_of l) (Listed (count_of l) w))
  test_accepts = (
    λ e. let (h, k) = clear.0 ((test_gives tt).0 e).0 in let (p, g) = (accepted_iff_triangulation l w).0 k in (h, p, g),
    λ (h, p, g). (test_gives tt).1 (clear.1 (h, (accepted_iff_triangulation l w).1 (p, g)), refl),
  )
    where
      clear : Clear (test_lines l w) ↔ (Clear (shot_lines l) × Clear (list_lines l w))
      clear = clear-append (shot_lines l) (list_lines l w)

  pub tested_right : test_of l w ≡ gives tt → refusal_of l ≡ 0
  tested_right e = (shots_kept l).0 (test_accepts.0 e).0

  pub test_one : (r r' : Result (Unit {0}) Refusal) → answered r ≡ test_of l w → answered r' ≡ test_of l w → r ≡ r'
  test_one r r' = answered_one

  pub never_empty : ((r : ℕ) → r < triple_count (count_of l) → member w r ≡ false) → test_of l w ≡ gives tt → ⊥
  never_empty h e = let (_, (r, k, m, _)) = (test_accepts.0 e).2.some in true≢false (sym m ∙ h r k)
