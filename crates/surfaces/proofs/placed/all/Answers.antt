-- `surfaces::placed::all` meets its contract: from the list of the first three shots, the shots so far are placed.
use Rattle.std.specs.Prelude.{◌≡◌, ℕ, ◌≤◌, Bool, ◌||◌, eqb, List, ℤ}
use mathlib.Core.Path.{refl, sym, ◌∙◌, ap}
use native.Mathlib.Omega.{arith}
use mathlib.Core.Logic.{inr}
use borrow.Author.Tests.{ne_eqb}
use Rattle.algebra.proofs.AnswerLaws.{reflects_true, reflects-or, reflects_eqb}
use Rattle.algebra.specs.Loops.{fold}
use Rattle.algebra.specs.Words.{both_of}
use Rattle.algebra.proofs.LoopLaws.{fold_more, fold_end}
use Rattle.shots.proofs.Patch.{patch_near, patch_few}
use Rattle.triples.specs.Sets.{words_of, holders_of}
use Rattle.surfaces.specs.Placing.{first_off, place_shot, begin_of, place_next, placed_of}
use Rattle.surfaces.proofs.ByEdges.{first_off_low, begin_corner}
use Rattle.surfaces.proofs.placed.all.Goals.{then-m-off, else-m-off}
use Rattle.surfaces.proofs.placed.all.Goals as goal

-- one of the first three
abbrev early : ℕ → ℕ → Bool
early m off = eqb m 0 || (eqb m 1 || eqb m off)

next-kept : (l : List ℤ) (m off : ℕ) (w : List ℕ) → off ≡ first_off l → m ≡ off → w ≡ place_next l m w
unfolding place_next
next-kept l m off w e h = rw (ap (early m) (sym e) ∙ reflects_true (reflects-or (reflects_eqb m 0) (reflects-or (reflects_eqb m 1) (reflects_eqb m off))) (inr (inr h))) refl

next-placed : (l : List ℤ) (m off : ℕ) (w : List ℕ) → off ≡ first_off l → 2 ≤ m → (m ≡ off → ⊥) → place_shot l w m ≡ place_next l m w
unfolding place_next
next-placed l m off w e h ne = rw (ap (early m) (sym e) ∙ (λ k. ne_eqb m 0 (λ q. omega arith) k || (ne_eqb m 1 (λ q. omega arith) k || ne_eqb m off ne k))) refl

pub first_off-off-requires : goal.first_off-off-requires
first_off-off-requires c = let h = c.requires.0 in (patch_near _ h, omega (arith, (patch_few _ h).0))

pub corner-t-requires : goal.corner-t-requires
corner-t-requires c =
    let few = patch_few _ c.requires.0 in
    (omega (arith, few.0, c.requires.1), omega (arith, few.0, c.requires.1), omega (arith, c.first_off-off.ensures, (first_off_low _ c.requires.0).1, c.requires.1))

pub loop-m-init : goal.loop-m-init
unfolding fold place_next
loop-m-init c =
    let n = c.requires.1 in
    c.corner-t.ensures ∙ (λ k. both_of (both_of (holders_of (n k) 0) (holders_of (n k) 1)) (holders_of (n k) (c.first_off-off.ensures k))) ∙ begin_corner _ c.requires.0

pub loop-m-preserved : goal.loop-m-preserved
loop-m-preserved c =
    fold_more _ _ _ c.loop-m.invariant
    (elim c.if-m-off.branch [
      | then-m-off w ↦ ap words_of w.t-is ∙ w.place-t.ensures ∙ next-placed _ _ _ _ c.first_off-off.ensures c.loop-m.auto.m w.if-m-off.true
      | else-m-off w ↦ ap words_of w.t-is ∙ next-kept _ _ _ _ c.first_off-off.ensures w.if-m-off.false
    ])

pub returns : goal.returns
unfolding placed_of
returns c =
    let l = c.args.shots.now in
    fold_end _ _ _ _ (c.loop-m.auto.m-end (omega (arith, (patch_few _ c.requires.0).0, c.requires.1))) c.loop-m-test.false c.loop-m.invariant ∙ ap (fold (place_next l) (begin_of l)) c.requires.1

pub invariant_of-ground : goal.invariant_of-ground
invariant_of-ground c = record { near = patch_near _ c.requires.0; counted = c.requires.1 }
