-- `report::lines::part` meets its contract: the one line of a number, or lines of an accepted patch, which is read again.
use Rattle.std.proofs.Common.{◌≡◌, ◌∙◌, refl, sym, ap, subst, ℕ, ◌+◌, true, List, ◌++◌, length, ℤ, rules, arith, Result, Ok, Err}
use Rattle.algebra.specs.Answer.{Answer, gives, refuses}
use Rattle.algebra.specs.Loops.{over}
use Rattle.shots.specs.Tests.{refusal_of}
use Rattle.shots.specs.Calls.{PatchRead, read_patch}
use Rattle.shots.specs.declared.Handed.{Handed}
use Rattle.shots.specs.declared.refusal.Refusal.{Refusal}
use Rattle.records.specs.Reading.{coordinates_of}
use Rattle.records.specs.Calls.{read_patch_of}
use Rattle.text.specs.Lines.{refused_line}
use Rattle.report.specs.Report.{Find, read_found, find_of, line_count, shown_line, line_of}
use Rattle.report.specs.declared.Shown.{Shown}
use Rattle.report.proofs.LineLaws.{Fits, find_fits, find-accepted, part-refused, part_shown}
use Rattle.report.proofs.ReadLaws.{shots_few, handed_count, shots-front, shots-accepted}
use Rattle.report.proofs.lines.part.Goals as goal

module _ (b t : List ℕ) {found : Result Shown Refusal} (e : read_found found t ≡ find_of b) where
  found_as : (r : Result Shown Refusal) → found ≡ r → read_found r t ≡ find_of b
  found_as r h = ap (λ (x : Result Shown Refusal). read_found x t) (sym h) ∙ e

  -- where the walk has an end, the record was accepted
  read_ok : (s : Shown) → found ≡ Ok s → (r : Result Handed Refusal) → read_patch r ≡ read_patch_of b → (p : Handed) × (r ≡ Ok p)
  read_ok s h (Ok p) i = (p, refl)
  read_ok s h (Err x) i =
      let (n, k) = find-accepted b (ap (λ (f : Find). f.shown) (sym (found_as (Ok s) h))) in
      absurd (none (ap (λ (y : PatchRead). y.answer) i ∙ k))
    where
      is_gives : Answer ℕ → ℕ
      is_gives (gives m) = 1
      is_gives (refuses m) = 0

      none : {m n : ℕ} → refuses m ≡ gives n → ⊥
      none q = let z : 0 ≡ 1 = ap is_gives q in omega (arith, z)

-- the lines, by the code's own values and by those of the contract
lines_are : (b : List ℕ) {l : List ℤ} {f : Find} (i j : ℕ) → l ≡ coordinates_of b → f ≡ find_of b → f.shown ≡ true → over (shown_line l f.ended f.complete) i j ≡ over (line_of (coordinates_of b) (find_of b)) i j
lines_are b {l} {f} i j p q e = sym (part_shown l f i j e) ∙ (λ k. over (line_of (p k) (q k)) i j)

pub overflow_mul-shots : goal.overflow_mul-shots
overflow_mul-shots c = omega (arith, shots_few _ _ (handed_count _ c.in-Ok-read_patch.patch c.in-Ok-read_patch.ensures))

pub shared_ref_as_front-shots : goal.shared_ref_as_front-shots
shared_ref_as_front-shots c = omega (arith, shots_few _ _ (handed_count _ c.in-Ok-read_patch.patch c.in-Ok-read_patch.ensures))

pub from_to-requires : goal.from_to-requires
from_to-requires c =
    let b = c.args.bytes.now in
    let p = c.in-Ok-read_patch.patch in
    let t = c.args.table.now in
    let h = c.in-Ok-read_patch.ensures in
    let e = found_as b t c.requires.0 (Ok c.in-Ok.ended) c.in-Ok.is in
    let n : line_count (find_of b) ≡ c.in-Ok.ended.walk.rows + 2 = ap line_count (sym e) in (
      omega arith,
      (
        ap refusal_of (shots-front b p h) ∙ shots-accepted b p.count (handed_count b p h),
        search rules,
        subst Fits (sym e) (find_fits b),
        omega (arith, c.requires.1),
        omega (arith, n, c.requires.2),
        omega (arith, ap length c.clear.ensures, c.requires.3),
      ),
    )

pub returns-in-Ok-read_patch : goal.returns-in-Ok-read_patch
returns-in-Ok-read_patch c =
    let b = c.args.bytes.now in
    let e = found_as b c.args.table.now c.requires.0 (Ok c.in-Ok.ended) c.in-Ok.is in
    c.from_to.ensures ∙ (λ k. c.clear.ensures k ++ lines_are b c.args.from c.args.to (shots-front b c.in-Ok-read_patch.patch c.in-Ok-read_patch.ensures) e refl k)

pub returns-in_default : goal.returns-in_default
returns-in_default c =
    let (p, h) = read_ok c.args.bytes.now c.args.table.now c.requires.0 c.in-Ok.ended c.in-Ok.is c.read_patch.result c.read_patch.ensures in
    absurd (c.in_default.not-Ok p h)

pub returns-in-Err : goal.returns-in-Err
returns-in-Err c =
    let b = c.args.bytes.now in
    let e = found_as b c.args.table.now c.requires.0 (Err c.in-Err.refusal) c.in-Err.is in
    let line = part-refused (coordinates_of b) (find_of b) c.args.from c.args.to (ap (λ (f : Find). f.shown) (sym e)) c.requires.1 c.requires.2 ∙ ap (λ (f : Find). refused_line f.number) (sym e) ∙ ap refused_line (sym c.from.ensures) in
    c.refused.ensures.text ∙ (λ k. c.clear.ensures k ++ sym line k)
