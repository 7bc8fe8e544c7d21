-- `triples::ranks::triple_at` meets its contract: by its first number, the first of the others, and the one that is left.
use mathlib.Core.Path.{◌≡◌, sym, ◌∙◌, ap}
use mathlib.Core.List.{List, ◌∷◌}
use Prim.Native.Nat.{ℕ, ◌+◌, ◌-◌, ◌<◌}
use native.Mathlib.Omega.{arith}
use Rattle.algebra.specs.Places.{choose, set_by}
use Rattle.algebra.proofs.ChooseLaws.{choose_one}
use Rattle.algebra.proofs.PlaceLaws.{set_one}
use Rattle.triples.proofs.RankLaws.{count-choose, triple_by}
use Rattle.triples.proofs.ranks.triple_at.Lts
use Rattle.triples.proofs.ranks.triple_at.Reads
use Rattle.triples.proofs.ranks.triple_at.Tie
use Rattle.triples.proofs.ranks.triple_at.Goals as goal

abbrev After-head-b : Type 0
After-head-b = Lts.After-head2 Tie.the-claims Reads.Pre Reads.Post

-- the numbers that are left, as `head` counts them
all_left : (n : ℕ) → n - 0 ≡ n
all_left n = omega arith

left : (n i : ℕ) → n - (i + 1) ≡ n - 1 - i
left n i = omega arith

pub head-a-requires : goal.head-a-requires
head-a-requires c = let n = c.args.n in (c.requires.0, omega (arith, c.requires.1, count-choose n, ap (λ (m : ℕ). choose m 3) (all_left n)))

pub head-b-requires : goal.head-b-requires
head-b-requires c =
    let s = c.before.before in
    let f = c.head-a in
    (s.requires.0, omega (arith, f.ensures.1, ap (λ (m : ℕ). choose m 2) (left s.args.n f.result.number)))

-- the third number
module _ (c : After-head-b) where
  abbrev count : ℕ
  count = c.args.n

  third : c.head-b.result.rest < count - 1 - c.head-b.result.number
  third = omega (arith, c.head-b.ensures.1, choose_one (count - 1 - c.head-b.result.number))

pub overflow_add-result-2 : goal.overflow_add-result-2
overflow_add-result-2 c = omega (arith, third c.before.before, c.head-b.ensures.0, c.requires.0)

pub returns : goal.returns
returns c =
    let d = c.before.before in
    let f = d.head-a in
    let g = d.head-b in
    let s = d.before.before.before in
    let n = s.args.n in
    let i = f.result.number in
    let j = g.result.number in
    sym
    (triple_by n s.args.r s.requires.1 ∙ ap (λ (m : ℕ). set_by 3 0 m s.args.r) (sym (all_left n)) ∙ f.ensures.2
    ∙ ap (λ (t : List ℕ). i ∷ t)
    (ap (λ (m : ℕ). set_by 2 (i + 1) m f.result.rest) (sym (left n i)) ∙ g.ensures.2 ∙ ap (λ (t : List ℕ). j ∷ t) (set_one (j + 1) (n - 1 - j) g.result.rest (third c.before.before))))
