-- `records::listed::put_triple` meets its contract: the three shots of the triple are copied to their place.
use mathlib.Core.Path.{◌≡◌, ◌∙◌}
use mathlib.Core.List.{[], ◌∷◌}
use Prim.Native.Nat.{ℕ, ◌<◌, ◌≤◌}
use native.Mathlib.Omega.{arith}
use Rattle.shots.specs.Sizes.{shots_most}
use Rattle.triples.specs.Ranks.{triple_count, triple_at}
use Rattle.triples.proofs.RankLaws.{triple_shots, triple_at_within}
use Rattle.records.proofs.FieldLaws.{wrote_range}
use Rattle.records.proofs.listed.put_triple.Goals as goal

-- the shots of a triple are bytes
small : (n r i j k : ℕ) → n ≤ shots_most → r < triple_count n → i ∷ j ∷ k ∷ [] ≡ triple_at n r → (i < 256) × (j < 256) × (k < 256)
small n r i j k f l e = let h = triple_shots n r l e in (omega (arith, f, h), omega (arith, f, h), omega (arith, f, h))

pub overflow_cast-s : goal.overflow_cast-s
overflow_cast-s c = omega (arith, small c.args.n c.args.r _ _ _ c.requires.0 c.requires.1 c.triple_at-s.ensures)

pub overflow_cast-s-2 : goal.overflow_cast-s-2
overflow_cast-s-2 c = omega (arith, small c.args.n c.args.r _ _ _ c.requires.0 c.requires.1 c.triple_at-s.ensures)

pub overflow_cast-s-3 : goal.overflow_cast-s-3
overflow_cast-s-3 c = omega (arith, small c.args.n c.args.r _ _ _ c.requires.0 c.requires.1 c.triple_at-s.ensures)

pub returns : goal.returns
returns c =
    let a = c.args in
    wrote_range a.out.now a.at _ (triple_at a.n a.r) _ (c.copy_from_slice.ensures.after ∙ c.triple_at-s.ensures) (omega (arith, (triple_at_within a.n a.r c.requires.1).1)) (omega arith)
