-- `triples::holding::full` meets its contract: word i has as many bits as there are ranks left.
use Rattle.std.proofs.Common.{rules, ◌≡◌, ◌∙◌, refl, sym, ap, ℕ, zero, suc, ◌+◌, ◌*◌, ◌-◌, ◌^◌, ◌<◌, min, [], ◌∷◌}
use mathlib.Core.Bool.{cond}
use lib.Dec.{ltb}
use native.Mathlib.Omega.{arith}
use native.Mathlib.Decide.{dec_lt}
use borrow.Author.Tests.{tests, lt-ltb, le-ltb}
use Rattle.algebra.specs.Loops.{picks}
use Rattle.algebra.specs.Sets.{mask_of}
use Rattle.algebra.specs.Words.{word_bits, sift}
use Rattle.algebra.proofs.ChainLaws.{filled_called}
use Rattle.algebra.proofs.UnionLaws.{mask_append}
use Rattle.triples.specs.Sizes.{word_count}
use Rattle.triples.specs.Ranks.{triple_count}
use Rattle.triples.specs.Sets.{full_of}
use Rattle.triples.proofs.holding.full.Goals as goal

-- of k bits from a on, those below m
below : (a m k : ℕ) → mask_of (picks k (λ b. ltb (a + b) m)) ≡ 2 ^ min (m - a) k - 1
unfolding picks mask_of
below a m zero = let e : min (m - a) 0 ≡ 0 = omega arith in rw e refl
below a m (suc k) =
    mask_append (picks k (λ b. ltb (a + b) m)) (cond (ltb (a + k) m) (k ∷ []) [])
    ∙ ap (λ (x : ℕ). x + mask_of (cond (ltb (a + k) m) (k ∷ []) [])) (below a m k)
    ∙ go (dec_lt (a + k) m)
  where
    go : Dec (a + k < m) → 2 ^ min (m - a) k - 1 + mask_of (cond (ltb (a + k) m) (k ∷ []) []) ≡ 2 ^ min (m - a) (suc k) - 1
    go (yes h) =
        let e : min (m - a) k ≡ k = omega arith in
        let f : min (m - a) (suc k) ≡ suc k = omega arith in
        rw (lt-ltb (a + k) m h, e, f) (omega arith)
    go (no h) =
        let e : min (m - a) (suc k) ≡ min (m - a) k = omega arith in
        rw (le-ltb (a + k) m (omega arith), e) (omega arith)

pub returns : goal.returns
unfolding full_of sift
returns c =
    let m = triple_count c.args.n in
    filled_called _ (λ i. mask_of (picks word_bits (λ b. ltb (word_bits * i + b) m))) word_count 0 c.from_fn.ensures.items
    (λ i y q l k. let e : (q ≡ _) × (y ≡ 2 ^ min (c.count-count.result - word_bits * i) word_bits - 1) = search (rules, tests) in
    (e.0, e.1 ∙ ap (λ (x : ℕ). 2 ^ min (x - word_bits * i) word_bits - 1) c.count-count.ensures ∙ sym (below (word_bits * i) m word_bits)))
