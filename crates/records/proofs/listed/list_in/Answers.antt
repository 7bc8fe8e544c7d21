-- `records::listed::list_in` meets its contract: a triple that is bad stops the loop; before it, the list is that of the triples passed, and the least rank that of the last of them and 1.
use mathlib.Core.Path.{◌≡◌, refl, sym, ◌∙◌, ap}
use mathlib.Core.Bool.{Bool, true, false, not, ◌||◌}
use mathlib.Core.List.{List, [], ◌∷◌}
use Prim.Native.Nat.{ℕ, ◌+◌, ◌*◌, ◌≤◌, ◌<◌}
use native.Mathlib.Omega.{arith}
use native.Mathlib.Numerals.{add-one}
use borrow.Author.Tests.{lt-ltb, le-ltb}
use lib.Dec.{ltb}
use lib.ListN.{get_or}
use Rattle.algebra.specs.Answer.{gives, refuses, chain}
use Rattle.algebra.specs.Loops.{any}
use Rattle.algebra.specs.Sets.{Within}
use Rattle.algebra.specs.Words.{word_bits, put_in}
use Rattle.algebra.proofs.AnswerLaws.{chain_broken, chain_kept, reflects_yes}
use Rattle.algebra.proofs.LoopLaws.{any_none, found, go_on_lem, fold_none, fold_more}
use Rattle.shots.specs.Sizes.{shots_most}
use Rattle.triples.specs.Sizes.{word_count}
use Rattle.triples.specs.Ranks.{triple_count, rank_of}
use Rattle.triples.specs.Sets.{words_of}
use Rattle.triples.proofs.RankLaws.{triple_of_rank, rank_room}
use Rattle.records.specs.Reading.{triple_in, in_form, least_at, bad_at, triple_rule, listed_in, listed_of}
use Rattle.records.proofs.FormatLaws.{in-form}
use Rattle.records.proofs.listed.list_in.Goals as goal

pub loop-j-init : goal.loop-j-init
unfolding listed_in least_at
loop-j-init c = (any_none _, c.none-list.ensures ∙ fold_none _ _, refl)

-- triple j of the record, as the code has it
module _ (n : ℕ) (b : List ℕ) (j : ℕ) {x y z : ℕ} (e : (x ≡ get_or b (5 + 3 * j) 0) × (y ≡ get_or b (6 + 3 * j) 0) × (z ≡ get_or b (7 + 3 * j) 0)) where
  read : x ∷ y ∷ z ∷ [] ≡ triple_in b j
  unfolding triple_in
  read = λ k. e.0 k ∷ e.1 k ∷ e.2 k ∷ []

  bad-is : (not (in_form n x y z) || ltb (rank_of n (x ∷ y ∷ z ∷ [])) (least_at n b j)) ≡ bad_at n b j
  unfolding bad_at
  bad-is = λ k. not (in_form n (e.0 k) (e.1 k) (e.2 k)) || ltb (rank_of n (read k)) (least_at n b j)

  formless : in_form n x y z ≡ false → bad_at n b j ≡ true
  formless h = sym bad-is ∙ rw h refl

  early : in_form n x y z ≡ true → {r : ℕ} → r ≡ rank_of n (x ∷ y ∷ z ∷ []) → r < least_at n b j → bad_at n b j ≡ true
  early h p l = sym bad-is ∙ rw (h, sym p, lt-ltb _ _ l) refl

  good : in_form n x y z ≡ true → {r : ℕ} → r ≡ rank_of n (x ∷ y ∷ z ∷ []) → least_at n b j ≤ r → bad_at n b j ≡ false
  good h p l = sym bad-is ∙ rw (h, sym p, le-ltb _ _ l) refl

-- what the form says
module _ (n x y z : ℕ) (h : in_form n x y z ≡ true) where
  formed : Within 0 (x ∷ y ∷ z ∷ []) n
  formed = reflects_yes (in-form n x y z) h

  ranked : rank_of n (x ∷ y ∷ z ∷ []) < triple_count n
  ranked = (triple_of_rank n (x ∷ y ∷ z ∷ []) formed refl).0

-- a bad triple refuses the record
refused : (n : ℕ) (b : List ℕ) {t j : ℕ} → t ≡ get_or b 4 0 → j < t → bad_at n b j ≡ true → refuses 7 ≡ chain (triple_rule n b ∷ []) (listed_of n b)
refused n b {t} {j} e h q = chain_broken (triple_rule n b) [] _ (sym (found (bad_at n b) (get_or b 4 0) j (omega arith) refl q))

pub returns-then-not-in_form : goal.returns-then-not-in_form
returns-then-not-in_form c =
    let a = c.args in
    refused a.n a.b.now c.requires.1 c.loop-j-test.true (formless a.n a.b.now c.loop-j.j c.triple-s.ensures (sym c.in_form.ensures ∙ c.if-not-in_form.true))

pub rank-r-requires : goal.rank-r-requires
rank-r-requires c =
    let f = formed c.args.n _ _ _ (sym c.in_form.ensures ∙ c.if-not-in_form.false) in
    (omega (arith, f), omega (arith, f), f.2.2.1, c.requires.0)

pub returns-then-r-least : goal.returns-then-r-least
returns-then-r-least c =
    let a = c.args in
    refused a.n a.b.now c.requires.1 c.loop-j-test.true
    (early a.n a.b.now c.loop-j.j c.triple-s.ensures (sym c.in_form.ensures ∙ c.if-not-in_form.false) c.rank-r.ensures (omega (arith, c.loop-j.invariant.2, c.if-r-least.true)))

-- the rank is one
low : (n x y z : ℕ) {f : Bool} {r : ℕ} → n ≤ shots_most → f ≡ in_form n x y z → f ≡ true → r ≡ rank_of n (x ∷ y ∷ z ∷ []) → r < word_bits * word_count
low n x y z {f} {r} few p e q = rank_room n r few refl (omega (arith, q, ranked n x y z (sym p ∙ e)))

pub with-list-requires : goal.with-list-requires
with-list-requires c = low c.args.n _ _ _ c.requires.0 c.in_form.ensures c.if-not-in_form.false c.rank-r.ensures

pub overflow_add-least : goal.overflow_add-least
overflow_add-least c = omega (arith, low c.args.n _ _ _ c.requires.0 c.in_form.ensures c.if-not-in_form.false c.rank-r.ensures)

after : (n : ℕ) (b : List ℕ) (j : ℕ) → rank_of n (triple_in b j) + 1 ≡ least_at n b (j + 1)
unfolding least_at
after n b j = ap (least_at n b) (sym (add-one j))

pub loop-j-preserved : goal.loop-j-preserved
unfolding listed_in
loop-j-preserved c =
    let a = c.args in
    let v = c.loop-j.invariant in
    let j = c.loop-j.j in
    let r = c.rank-r.ensures ∙ ap (rank_of a.n) (read a.n a.b.now j c.triple-s.ensures) in (
      go_on_lem (bad_at a.n a.b.now) j v.0 refl
          (good a.n a.b.now j c.triple-s.ensures (sym c.in_form.ensures ∙ c.if-not-in_form.false) c.rank-r.ensures (omega (arith, v.2, c.if-r-least.false))),
      fold_more _ _ j v.1 (c.with-list.ensures ∙ ap (put_in (words_of c.loop-j.list)) r),
      ap (λ (k : ℕ). k + 1) r ∙ after a.n a.b.now j,
    )

pub returns : goal.returns
unfolding chain listed_of
returns c =
    let v = c.loop-j.invariant in
    let e : c.loop-j.j ≡ get_or c.args.b.now 4 0 = omega (arith, c.loop-j-test.false, c.loop-j.auto.j-end, c.requires.1) in
    ap gives (v.1 ∙ ap (listed_in c.args.n c.args.b.now) e)
    ∙ chain_kept (triple_rule c.args.n c.args.b.now) [] _ (ap (λ (k : ℕ). any k (bad_at c.args.n c.args.b.now)) (sym e) ∙ v.0)
