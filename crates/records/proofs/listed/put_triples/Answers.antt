-- `records::listed::put_triples` meets its contract: what is still to be written makes the same of the run as it stands as all of it makes of the run at the start.
use mathlib.Core.Path.{◌≡◌, sym, ◌∙◌, ap}
use mathlib.Core.Bool.{true, false}
use mathlib.Core.List.{List}
use Prim.Native.Nat.{ℕ, ◌+◌, ◌*◌, ◌≤◌, ◌<◌}
use native.Mathlib.Omega.{arith}
use native.Mathlib.Nat.{add-zero}
use lib.ListN.{length}
use Rattle.algebra.specs.Writing.{wrote}
use Rattle.algebra.specs.Loops.{first_from, over}
use Rattle.algebra.specs.Words.{word_bits, member}
use Rattle.algebra.proofs.LoopLaws.{Found, found_on, found_less}
use Rattle.algebra.proofs.WritingLaws.{pieces-length, Putting, putting_none, putting-turn, putting_end, putting-length}
use Rattle.shots.specs.Sizes.{shots_most}
use Rattle.triples.specs.Sizes.{word_count}
use Rattle.triples.specs.Ranks.{triple_count, triple_at}
use Rattle.triples.specs.Sets.{words_of, size_of}
use Rattle.triples.proofs.RankLaws.{triple_at_within, triples_few}
use Rattle.records.specs.Formats.{rank_bytes, triple_bytes}
use Rattle.records.proofs.FormatLaws.{rank_in, rank_out, triples-length}
use Rattle.records.proofs.listed.put_triples.Goals as goal

-- no more ranks than a set has bits
room : (n : ℕ) {count : ℕ} → n ≤ shots_most → count ≡ triple_count n → count ≤ word_bits * word_count
room n few e = omega (arith, e, triples_few n few)

-- the list w of n shots, into the run t
module _ (n : ℕ) (w t : List ℕ) {count : ℕ} (few : n ≤ shots_most) (e : count ≡ triple_count n) where
  abbrev bytes : ℕ → List ℕ
  bytes = rank_bytes n w

  -- a rank that is not in the list has no bytes
  skipped : (out : List ℕ) (at r : ℕ) → r < count → member w r ≡ false → Putting bytes count t 5 r out at → Putting bytes count t 5 (r + 1) out at
  unfolding wrote
  skipped out at r h m p =
      let q = rank_out n w r m in
      putting-turn bytes count t 5 r out at p h (sym (add-zero at) ∙ ap (λ k. at + k) (sym (ap length q)), ap (wrote out at) (sym q))

  first : {q : ℕ} → q ≡ first_from 0 (word_bits * word_count) (member w) → Found (member w) count (λ q. Putting bytes count t 5 q t 5) q
  first = found_on (member w) count _ (room n few e) (λ q. Putting bytes count t 5 q t 5) 0 (skipped t 5) (omega arith) (putting_none bytes count t 5)

  kept : (r at : ℕ) (out : List ℕ) → Putting bytes count t 5 r out at → length out ≡ length t
  kept r at out p = putting-length bytes count t 5 r out at p

  -- at a rank r of the list
  module _ (long : 5 + 3 * size_of n w ≤ length t) (r at : ℕ) (out : List ℕ) (v : Found (member w) count (λ q. Putting bytes count t 5 q out at) r) (h : r < count) where
    here : (member w r ≡ true) × Putting bytes count t 5 r out at
    here = v.0 h

    low : r < triple_count n
    low = omega (arith, e)

    -- its bytes are those of its triple
    its-bytes : bytes r ≡ triple_at n r
    its-bytes = rank_in n w r here.0

    three : length (bytes r) ≡ 3
    three = ap length its-bytes ∙ (triple_at_within n r low).1

    -- there is room for them
    fits : at + 3 ≤ length out
    unfolding triple_bytes
    fits = omega (arith, kept r at out here.1, here.1.0, pieces-length bytes count r h, three, ap (λ k. length (over bytes 0 k)) e, triples-length n w)

    -- they are put, and the next rank of the list
    turn : {out' : List ℕ} {q : ℕ} → out' ≡ wrote out at (triple_at n r) → q ≡ first_from (r + 1) (word_bits * word_count) (member w) → Found (member w) count (λ q. Putting bytes count t 5 q out' (at + 3)) q
    turn {out'} p =
        found_on (member w) count _ (room n few e) (λ q. Putting bytes count t 5 q out' (at + 3)) (r + 1) (skipped out' (at + 3)) (omega arith)
        (putting-turn bytes count t 5 r out at here.1 h (ap (λ k. at + k) (sym three), p ∙ ap (wrote out at) (sym its-bytes)))

pub loop-r-init : goal.loop-r-init
loop-r-init c = let a = c.args in first a.n (words_of a.list) a.out.now c.requires.0 c.count-count.ensures c.from-r.ensures

pub put_triple-requires : goal.put_triple-requires
put_triple-requires c =
    let a = c.args in
    let w = words_of a.list in (
      c.requires.0,
      low a.n w a.out.now c.requires.0 c.count-count.ensures c.requires.1 _ _ _ c.loop-r.invariant c.loop-r-test.true,
      fits a.n w a.out.now c.requires.0 c.count-count.ensures c.requires.1 _ _ _ c.loop-r.invariant c.loop-r-test.true,
    )

pub overflow_add-at : goal.overflow_add-at
overflow_add-at c =
    let a = c.args in
    let w = words_of a.list in
    omega (
      arith,
      fits a.n w a.out.now c.requires.0 c.count-count.ensures c.requires.1 _ _ _ c.loop-r.invariant c.loop-r-test.true,
      kept a.n w a.out.now c.requires.0 c.count-count.ensures _ _ _ (c.loop-r.invariant.0 c.loop-r-test.true).1,
    )

pub overflow_add-r : goal.overflow_add-r
overflow_add-r c = omega (arith, room c.args.n c.requires.0 c.count-count.ensures, c.loop-r-test.true)

pub loop-r-preserved : goal.loop-r-preserved
loop-r-preserved c =
    let a = c.args in
    turn a.n (words_of a.list) a.out.now c.requires.0 c.count-count.ensures c.requires.1 _ _ _ c.loop-r.invariant c.loop-r-test.true c.put_triple.ensures c.from-r-in-loop-r.ensures

pub loop-r-smaller : goal.loop-r-smaller
loop-r-smaller c = found_less _ _ _ (room c.args.n c.requires.0 c.count-count.ensures) _ c.loop-r-test.true c.from-r-in-loop-r.ensures

pub shape_of-out : goal.shape_of-out
shape_of-out c = let a = c.args in kept a.n (words_of a.list) a.out.now c.requires.0 c.count-count.ensures _ _ _ (c.loop-r.invariant.1 c.loop-r-test.false)

pub returns : goal.returns
unfolding triple_bytes
returns c =
    let a = c.args in
    rw (sym c.count-count.ensures)
    (putting_end (rank_bytes a.n (words_of a.list)) c.count-count.result a.out.now 5 c.count-count.result c.loop-r.out c.loop-r.at (c.loop-r.invariant.1 c.loop-r-test.false) (omega arith)).1
