-- `triples::pieces::fill` meets its contract: the front holds the pieces of the ranks so far that are in the list.
use mathlib.Core.Path.{◌≡◌, refl, ◌∙◌, ap}
use mathlib.Core.Bool.{true}
use mathlib.Core.List.{List, map}
use Prim.Native.Nat.{ℕ, ◌+◌, ◌*◌, ◌≤◌, ◌<◌}
use native.Mathlib.Omega.{arith}
use lib.ListN.{length, length-set}
use Rattle.algebra.specs.Loops.{picks, first_from}
use Rattle.algebra.specs.Words.{word_bits, member}
use Rattle.algebra.proofs.LoopLaws.{Found, found_on, found_less}
use Rattle.triples.specs.Pieces.{piece_of, pieces_in}
use Rattle.triples.proofs.PieceLaws.{Front, front_none, front_on, front_more}
use Rattle.triples.proofs.pieces.fill.Lts
use Rattle.triples.proofs.pieces.fill.Reads
use Rattle.triples.proofs.pieces.fill.Tie
use Rattle.triples.proofs.pieces.fill.Goals as goal

abbrev After-piece_count-count : Type 0
After-piece_count-count = Lts.After-piece_count Tie.the-claims Reads.Pre Reads.Post goal.the-invariant-loop-r goal.the-decreases-loop-r

abbrev Start : Type 0
Start = Lts.Start Tie.the-claims Reads.Pre Reads.Post goal.the-invariant-loop-r goal.the-decreases-loop-r

abbrev In-loop-r : Type 0
In-loop-r = Lts.In-loop Tie.the-claims Reads.Pre Reads.Post goal.the-invariant-loop-r goal.the-decreases-loop-r

-- the next rank of the list, from a on
module _ (d : After-piece_count-count) where
  abbrev start : Start
  start = d.before.before.before.before

  abbrev list : List ℕ
  list = start.args.list.now

  held : d.piece_count-count.result ≤ word_bits * length list
  held = omega (arith, d.piece_count-count.ensures, start.requires.3)

  next : (out : List ℕ) (t a : ℕ) {r : ℕ} → a ≤ d.piece_count-count.result → Front start.args.size start.args.n list out t a → r ≡ first_from a (word_bits * length list) (member list)
      → Found (member list) d.piece_count-count.result (Front start.args.size start.args.n list out t) r
  next out t a =
      found_on (member list) d.piece_count-count.result (word_bits * length list) held (Front start.args.size start.args.n list out t) a
      (λ j l m p. front_on start.args.size start.args.n list out t j m p)

pub loop-r-init : goal.loop-r-init
loop-r-init c = (refl, next c.before.before _ 0 0 (omega arith) (front_none _ _ _ _) c.from-r.ensures)

-- at a rank of the list
module _ (c : In-loop-r) where
  abbrev counted : After-piece_count-count
  counted = c.before.before.before

  here : let v = c.loop-r in let s = start counted in (member (list counted) v.r ≡ true) × Front s.args.size s.args.n (list counted) v.out v.t v.r
  here = c.loop-r.invariant.1.0 c.loop-r-test.true

  -- there is room
  room : c.loop-r.t < length c.loop-r.out
  room = let v = c.loop-r in omega (arith, here.1.few, c.loop-r-test.true, v.invariant.0, counted.piece_count-count.ensures, (start counted).requires.4)

  inside : c.loop-r.r < length (start counted).args.all.now
  inside = omega (arith, c.loop-r-test.true, counted.piece_count-count.ensures, (start counted).requires.1)

pub loop-r-preserved : goal.loop-r-preserved
loop-r-preserved c =
    let v = c.loop-r in
    let d = counted c.before.before.before in
    let s = start d in
    let x = s.requires.2 v.r (omega (arith, c.loop-r-test.true, d.piece_count-count.ensures)) in (
      length-set v.out _ _ ∙ v.invariant.0,
      next d _ (v.t + 1) (v.r + 1) (omega (arith, c.loop-r-test.true))
          (front_more s.args.size s.args.n (list d) v.out v.t v.r (room c.before.before.before) (here c.before.before.before).0 (here c.before.before.before).1 x) c.from-r-in-loop-r.ensures,
    )

pub returns : goal.returns
unfolding pieces_in
returns c =
    let s = start c.before.before.before.before in
    let f = c.loop-r.invariant.1.1 c.loop-r-test.false in
    (c.loop-r.invariant.0, omega (arith, f.few, c.piece_count-count.ensures), f.front ∙ ap (λ (k : ℕ). map (piece_of s.args.size s.args.n) (picks k (member (list c.before.before.before.before)))) c.piece_count-count.ensures)

pub bounds-all-r : goal.bounds-all-r
bounds-all-r c = inside c.before.before

pub offset_bounds-out-t : goal.offset_bounds-out-t
offset_bounds-out-t c = omega (arith, room c.before.before, c.loop-r.invariant.0)

pub bounds-out-t : goal.bounds-out-t
bounds-out-t c = room c.before.before

pub overflow_add-t : goal.overflow_add-t
overflow_add-t c = omega (arith, room c.before.before, c.loop-r.invariant.0)

pub overflow_add-r : goal.overflow_add-r
overflow_add-r c = omega (arith, c.loop-r-test.true)

pub loop-r-smaller : goal.loop-r-smaller
loop-r-smaller c = found_less _ _ _ (held (counted c.before.before.before)) _ c.loop-r-test.true c.from-r-in-loop-r.ensures

pub shape_of-out : goal.shape_of-out
shape_of-out c = c.loop-r.invariant.0
