-- `text::lines::triples_of` meets its contract: each turn puts the text of one rank, which is at most four characters.
use Rattle.std.proofs.Common.{◌≡◌, sym, List, ◌++◌, ℕ, ◌+◌, ◌≤◌, true, false, length, arith, append-nil}
use Rattle.algebra.specs.Words.{member}
use Rattle.algebra.proofs.LoopLaws.{found_on, found_less}
use Rattle.triples.specs.Sizes.{triples_most}
use Rattle.triples.specs.Ranks.{triple_count, triple_at}
use Rattle.triples.specs.Sets.{words_of}
use Rattle.shots.specs.Sizes.{shots_most}
use Rattle.triples.proofs.RankLaws.{triples_few}
use Rattle.text.specs.Lines.{triple_text, rank_text}
use Rattle.text.proofs.PartLaws.{behind_none, behind_next}
use Rattle.text.proofs.lines.triples_of.Invariants.{Lined}
use Rattle.text.proofs.lines.triples_of.Goals as goal

module _ (n : ℕ) (w : List ℕ) (t : List ℕ) (r : ℕ) {out : List ℕ} where
  -- a rank that is not in the list has no text
  lined_on : member w r ≡ false → Lined n w t out r → Lined n w t out (r + 1)
  unfolding rank_text
  lined_on m p = (omega (arith, p.0), behind_next (rank_text n w) t 0 r (omega arith) p.1 (rw m (sym (append-nil out))))

  lined_in : {u : List ℕ} → member w r ≡ true → Lined n w t out r → u ≡ out ++ triple_text (triple_at n r) → length u ≡ length out + 4 → Lined n w t u (r + 1)
  unfolding rank_text
  lined_in m p e l = (omega (arith, p.0, l), behind_next (rank_text n w) t 0 r (omega arith) p.1 (rw m e))

room : {n count : ℕ} → n ≤ shots_most → count ≡ triple_count n → count ≤ triples_most
room {n} h e = omega (arith, e, triples_few n h)

pub loop-r-init : goal.loop-r-init
loop-r-init g c =
    let n = c.args.n in
    let w = words_of c.args.list in
    let t = c.args.out.now.bytes in
    found_on (member w) c.count-count.result _ (omega (arith, room c.requires.0 c.count-count.ensures)) (Lined n w t t) 0 (λ r _. lined_on n w t r) (omega arith)
    (omega arith, behind_none (rank_text n w) t 0) c.from-r.ensures

-- its text, and the next rank of the list
pub loop-r-preserved : goal.loop-r-preserved
loop-r-preserved g c =
    let n = c.args.n in
    let w = words_of c.args.list in
    let t = c.args.out.now.bytes in
    let h = c.loop-r-test.true in
    let p = c.loop-r.invariant.0 h in
    found_on (member w) c.count-count.result _ (omega (arith, room c.requires.0 c.count-count.ensures)) (Lined n w t c.triple.new.out.bytes) (c.loop-r.r + 1) (λ r _. lined_on n w t r) (omega (arith, h))
    (lined_in n w t c.loop-r.r p.0 p.1 c.triple.ensures.text c.triple.ensures.len) c.from-r-in-loop-r.ensures

pub loop-r-smaller : goal.loop-r-smaller
loop-r-smaller g c = found_less _ _ _ (omega (arith, room c.requires.0 c.count-count.ensures)) _ c.loop-r-test.true c.from-r-in-loop-r.ensures
