-- The parts of records: how long they are, how a record begins, what a frame says where no rule of it is broken, and when a triple is refused.
--
--   coordinate-length, coordinates_sized    a coordinate has four bytes, and so has each of a run of them
--   patch-length         the bytes of a patch
--   rank_in, rank_out    a rank has the bytes of its triple where it is in the list, and none where it is not
--   ranks-length, triples-length            three bytes for each triple of the list, of the ranks below one and of all
--   size_few             a list has no more triples than the largest patch
--   surface-length       the bytes of a list
--   headed k n s         the bytes of a record: the length field k, the version, the shots n, and s behind them
--   Head k n s b         b is read so
--   head_written, head_again     what is written so is read so, and what is read so is written so again
--   head_set u n          the run u with the version and the shots n put in
--   head-put, head_kept  so the head is written, and the length stays
--   field_behind         a field behind a first part of a record
--   same_test, test_same         the test of two numbers that are to be the same
--   framed               the test of the length field
--   frame_long           what passes it has as many bytes as it asks
--   patch_numbered, surface_numbered        no rule of a frame has the number 0
--   patch_framed, surface_framed            what the frames say where they are not refused
--   coordinates-length   how many coordinates a patch record has
--   coordinates_kept     they are a patch where no rule of the record is broken
--   in-form, within_decided, bad_decided    the tests of a triple
use mathlib.Core.Path.{◌≡◌, refl, sym, ◌∙◌, ap}
use mathlib.Core.Logic.{◌⊎◌, ◌↔◌}
use mathlib.Core.Bool.{Bool, true, false, cond, not}
use mathlib.Core.List.{List, [], ◌∷◌, ◌++◌}
use Prim.Native.Nat.{ℕ, zero, suc, ◌+◌, ◌*◌, ◌^◌, ◌≤◌, ◌<◌}
use native.Mathlib.Omega.{arith}
use borrow.Author.Tests.{le-ltb, ltb-false, eqb-true, eq-eqb, not-false}
use lib.Dec.{ltb, eqb}
use lib.ListN.{get_or, length, drop, set, length-append, length-set}
use lib.Seq.{get_or-drop}
use lib.IntN.{ℤ, pos}
use Rattle.algebra.specs.Answer.{gives, chain, Numbered, Reflects}
use Rattle.algebra.specs.Loops.{tally, over}
use Rattle.algebra.specs.Sets.{Within}
use Rattle.algebra.specs.Words.{member}
use Rattle.algebra.specs.Writing.{wrote}
use Rattle.algebra.proofs.AnswerLaws.{Unbroken, gives_unbroken, reflects_iff, reflects-not, reflects-or, reflects-and, reflects_ltb}
use Rattle.algebra.proofs.LoopLaws.{or_parts, tally_below, length-tabulate}
use Rattle.algebra.proofs.OverLaws.{over_sized}
use Rattle.algebra.proofs.WritingLaws.{wrote-append}
use Rattle.shots.specs.Sizes.{shots_least, shots_most}
use Rattle.shots.specs.Patch.{count_of}
use Rattle.shots.specs.Tests.{shot_rules}
use Rattle.shots.proofs.Decided.{count_test}
use Rattle.triples.specs.Sizes.{triples_most}
use Rattle.triples.specs.Ranks.{triple_count, triple_at, rank_of}
use Rattle.triples.specs.Sets.{size_of}
use Rattle.triples.proofs.RankLaws.{triple_at_within, triples_few}
use Rattle.records.specs.Sizes.{version}
use Rattle.records.specs.Fields.{Bytes, bytes_of, field_of, code_of}
use Rattle.records.specs.Formats.{coordinate_bytes, patch_bytes, rank_bytes, triple_bytes, surface_bytes}
use Rattle.records.specs.Reading.{misfits, length_rule, patch_frame, coordinate_at, coordinates_of, patch_rules, surface_frame, triple_in, in_form, least_at, bad_at}
use Rattle.records.specs.Lines.{Framed}
use Rattle.records.proofs.FieldLaws.{bytes-length, field_bytes, bytes_field}

-- ---- lengths

pub coordinate-length : (l : List ℤ) (i : ℕ) → length (coordinate_bytes l i) ≡ 4
unfolding coordinate_bytes
coordinate-length l i = bytes-length 4 (code_of (get_or l i (pos 0)))

pub coordinates_sized : (l : List ℤ) (n : ℕ) → length (over (coordinate_bytes l) 0 n) ≡ 4 * n
coordinates_sized l n = over_sized (coordinate_bytes l) (λ i. 4 * i) n (omega arith) (λ i k. omega (arith, coordinate-length l i))

pub patch-length : (l : List ℤ) → length l ≡ 2 * count_of l → length (patch_bytes l) ≡ 4 + 8 * count_of l
unfolding patch_bytes
patch-length l h =
    omega (
      arith,
      length-append (bytes_of 2 (2 + 8 * count_of l)) (version ∷ count_of l ∷ over (coordinate_bytes l) 0 (length l)),
      bytes-length 2 (2 + 8 * count_of l),
      coordinates_sized l (length l),
      h,
    )

module _ (n : ℕ) (w : List ℕ) where
  pub rank_in : (r : ℕ) → member w r ≡ true → rank_bytes n w r ≡ triple_at n r
  unfolding rank_bytes
  rank_in r e = rw e

  pub rank_out : (r : ℕ) → member w r ≡ false → rank_bytes n w r ≡ []
  unfolding rank_bytes
  rank_out r e = rw e

  rank-length : (r : ℕ) → r < triple_count n → length (rank_bytes n w r) ≡ 3 * cond (member w r) 1 0
  unfolding rank_bytes
  rank-length r h = go (member w r)
    where
      go : (b : Bool) → length (cond b (triple_at n r) []) ≡ 3 * cond b 1 0
      go true = (triple_at_within n r h).1
      go false = refl

  pub ranks-length : (m : ℕ) → m ≤ triple_count n → length (over (rank_bytes n w) 0 m) ≡ 3 * tally m (λ r. cond (member w r) 1 0)
  unfolding tally
  ranks-length m h = over_sized (rank_bytes n w) (λ k. 3 * tally k (λ r. cond (member w r) 1 0)) m (omega arith) (λ r l. omega (arith, rank-length r (omega arith)))

  pub triples-length : length (triple_bytes n w) ≡ 3 * size_of n w
  unfolding triple_bytes size_of
  triples-length = ranks-length (triple_count n) (omega arith)

  pub size_few : n ≤ shots_most → size_of n w ≤ triples_most
  unfolding size_of
  size_few h = omega (arith, tally_below (λ r. cond (member w r) 1 0) (triple_count n) 1 (λ r l. one (member w r)), triples_few n h)
    where
      one : (b : Bool) → cond b 1 0 ≤ 1
      one true = omega arith
      one false = omega arith

  pub surface-length : length (surface_bytes n w) ≡ 5 + 3 * size_of n w
  unfolding surface_bytes
  surface-length =
      omega (
        arith,
        length-append (bytes_of 2 (3 + 3 * size_of n w)) (version ∷ n ∷ size_of n w ∷ triple_bytes n w),
        bytes-length 2 (3 + 3 * size_of n w),
        triples-length,
      )

-- ---- the head of a record

abbrev pub headed : ℕ → ℕ → List ℕ → List ℕ
headed k n s = bytes_of 2 k ++ (version ∷ n ∷ s)

pub record Head (k n : ℕ) (s b : List ℕ) : Type 0 where
  pub field : field_of 2 b 0 ≡ k
  pub mark : get_or b 2 0 ≡ version
  pub shots : get_or b 3 0 ≡ n
  pub rest : drop 4 b ≡ s
  pub long : length b ≡ 4 + length s

pub head_written : (k n : ℕ) (s : List ℕ) → k < 256 ^ 2 → Head k n s (headed k n s)
unfolding bytes_of
head_written k n s h = record { field = field_bytes 2 k [] (version ∷ n ∷ s) h; mark = refl; shots = refl; rest = refl; long = omega arith }

pub head_again : (k n : ℕ) (s b : List ℕ) → Bytes b → Head k n s b → headed k n s ≡ b
head_again k n s [] v h = absurd (let l = h.long in omega arith)
head_again k n s (x ∷ []) v h = absurd (let l = h.long in omega arith)
head_again k n s (x ∷ y ∷ []) v h = absurd (let l = h.long in omega arith)
head_again k n s (x ∷ y ∷ z ∷ []) v h = absurd (let l = h.long in omega arith)
head_again k n s (x ∷ y ∷ z ∷ u ∷ b) v h =
    λ i. ((ap (bytes_of 2) (sym h.field) ∙ bytes_field 2 (x ∷ y ∷ z ∷ u ∷ b) 0 v (omega arith)) i) ++ (sym h.mark i ∷ sym h.shots i ∷ sym h.rest i)

abbrev pub head_set : List ℕ → ℕ → List ℕ
head_set u n = set (set u 2 version) 3 n

pub head-put : (u : List ℕ) (k n : ℕ) (s : List ℕ) → wrote (head_set (wrote u 0 (bytes_of 2 k)) n) 4 s ≡ wrote u 0 (headed k n s)
unfolding wrote bytes_of
head-put u k n s = sym (wrote-append u 0 (bytes_of 2 k) (version ∷ n ∷ s))

pub head_kept : (u : List ℕ) (n : ℕ) → length (head_set u n) ≡ length u
head_kept u n = length-set (set u 2 version) 3 n ∙ length-set u 2 version

pub field_behind : (k a : ℕ) (b : List ℕ) (at : ℕ) → field_of k b (a + at) ≡ field_of k (drop a b) at
unfolding field_of
field_behind zero a b at = refl
field_behind (suc k) a b at =
    λ i. 256 * field_behind k a b at i + (ap (λ (m : ℕ). get_or b m 0) (let e : a + at + k ≡ a + (at + k) = omega arith in e) ∙ sym (get_or-drop a b (at + k) 0)) i

-- ---- frames

pub same_test : (x y : ℕ) → x ≡ y → not (eqb x y) ≡ false
same_test x y e = ap not (eq-eqb x y e)

pub test_same : (x y : ℕ) → not (eqb x y) ≡ false → x ≡ y
test_same x y e = eqb-true x y (not-false (eqb x y) e)

pub framed : (k : ℕ) (b : List ℕ) → (misfits k b ≡ false) ↔ Framed k b
unfolding misfits
framed k b = (
  λ e. let p = or_parts (ltb (length b) k) (not (eqb (field_of 2 b 0 + 2) (length b))) e in (ltb-false (length b) k p.0, test_same (field_of 2 b 0 + 2) (length b) p.1),
  λ (h, e). rw (le-ltb (length b) k h) (same_test (field_of 2 b 0 + 2) (length b) e),
)

pub frame_long : (k : ℕ) (b : List ℕ) → gives tt ≡ chain {A = Unit {0}} (length_rule k b ∷ []) tt → k ≤ length b
frame_long k b e = ((framed k b).0 (gives_unbroken (length_rule k b ∷ []) tt tt (sym e)).0.0).0

pub patch_numbered : (b : List ℕ) → Numbered (patch_frame b)
patch_numbered b = (omega arith, (omega arith, (omega arith, (omega arith, tt))))

pub surface_numbered : (n : ℕ) (b : List ℕ) → Numbered (surface_frame n b)
surface_numbered n b = (omega arith, (omega arith, (omega arith, (omega arith, tt))))

pub patch_framed : (b : List ℕ) → Unbroken (patch_frame b) → let n = get_or b 3 0 in (shots_least ≤ n) × (n ≤ shots_most) × (4 + 8 * n ≡ length b)
patch_framed b (p, (_, (q, (r, _)))) =
    let n = get_or b 3 0 in
    let t = or_parts (ltb n shots_least) (ltb shots_most n) q in
    (ltb-false n shots_least t.0, ltb-false shots_most n t.1, omega (arith, ((framed 4 b).0 p).1, test_same (field_of 2 b 0) (2 + 8 * n) r))

pub surface_framed : (n : ℕ) (b : List ℕ) → Unbroken (surface_frame n b) → 5 + 3 * get_or b 4 0 ≡ length b
surface_framed n b (p, (_, (_, (r, _)))) = omega (arith, ((framed 5 b).0 p).1, test_same (field_of 2 b 0) (3 + 3 * get_or b 4 0) r)

-- ---- coordinates

pub coordinates-length : (b : List ℕ) → length (coordinates_of b) ≡ 2 * get_or b 3 0
unfolding coordinates_of
coordinates-length b = length-tabulate (coordinate_at b) (2 * get_or b 3 0)

pub coordinates_kept : (b : List ℕ) → Unbroken (patch_rules b) → Unbroken (shot_rules (coordinates_of b))
coordinates_kept b (_, (_, (q, (_, u)))) = (count_test (coordinates_of b) (get_or b 3 0) (coordinates-length b) ∙ q, u)

-- ---- triples

pub in-form : (n i j k : ℕ) → Reflects (Within 0 (i ∷ j ∷ k ∷ []) n) (in_form n i j k)
unfolding in_form
in-form n i j k = reflects_iff (into, out) (reflects-and (reflects_ltb i j) (reflects-and (reflects_ltb j k) (reflects_ltb k n)))
  where
    into : (i < j) × ((j < k) × (k < n)) → Within 0 (i ∷ j ∷ k ∷ []) n
    into (p, (q, r)) = (omega arith, omega arith, (omega arith, omega arith, (omega arith, omega arith, tt)))

    out : Within 0 (i ∷ j ∷ k ∷ []) n → (i < j) × ((j < k) × (k < n))
    out (_, _, (p, _, (q, r, _))) = (omega arith, (omega arith, omega arith))

module _ (n : ℕ) (b : List ℕ) (j : ℕ) where
  pub within_decided : Reflects (Within 0 (triple_in b j) n) (in_form n (get_or b (5 + 3 * j) 0) (get_or b (6 + 3 * j) 0) (get_or b (7 + 3 * j) 0))
  unfolding triple_in
  within_decided = in-form n (get_or b (5 + 3 * j) 0) (get_or b (6 + 3 * j) 0) (get_or b (7 + 3 * j) 0)

  pub bad_decided : Reflects ((Within 0 (triple_in b j) n → ⊥) ⊎ (rank_of n (triple_in b j) < least_at n b j)) (bad_at n b j)
  unfolding bad_at
  bad_decided = reflects-or (reflects-not within_decided) (reflects_ltb (rank_of n (triple_in b j)) (least_at n b j))
