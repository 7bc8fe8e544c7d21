-- The proved cases of document 01, "The square with its centre", with its orientations as the numbers that document 02, E6, asks for, E1's patch, and outlines as E5 asks for them, as one table: a patch, what is asked of it,
-- and the answer; of document 01's run cases those of the walk.
--
--   Question      a call and its numbers; or the double areas of a list, summed
--   Told         an answer: a value or the number that refuses; or a sum
--   reply_to l q   what the call answers, by the definition that its contract cites; or the sum, by that which the report cites
--   Case, table   the cases
--   triples ts    the words of a list of triples
--   walk_from l w t b   a start from the list w over the table t, and then a run of b steps
--   square        shots 0 (0,0), 1 (2,0), 2 (2,2), 3 (0,2), 4 (1,1)
--   triangle      shots 0 (0,0), 1 (1,0), 2 (0,1)
--   fence         shots 0 (0,0), 1 (2,0), 2 (2,2), 3 (0,2), 4 (1,0): E1
--
-- Theorem: proofs/Cases (`cases_right`).
use Rattle.std.specs.Prelude.{List, [], ◌∷◌, ◌++◌, ℕ, replicate, ℤ, pos, negsuc}
use Rattle.algebra.specs.Answer.{Answer, gives, refuses}
use Rattle.algebra.specs.Words.{put_in}
use Rattle.reach.specs.Walks.{Reply, made, done, Landing, run_of, start_of}
use Rattle.shots.specs.Calls.{Cocircuit, orientation_of, cocircuit_of, border_call_of}
use Rattle.outline.specs.declared.Lengths.{Lengths}
use Rattle.outline.specs.Calls.{Outlining, chains_of}
use Rattle.circuits.specs.declared.Sides.{Sides}
use Rattle.circuits.specs.Sides.{masks}
use Rattle.circuits.specs.Calls.{count_call_of, circuit_call_of}
use Rattle.triples.specs.Sizes.{word_count}
use Rattle.triples.specs.Ranks.{rank_of}
use Rattle.lists.specs.Calls.{test_of}
use Rattle.surfaces.specs.Areas.{area_sum_of}
use Rattle.surfaces.specs.Calls.{placing_of, flip_of}
use Rattle.walks.specs.Calls.{ground_of}

pub data Question : Type 0 where
  orientation : ℕ → ℕ → ℕ → Question
  cocircuit : ℕ → ℕ → Question
  border : Question
  chains : List ℕ → List ℕ → Question
  circuits : Question
  circuit : ℕ → Question
  test : List ℕ → Question
  areas : List ℕ → Question
  placing : Question
  flip : List ℕ → ℕ → Question
  walk : List ℕ → List ℕ → ℕ → Question

pub data Told : Type 0 where
  area : Answer ℤ → Told
  signs : Cocircuit → Told
  count : Answer ℕ → Told
  outlined : Outlining → Told
  sides : Answer Sides → Told
  tested : Answer (Unit {0}) → Told
  sum : ℕ → Told
  surface : Answer (List ℕ) → Told
  walked : Landing Reply → Told

abbrev pub walk_from : List ℤ → List ℕ → List ℕ → ℕ → Landing Reply
walk_from l w t b = let x = start_of (ground_of l) t (record { rows = 0; step = 0 }) w in run_of (ground_of l) x.table x.walk b

abbrev pub reply_to : List ℤ → Question → Told
reply_to l (orientation a b c) = area (orientation_of l a b c)
reply_to l (cocircuit i j) = signs (cocircuit_of l i j)
reply_to l border = count (border_call_of l)
reply_to l (chains s t) = outlined (chains_of l s t)
reply_to l circuits = count (count_call_of l)
reply_to l (circuit z) = sides (circuit_call_of l z)
reply_to l (test w) = tested (test_of l w)
reply_to l (areas w) = sum (area_sum_of l w)
reply_to l placing = surface (placing_of l)
reply_to l (flip w z) = surface (flip_of l w z)
reply_to l (walk w t b) = walked (walk_from l w t b)

pub record Case : Type 0 where
  pub patch : List ℤ
  pub asked : Question
  pub stated : Told

abbrev pub square : List ℤ
square = pos 0 ∷ pos 0 ∷ pos 2 ∷ pos 0 ∷ pos 2 ∷ pos 2 ∷ pos 0 ∷ pos 2 ∷ pos 1 ∷ pos 1 ∷ []

abbrev pub triangle : List ℤ
triangle = pos 0 ∷ pos 0 ∷ pos 1 ∷ pos 0 ∷ pos 0 ∷ pos 1 ∷ []

abbrev pub fence : List ℤ
fence = pos 0 ∷ pos 0 ∷ pos 2 ∷ pos 0 ∷ pos 2 ∷ pos 2 ∷ pos 0 ∷ pos 2 ∷ pos 1 ∷ pos 0 ∷ []

-- ---- document 01's words

-- the signs of the five shots, and 0 past them
abbrev five : ℤ → ℤ → ℤ → ℤ → ℤ → Told
five a b c d e = signs (record { answer = gives tt; signs = a ∷ b ∷ c ∷ d ∷ e ∷ pos 0 ∷ pos 0 ∷ pos 0 ∷ pos 0 ∷ pos 0 ∷ [] })

abbrev ◌against◌ : List ℕ → List ℕ → Told
◌against◌ p m = sides (gives (masks (record { plus = p; minus = m })))

-- a list of triples of the five shots, as its words
abbrev pub triples : List (List ℕ) → List ℕ
triples [] = replicate word_count 0
triples (t ∷ ts) = put_in (triples ts) (rank_of 5 t)

abbrev tri : ℕ → ℕ → ℕ → List ℕ
tri i j k = i ∷ j ∷ k ∷ []

abbrev accepted : Told
accepted = tested (gives tt)

abbrev refused : ℕ → Told
refused n = tested (refuses n)

-- the two halves of the square on one diagonal, and on the other
abbrev halves : List ℕ
halves = triples (tri 0 1 2 ∷ tri 0 2 3 ∷ [])

abbrev others : List ℕ
others = triples (tri 0 1 3 ∷ tri 1 2 3 ∷ [])

-- one half, and the other with an edge split at the centre
abbrev half_cut : List ℕ
half_cut = triples (tri 0 1 2 ∷ tri 0 3 4 ∷ tri 2 3 4 ∷ [])

-- the four triangles around the centre
abbrev around : List ℕ
around = triples (tri 0 1 4 ∷ tri 0 3 4 ∷ tri 1 2 4 ∷ tri 2 3 4 ∷ [])

-- the one triangle of three shots: rank 0
abbrev only : List ℕ
only = 1 ∷ 0 ∷ []

-- a table of n words, a buffer of n bytes, that were used for something else
abbrev used : ℕ → List ℕ
used n = replicate n 7

-- a walk's answer, its rows, its step number and the whole table
abbrev left : Answer Reply → ℕ → ℕ → List ℕ → Told
left a n s t = walked (record { answer = a; walk = record { rows = n; step = s }; table = t })

-- the two lengths, and both buffers
abbrev along : Answer Lengths → List ℕ → List ℕ → Told
along a s t = outlined (record { answer = a; south = s; north = t })

abbrev of-square : Question → Told → Case
of-square q r = record { patch = square; asked = q; stated = r }

abbrev pub table : List Case
table =
    of-square (orientation 0 1 2) (area (gives (pos 4)))
    ∷ of-square (orientation 0 2 1) (area (gives (negsuc 3)))
    ∷ of-square (orientation 0 2 4) (area (gives (pos 0)))
    ∷ of-square (cocircuit 0 2) (five (pos 0) (negsuc 0) (pos 0) (pos 1) (pos 0))
    ∷ of-square border (count (gives 4))
    ∷ record { patch = fence; asked = border; stated = count (gives 4) }
    ∷ of-square (chains (used 4) (used 3)) (along (gives (record { south = 3; north = 3 })) (0 ∷ 1 ∷ 2 ∷ 7 ∷ []) (0 ∷ 3 ∷ 2 ∷ []))
    ∷ of-square (chains (used 3) (used 2)) (along (refuses 11) (used 3) (used 2))
    ∷ record { patch = fence; asked = chains (used 3) (used 3); stated = along (gives (record { south = 3; north = 3 })) (0 ∷ 1 ∷ 2 ∷ []) (0 ∷ 3 ∷ 2 ∷ []) }
    ∷ record { patch = triangle; asked = chains (used 3) (used 3); stated = along (gives (record { south = 2; north = 3 })) (0 ∷ 1 ∷ 7 ∷ []) (0 ∷ 2 ∷ 1 ∷ []) }
    ∷ of-square circuits (count (gives 3))
    ∷ of-square (circuit 0) (◌against◌ (0 ∷ 2 ∷ []) (4 ∷ []))
    ∷ of-square (circuit 1) (◌against◌ (1 ∷ 3 ∷ []) (4 ∷ []))
    ∷ of-square (circuit 2) (◌against◌ (0 ∷ 2 ∷ []) (1 ∷ 3 ∷ []))
    ∷ of-square (test halves) accepted
    ∷ of-square (areas halves) (sum 8)
    ∷ of-square (test (triples (tri 0 1 2 ∷ []))) (refused 9)
    ∷ of-square (test (triples (tri 0 1 2 ∷ tri 0 2 3 ∷ tri 0 1 3 ∷ []))) (refused 8)
    ∷ of-square (test half_cut) (refused 8)
    ∷ of-square (areas half_cut) (sum 8)
    ∷ of-square (test (triples [])) (refused 10)
    ∷ of-square (test (triples (tri 0 2 4 ∷ []))) (refused 7)
    ∷ of-square (flip halves 2) (surface (gives others))
    ∷ of-square (flip halves 1) (surface (refuses 13))
    ∷ of-square (flip halves 3) (surface (refuses 12))
    ∷ of-square placing (surface (gives halves))
    ∷ record { patch = triangle; asked = walk only (used 2) 1; stated = left (gives done) 1 0 only }
    ∷ of-square (walk halves (used 6) 9) (left (gives made) 3 9 (halves ++ (around ++ others)))
    ∷ of-square (walk halves (used 6) 10) (left (gives done) 3 9 (halves ++ (around ++ others)))
    ∷ of-square (walk halves (used 4) 9) (left (refuses 11) 2 2 (halves ++ around))
    ∷ of-square (walk halves (used 5) 9) (left (refuses 11) 2 2 (halves ++ (around ++ 7 ∷ [])))
    ∷ []
