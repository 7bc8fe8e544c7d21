-- The lines that `patchwalk` prints, as text: lists of character codes.
--
--   uses_of n w k         shot k is used: a triple of the list w has it
--   used_of n w           how many of n shots are used
--   triple_text s         a blank, and the shots of a triple as digits; `shots_text s`: the digits
--   triples_text n w      so for each triple of the list w, in the order of their ranks; `rank_text n w r`: for rank r
--   end_line              the end of a line
--   patch_line n c b a    the first line: shots, circuits, sides, double area
--   row_line n p w        a row's line: row, triples, shots used, triples
--   end_word d            `done` where the walk is complete, `full` where the table is, and a blank
--   last_line d rows k    the last line: how the walk ended, rows and steps
--   refused_line k        the one line of a refused patch
--
-- Source: document 01, "The square with its centre".
use Rattle.std.specs.Prelude.{Bool, cond, ◌&&◌, List, [], ◌∷◌, ◌++◌, ℕ, ◌+◌}
use Rattle.algebra.specs.Loops.{any, tally, over}
use Rattle.algebra.specs.Sets.{is_on}
use Rattle.algebra.specs.Words.{member}
use Rattle.algebra.specs.Writing.{ascii, decimal_of}
use Rattle.triples.specs.Ranks.{triple_count, triple_at}
use Rattle.triples.specs.Sets.{size_of}

-- ---- what a row's line tells of its list

unfoldable pub uses_of : ℕ → List ℕ → ℕ → Bool
uses_of n w k = any (triple_count n) (λ r. member w r && is_on k (triple_at n r))

unfoldable pub used_of : ℕ → List ℕ → ℕ
used_of n w = tally n (λ k. cond (uses_of n w k) 1 0)

-- shots are below 10, so each is one digit
unfoldable pub shots_text : List ℕ → List ℕ
shots_text [] = []
shots_text (i ∷ s) = (48 + i) ∷ shots_text s

unfoldable pub triple_text : List ℕ → List ℕ
triple_text s = ascii " " ++ shots_text s

-- the text of rank r: that of its triple where it is in the list
unfoldable pub rank_text : ℕ → List ℕ → ℕ → List ℕ
rank_text n w r = cond (member w r) (triple_text (triple_at n r)) []

unfoldable pub triples_text : ℕ → List ℕ → List ℕ
triples_text n w = over (rank_text n w) 0 (triple_count n)

-- ---- the lines

abbrev pub end_line : List ℕ
end_line = ascii "\n"

unfoldable pub patch_line : ℕ → ℕ → ℕ → ℕ → List ℕ
patch_line n c b a =
    ascii "patch " ++ (decimal_of n ++
    (ascii " circuits " ++ (decimal_of c ++
    (ascii " border " ++ (decimal_of b ++
    (ascii " area2 " ++ (decimal_of a ++ end_line)))))))

unfoldable pub row_line : ℕ → ℕ → List ℕ → List ℕ
row_line n p w = decimal_of p ++ (ascii " " ++ (decimal_of (size_of n w) ++ (ascii " " ++ (decimal_of (used_of n w) ++ (triples_text n w ++ end_line)))))

unfoldable pub end_word : Bool → List ℕ
end_word d = cond d (ascii "done ") (ascii "full ")

unfoldable pub last_line : Bool → ℕ → ℕ → List ℕ
last_line d rows k = end_word d ++ (decimal_of rows ++ (ascii " " ++ (decimal_of k ++ end_line)))

unfoldable pub refused_line : ℕ → List ℕ
refused_line k = ascii "refused " ++ (decimal_of k ++ end_line)
