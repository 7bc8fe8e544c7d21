-- What a reader makes of bytes: the rules that refuse them, in order, as tests that compute (specs/Lines has them as statements), and what they hold.
--
--   length_rule k b       5: fewer than k bytes, or the length field is not the number of bytes after it (`misfits`)
--   version_rule b        6: the version byte is not 1
--   patch_frame b         a patch record's 5 6 1 5
--   coordinate_at b i     the coordinate at place i of a patch record
--   coordinates_of b      its coordinates
--   patch_rules b         5 6 1 5 2 3 4
--   surface_frame n b     a surface record's 5 6 7 5
--   triple_in b j         triple j of a surface record
--   in_form n i j k       i < j < k are shots of n
--   least_at n b j        the least rank that triple j may have: one more than that of the triple before it
--   bad_at n b j          triple j is out of form, or does not come after the one before it; `triple_rule n b`, 7: some triple is
--   listed_in n b j       the set of the first j triples
--   listed_of n b         the list of a surface record
--   surface_rules l b     1 2 3 4, 5 6 7 5 7 10 8 9
--
-- Source: document 01, "Records", "Refusal numbers".
use Rattle.std.specs.Prelude.{Bool, not, ◌||◌, ◌&&◌, List, [], ◌∷◌, ◌++◌, ℕ, zero, suc, ◌+◌, ◌*◌, ltb, eqb, get_or, length, replicate, ℤ}
use Rattle.algebra.specs.Answer.{Rule}
use Rattle.algebra.specs.Loops.{any, fold, tabulate}
use Rattle.algebra.specs.Words.{put_in}
use Rattle.shots.specs.Sizes.{shots_least, shots_most}
use Rattle.shots.specs.Patch.{count_of}
use Rattle.shots.specs.Tests.{shot_rules, place_rules}
use Rattle.triples.specs.Sizes.{word_count}
use Rattle.triples.specs.Ranks.{rank_of}
use Rattle.lists.specs.Tests.{list_rules}
use Rattle.records.specs.Sizes.{version}
use Rattle.records.specs.Fields.{field_of, signed_of}

unfoldable pub misfits : ℕ → List ℕ → Bool
misfits k b = ltb (length b) k || not (eqb (field_of 2 b 0 + 2) (length b))

abbrev pub length_rule : ℕ → List ℕ → Rule
length_rule k b = record { number = 5; broken = misfits k b }

abbrev pub version_rule : List ℕ → Rule
version_rule b = record { number = 6; broken = not (eqb (get_or b 2 0) version) }

-- ---- a patch

abbrev pub patch_frame : List ℕ → List Rule
patch_frame b =
    length_rule 4 b
    ∷ version_rule b
    ∷ record { number = 1; broken = ltb (get_or b 3 0) shots_least || ltb shots_most (get_or b 3 0) }
    ∷ record { number = 5; broken = not (eqb (field_of 2 b 0) (2 + 8 * get_or b 3 0)) }
    ∷ []

unfoldable pub coordinate_at : List ℕ → ℕ → ℤ
coordinate_at b i = signed_of (field_of 4 b (4 + 4 * i))

unfoldable pub coordinates_of : List ℕ → List ℤ
coordinates_of b = tabulate (2 * get_or b 3 0) (coordinate_at b)

abbrev pub patch_rules : List ℕ → List Rule
patch_rules b = patch_frame b ++ place_rules (coordinates_of b)

-- ---- a surface

abbrev pub surface_frame : ℕ → List ℕ → List Rule
surface_frame n b =
    length_rule 5 b
    ∷ version_rule b
    ∷ record { number = 7; broken = not (eqb (get_or b 3 0) n) }
    ∷ record { number = 5; broken = not (eqb (field_of 2 b 0) (3 + 3 * get_or b 4 0)) }
    ∷ []

unfoldable pub triple_in : List ℕ → ℕ → List ℕ
triple_in b j = get_or b (5 + 3 * j) 0 ∷ get_or b (6 + 3 * j) 0 ∷ get_or b (7 + 3 * j) 0 ∷ []

-- i < j < k are shots of n
unfoldable pub in_form : ℕ → ℕ → ℕ → ℕ → Bool
in_form n i j k = ltb i j && (ltb j k && ltb k n)

-- the least rank that triple j may have: one more than that of the triple before it
unfoldable pub least_at : ℕ → List ℕ → ℕ → ℕ
least_at n b zero = 0
least_at n b (suc j) = rank_of n (triple_in b j) + 1

unfoldable pub bad_at : ℕ → List ℕ → ℕ → Bool
bad_at n b j = not (in_form n (get_or b (5 + 3 * j) 0) (get_or b (6 + 3 * j) 0) (get_or b (7 + 3 * j) 0)) || ltb (rank_of n (triple_in b j)) (least_at n b j)

abbrev pub triple_rule : ℕ → List ℕ → Rule
triple_rule n b = record { number = 7; broken = any (get_or b 4 0) (bad_at n b) }

unfoldable pub listed_in : ℕ → List ℕ → ℕ → List ℕ
listed_in n b j = fold (λ i w. put_in w (rank_of n (triple_in b i))) (replicate word_count 0) j

unfoldable pub listed_of : ℕ → List ℕ → List ℕ
listed_of n b = listed_in n b (get_or b 4 0)

abbrev pub surface_rules : List ℤ → List ℕ → List Rule
surface_rules l b = shot_rules l ++ (surface_frame (count_of l) b ++ triple_rule (count_of l) b ∷ list_rules l (listed_of (count_of l) b))
