-- The sets of triples that are worked out once a call, by what they hold, and the table that they stand in; src/lib.rt has the first row of each part as a constant.
--
--   solid_of l           the triples that are not flat
--   inner_of l i j       the triples that hold i and j; none where they are a border pair
--   plus_row z, minus_row z    the rows of the sides of circuit z
--   inner_first, inner_from j, inner_row i j    the first row of all pairs, of those with j as the larger shot, of the pair i < j
--   solid_row, held_rows  the row of the triples that are not flat; the number of rows
--   Inner l t           the row of each pair holds its inner triples; InnerBelow l n t: for the pairs below n
--   AroundPlus l t, AroundMinus l t    the rows of circuit z hold the triples around its plus side, around its minus side
--   Prepared l t        all of it: with the holders of shot k at row k, and the triples that are not flat
--   sides_at zs z       the sides of number z
--   Around n zs k t     the rows of the first k of the sides zs hold the triples around them
--   HeldOf l h          what is worked out of the patch l: the masks of the sides of all its circuits, and its table
--
-- That tests by these sets are those of document 01: proofs/ByWords.
use Rattle.std.specs.Prelude.{◌≡◌, ℕ, ◌+◌, ◌*◌, ◌<◌, not, ◌&&◌, List, length, map, ℤ, slice_index_or}
use Rattle.algebra.specs.Sets.{is_on}
use Rattle.algebra.specs.Words.{sift, row_of}
use Rattle.shots.specs.Sizes.{shots_most}
use Rattle.shots.specs.Patch.{count_of, border_of}
use Rattle.circuits.specs.Sizes.{circuits_most}
use Rattle.circuits.specs.declared.Sides.{Sides}
use Rattle.circuits.specs.Sides.{masks}
use Rattle.circuits.specs.Numbering.{circuits_of}
use Rattle.circuits.specs.Calls.{circuit_at}
use Rattle.triples.specs.Sizes.{word_count}
use Rattle.triples.specs.Ranks.{triple_at}
use Rattle.triples.specs.Sets.{full_of, around_of, Holding}
use Rattle.lists.specs.declared.kernel.Held.{Held}
use Rattle.lists.specs.Tests.{is_flat}

unfoldable pub solid_of : List ℤ → List ℕ
solid_of l = sift word_count (λ r. not (is_flat l (triple_at (count_of l) r)))

unfoldable pub inner_of : List ℤ → ℕ → ℕ → List ℕ
inner_of l i j = sift word_count (λ r. not (border_of l i j) && (is_on i (triple_at (count_of l) r) && is_on j (triple_at (count_of l) r)))

-- ---- the table

abbrev pub plus_row : ℕ → ℕ
plus_row z = shots_most + z

abbrev pub minus_row : ℕ → ℕ
minus_row z = shots_most + circuits_most + z

abbrev pub inner_first : ℕ
inner_first = shots_most + circuits_most + circuits_most

abbrev pub inner_from : ℕ → ℕ
inner_from j = inner_first + shots_most * j

abbrev pub inner_row : ℕ → ℕ → ℕ
inner_row i j = inner_from j + i

abbrev pub solid_row : ℕ
solid_row = inner_first + shots_most * shots_most

abbrev pub held_rows : ℕ
held_rows = solid_row + 1

abbrev pub sides_at : List Sides → ℕ → Sides
sides_at zs z = slice_index_or zs z (record { plus = 0; minus = 0 })

abbrev pub AroundPlus : List ℤ → List ℕ → Type 0
AroundPlus l t = (z : ℕ) → z < length (circuits_of l) → row_of word_count t (plus_row z) ≡ around_of (count_of l) (masks (circuit_at l z)).plus (full_of (count_of l))

abbrev pub AroundMinus : List ℤ → List ℕ → Type 0
AroundMinus l t = (z : ℕ) → z < length (circuits_of l) → row_of word_count t (minus_row z) ≡ around_of (count_of l) (masks (circuit_at l z)).minus (full_of (count_of l))

abbrev pub InnerBelow : List ℤ → ℕ → List ℕ → Type 0
InnerBelow l n t = (j : ℕ) → j < n → (i : ℕ) → i < j → row_of word_count t (inner_row i j) ≡ inner_of l i j

abbrev pub Inner : List ℤ → List ℕ → Type 0
Inner l t = InnerBelow l (count_of l) t

pub record Prepared (l : List ℤ) (held : List ℕ) : Type 0 where
  pub holding : Holding (count_of l) held
  pub over_plus : AroundPlus l held
  pub over_minus : AroundMinus l held
  pub edges : Inner l held
  pub solid : row_of word_count held solid_row ≡ solid_of l

-- ---- the table, and the circuits themselves

abbrev pub Around : ℕ → List Sides → ℕ → List ℕ → Type 0
Around n zs k t =
    (z : ℕ) → z < k
    → (row_of word_count t (plus_row z) ≡ around_of n (sides_at zs z).plus (full_of n)) × (row_of word_count t (minus_row z) ≡ around_of n (sides_at zs z).minus (full_of n))

pub record HeldOf (l : List ℤ) (h : Held) : Type 0 where
  pub circuits : h.circuits.items ≡ map masks (circuits_of l)
  pub table : Prepared l h.rows
