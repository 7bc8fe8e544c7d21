-- Point configurations of any dimension, their chirotope and their simplices (source 001, sections 2, 3 and 3.1).
-- Points go by their numbers, and those below some n count; a set of points is the increasing list of their numbers.
--
--   Configuration       the dimension, and the coordinates of each point, as many as the dimension
--   rank P              one more than the dimension
--   row P i             the point i as a row of a matrix: 1, then its coordinates
--   volume P s          the determinant of the points s, as many as the rank: of three points in the plane the signed double area
--   chirotope P s       its sign
--   Flat P s            it is 0: three points on a line, four in a plane
--   cocircuit P e k     the sign of the point k in the cocircuit that e defines, one point less than the rank: on which side of e it lies
--   Simplex n P s       s are as many of the first n points as the rank, and not flat: a triangle, a tetrahedron
--   Spans n P           the first n points are full-dimensional: some of them are a simplex
--
-- Main theorems: proofs/Axes (the unit points of the axes have volume 1), proofs/Bases (a simplex carries no dependency), proofs/Lines (`spans_iff_bent`: points span the plane
-- exactly when no line holds them).
use Rattle.std.specs.Prelude.{◌≡◌, List, [], ◌∷◌, ◌++◌, ℕ, zero, suc, length, ℤ, pos}
use Rattle.algebra.specs.Sets.{Within}
use Rattle.algebra.specs.Sign.{Sign, nought, sign_of}
use Rattle.matroid.specs.Determinants.{det, columns}

pub record Configuration : Type 0 where
  pub dimension : ℕ
  pub at : ℕ → ℕ → ℤ

abbrev pub rank : Configuration → ℕ
rank P = suc P.dimension

abbrev pub row : Configuration → ℕ → ℕ → ℤ
row P i zero = pos 1
row P i (suc c) = P.at i c

abbrev pub volume : Configuration → List ℕ → ℤ
volume P s = det (row P) s (columns (rank P))

abbrev pub chirotope : Configuration → List ℕ → Sign
chirotope P s = sign_of (volume P s)

abbrev pub Flat : Configuration → List ℕ → Type 0
Flat P s = chirotope P s ≡ nought

abbrev pub cocircuit : Configuration → List ℕ → ℕ → Sign
cocircuit P e k = chirotope P (e ++ k ∷ [])

pub record Simplex (n : ℕ) (P : Configuration) (s : List ℕ) : Type 0 where
  pub within : Within 0 s n
  pub size : length s ≡ rank P
  pub full : Flat P s → ⊥

abbrev pub Spans : ℕ → Configuration → Type 0
Spans n P = (s : List ℕ) × Simplex n P s
