-- Triangulations as sets of simplices (source 001, Theorem 2.1; the boundary: section 3.3): triangles in the plane, tetrahedra in space.
--
--   Family               a set of sets of points
--   Face n P e s         e is a face of the simplex s: all its points but one, so an edge of a triangle, a side of a tetrahedron
--   Beside n P e s       one of the first n points is on the side s of e
--   Border n P e         a border face: no two of the first n points are on opposite sides of it; a face of a simplex is then part of a facet of them all
--   Triangulation n P T  T is a triangulation of the first n points: a set of simplices, not empty, with
--     ip                 the intersection property: no circuit has Z⁺ inside one member and Z⁻ inside one
--     up                 the union property: each face of a member is a face of another member, or a border face
--
-- The theorem as printed lets the empty set through; document 01 asks for one member. Nothing asks that every point is used.
-- Theorems: proofs/TriangulationLaws, lists/proofs/Agreement (`accepted_iff_triangulation`).
use Rattle.std.specs.Prelude.{◌≡◌, ◌⊎◌, List, ℕ, suc, ◌<◌, length}
use Rattle.algebra.specs.Sets.{On, Within}
use Rattle.algebra.specs.Sign.{Sign, minus, plus}
use Rattle.matroid.specs.Configurations.{Configuration, rank, cocircuit, Simplex}
use Rattle.matroid.specs.Circuits.{Crossing}

abbrev pub Family : Type 1
Family = List ℕ → Type 0

abbrev pub Face : ℕ → Configuration → List ℕ → List ℕ → Type 0
Face n P e s = Within 0 e n × (suc (length e) ≡ rank P) × ((i : ℕ) → On e i → On s i)

abbrev pub Beside : ℕ → Configuration → List ℕ → Sign → Type 0
Beside n P e s = (k : ℕ) × (k < n) × (cocircuit P e k ≡ s)

abbrev pub Border : ℕ → Configuration → List ℕ → Type 0
Border n P e = Beside n P e plus × Beside n P e minus → ⊥

pub record Triangulation (n : ℕ) (P : Configuration) (T : Family) : Type 0 where
  pub simplices : (s : List ℕ) → T s → Simplex n P s
  pub some : (s : List ℕ) × T s
  pub ip : (s t : List ℕ) → T s → T t → Crossing n P (On s) (On t) → ⊥
  pub up : (s : List ℕ) → T s → (e : List ℕ) → Face n P e s → Border n P e ⊎ ((t : List ℕ) × T t × (t ≡ s → ⊥) × Face n P e t)
