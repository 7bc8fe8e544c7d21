-- A flip of a triangulation is a triangulation.
--
--   star_triangulates    in any dimension, where the star that the flip takes out is complete, and the faces of new members that leave out a point of the link are shut
--   side_triangulates    in the plane: the flip of a side
--
-- Main theorem: `flip_triangulates`, of either kind of circuit of distinct points of the plane, whichever side is supported, also where not every point is used.
use mathlib.Core.Path.{refl}
use mathlib.Core.Logic.{inl, inr}
use Prim.Native.Nat.{ℕ}
use Rattle.algebra.specs.Sets.{On}
use Rattle.algebra.specs.Sign.{Side, Sign, opposite}
use Rattle.algebra.proofs.SignLaws.{other-side}
use Rattle.matroid.specs.Configurations.{Configuration, Simplex}
use Rattle.matroid.specs.Points.{Points, plane, Distinct}
use Rattle.matroid.specs.Circuits.{SignVector, Circuit}
use Rattle.matroid.specs.Triangulations.{Family, Triangulation}
use Rattle.matroid.specs.Flips.{Flip, Flipped}
use Rattle.matroid.proofs.Crossing.{crossing_iff_separated}
use Rattle.matroid.proofs.TriangulationLaws.{triangulation_spans}
use Rattle.matroid.proofs.FlipLaws.{some-side}
use Rattle.matroid.proofs.FlipSets.{Complete, new_simplex, each_after}
use Rattle.matroid.proofs.FlipCrossing.{flip_apart}
use Rattle.matroid.proofs.FlipFaces.{LinkShut, comes, flip_shut}
use Rattle.matroid.proofs.FlipStars.{star_complete}
use Rattle.matroid.proofs.FlipEdges.{link_shut}

pub star_triangulates : {n : ℕ} {P : Configuration} {T T' : Family} {X : SignVector} {s : Sign} → Triangulation n P T → Circuit n P X → Side s → Flip n T X s T'
    → Complete n T X s → LinkShut n P T X s T' → Triangulation n P T'
star_triangulates {n} {P} {T} {T'} {X} {s} g z d f full link = record {
  simplices = each_after g z d f (Simplex n P) (λ t m _. g.simplices t m) (new_simplex g z d f.supported);
  some = let (p, c, k, l) = f.supported.some in let (w, wl, ws) = some-side z (opposite s) (other-side s d) in (_, comes g z d f (record { lacks = w; low = wl; side = ws; link = c; linked = (p, k, l) }));
  ip = λ t u m k c. flip_apart g z d f full t u m k ((crossing_iff_separated n P (triangulation_spans g) (On t) (On u)).0 c);
  up = flip_shut g z d f full link;
}

pub side_triangulates : {n : ℕ} {P : Points} {T T' : Family} {X : SignVector} {s : Sign} → Distinct n P → Triangulation n (plane P) T → Circuit n (plane P) X → Side s → Flip n T X s T' → Triangulation n (plane P) T'
side_triangulates ds g z d f = star_triangulates g z d f (star_complete ds g z d f.supported) (link_shut ds g z d f)

pub flip_triangulates : {n : ℕ} {P : Points} {T T' : Family} {X : SignVector} → Distinct n P → Triangulation n (plane P) T → Circuit n (plane P) X → Flipped n T X T' → Triangulation n (plane P) T'
flip_triangulates ds g z (inl f) = side_triangulates ds g z (inl refl) f
flip_triangulates ds g z (inr f) = side_triangulates ds g z (inr refl) f
