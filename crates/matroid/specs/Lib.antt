-- The published definitions, in any dimension, to be read beside source 001:
--
--   section 2, a full-dimensional configuration, its simplices    Configurations: Configuration, Simplex, Spans
--   Theorem 2.1, circuits (Z⁺, Z⁻)                                Dependencies, Circuits
--   Theorem 2.1, IP and UP                                        Circuits: Crossing; Triangulations
--   section 3, rank and dimension                                 Configurations: rank
--   section 3.1, the chirotope                                    Determinants, Configurations: volume, chirotope
--   section 3.3, the cocircuit of a facet, the boundary           Configurations: cocircuit; Triangulations: Border
--   section 3.4, T⁺(Z) and T⁻(Z), links, flips                    Flips
--   document 01, shots in the plane                               Points: plane
--   document 02, E1, sides                                        Borders: Side
--   document 02, E5, the outline                                  Chains: Chain, Corner
--
-- Coordinates and weights are whole numbers, the paper's are real. For points with whole coordinates the two say the same: the dependencies on a set of points are the solutions of linear
-- equations with whole coefficients, so where there is a real one other than 0 there is one in fractions, and a multiple of it in whole numbers, inside the same set. On a smallest dependent set
-- all solutions are multiples of one, so its signs are those of a whole solution or their opposites. That is an argument, not a theorem of this room: the reals are not in it.
pub mod Determinants
pub mod Configurations
pub mod Points
pub mod Dependencies
pub mod Circuits
pub mod Triangulations
pub mod Borders
pub mod Chains
pub mod Flips
