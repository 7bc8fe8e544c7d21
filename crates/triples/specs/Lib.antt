pub mod Sizes
pub mod Ranks
pub mod Pieces
pub mod Sets
