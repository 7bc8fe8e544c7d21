pub mod Calls
pub mod Index
pub mod Going
pub mod Lines
pub mod Surfaces
pub mod Reached
pub mod Demand
