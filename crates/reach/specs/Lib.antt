pub mod Walks
pub mod Reach
pub mod Leaving
pub mod Walked
pub mod Lines
