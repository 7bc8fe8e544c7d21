pub mod Nearness
pub mod Sums
pub mod Finiteness
pub mod Rounded
pub mod TurnLaws
pub mod CallChains
pub mod PlaceLaws
pub mod Promises
