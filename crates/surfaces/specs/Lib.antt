pub mod Flips
pub mod Placing
pub mod Areas
pub mod Lines
pub mod Calls
pub mod Stars
pub mod NearFact
