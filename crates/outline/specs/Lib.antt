pub mod Wrapping
pub mod Calls
pub mod Lines
