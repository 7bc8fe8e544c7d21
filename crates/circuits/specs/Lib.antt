pub mod Sizes
pub mod Sides
pub mod Numbering
pub mod Lines
pub mod Calls
pub mod Joined
