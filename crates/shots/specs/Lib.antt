pub mod Sizes
pub mod Coordinates
pub mod Patch
pub mod Tests
pub mod Lines
pub mod Refusals
pub mod Calls
