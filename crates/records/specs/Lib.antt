pub mod Sizes
pub mod Fields
pub mod Formats
pub mod Reading
pub mod Calls
pub mod Lines
