pub mod Sizes
pub mod Report
pub mod FirstLines
