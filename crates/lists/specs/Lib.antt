pub mod Tests
pub mod Lines
pub mod Calls
pub mod Held
