pub mod Nearest
pub mod Once
pub mod Scaling
pub mod Places
pub mod Tests
pub mod Runs
pub mod Lines
pub mod Calls
