pub mod WalkLaws
pub mod LineLaws
pub mod ReadLaws
pub mod Promises
pub mod Square
