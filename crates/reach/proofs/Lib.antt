pub mod ReachLaws
pub mod StepLaws
pub mod RunLaws
pub mod TableLaws
pub mod SpareLaws
pub mod LineLaws
pub mod Runs
pub mod Theorem
