pub mod Chains
pub mod IndexLaws
pub mod StepsLaws
pub mod Promises
pub mod Theorem
