pub mod ChainSteps
pub mod CallChains
pub mod Wraps
pub mod Outline
pub mod Promises
