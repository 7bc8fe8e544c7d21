pub mod Answer
pub mod Loops
pub mod Places
pub mod Sets
pub mod Sign
pub mod Sum
pub mod Words
pub mod Writing
