pub mod Agreement
pub mod Promises
pub mod ByWords
pub mod InnerLaws
pub mod Chains
pub mod SideRows
pub mod HeldLaws
