pub mod Promises
pub mod OneReturn
pub mod ReturnLaws
