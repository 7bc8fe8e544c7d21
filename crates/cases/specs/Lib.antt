pub mod Table
pub mod Controller
