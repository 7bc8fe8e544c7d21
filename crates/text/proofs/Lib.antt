pub mod PartLaws
pub mod DecimalLaws
pub mod CountLaws
