pub mod RankLaws
pub mod PieceLaws
pub mod FaceLaws
pub mod SetLaws
pub mod SiftLaws
pub mod RowLaws
