pub mod FoldLaws
pub mod UnfoldLaws
