pub mod ListLaws
pub mod CutLaws
pub mod CutStep
pub mod RunLaws
