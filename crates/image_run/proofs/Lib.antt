pub mod Kept
pub mod TakenLaws
pub mod RunLaws
