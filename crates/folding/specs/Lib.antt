pub mod Fold
pub mod Shape
