pub mod Grow
pub mod Fields
pub mod Lent
