pub mod Balance
pub mod Difference
