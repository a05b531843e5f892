pub mod Located
pub mod Exploration
