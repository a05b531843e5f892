pub mod Along
pub mod Advancing
