pub mod Taken
pub mod Run
