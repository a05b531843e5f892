pub mod Worded
pub mod Leaving
