pub mod Refold
pub mod Worded
