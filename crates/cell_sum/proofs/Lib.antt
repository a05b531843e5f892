pub mod Sums
pub mod Codes
pub mod Updates
