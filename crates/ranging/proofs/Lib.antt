pub mod Twelve
pub mod Starting
pub mod Going
pub mod Outcomes
