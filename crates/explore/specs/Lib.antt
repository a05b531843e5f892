pub mod Explore
pub mod Lent
