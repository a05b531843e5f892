pub mod Sums
pub mod Least
pub mod Disjoint
