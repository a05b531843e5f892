pub mod Through
pub mod Opened
pub mod Ready
pub mod Heaps
