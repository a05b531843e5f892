pub mod Way
pub mod Ready
