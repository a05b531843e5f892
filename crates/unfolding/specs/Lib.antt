pub mod Ready
pub mod Bytes
