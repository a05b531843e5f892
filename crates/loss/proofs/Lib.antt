pub mod Ops
pub mod Leaking
pub mod Once
