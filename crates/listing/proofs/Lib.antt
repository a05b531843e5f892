pub mod Kept
pub mod Held
pub mod Places
