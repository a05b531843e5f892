pub mod ListLaws
pub mod Bytes
pub mod Placed
pub mod Copied
