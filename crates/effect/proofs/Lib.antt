pub mod Laws
pub mod ListLaws
pub mod Bytes
