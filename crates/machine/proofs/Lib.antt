pub mod Laws
pub mod RunLaws
