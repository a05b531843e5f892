pub mod Finding
pub mod NodeLaws
