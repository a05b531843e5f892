pub mod ListLaws
pub mod Keys
pub mod Found
