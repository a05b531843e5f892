pub mod First
pub mod Links
