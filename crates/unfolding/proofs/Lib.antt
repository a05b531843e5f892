pub mod Steps
pub mod Images
