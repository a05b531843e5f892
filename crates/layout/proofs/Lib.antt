pub mod Tests
pub mod Reasons
