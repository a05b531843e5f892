pub mod ByteLaws
pub mod Fine
