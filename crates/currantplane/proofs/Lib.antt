pub mod Told
pub mod OneAnswer
