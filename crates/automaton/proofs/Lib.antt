pub mod Outcomes
pub mod Ready
pub mod Listed
pub mod Answers
