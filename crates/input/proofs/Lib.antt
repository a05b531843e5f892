pub mod Records
pub mod Shapes
pub mod Outcomes
pub mod Opened
pub mod Facts
