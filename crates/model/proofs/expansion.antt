-- One heap as the expansion of another, and what the machine does to both.
pub mod Expand
pub mod Cores
pub mod Folds
pub mod Cuts
pub mod Start
pub mod Writes
pub mod Facts
pub mod Reach
pub mod Collect
pub mod Changes
pub mod Effects
pub mod Kinds
pub mod Step
pub mod Splits
pub mod Unheld
