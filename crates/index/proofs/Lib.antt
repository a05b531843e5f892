pub mod Chains
pub mod Entered
