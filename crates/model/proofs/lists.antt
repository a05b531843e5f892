-- Booleans, lists and numbers.
pub mod Logic
pub mod Lists
pub mod Numbers
pub mod Slices
pub mod Loops
pub mod Finding
pub mod Digits
pub mod Sorted
pub mod Highest
pub mod Chains
