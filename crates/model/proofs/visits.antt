-- The visit of a heap without fuel, and that it finds the reachable cells.
pub mod Walks
pub mod Order
