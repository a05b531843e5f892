pub mod Added
pub mod LocationEdges
pub mod Lent
