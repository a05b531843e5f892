-- The ways out of a location and the edges that they make.
pub mod Weights
pub mod Sizes
pub mod Tests
pub mod Picks
pub mod Views
pub mod Ways
pub mod Drops
pub mod Relinks
pub mod Leave
pub mod Lands
pub mod Location
pub mod Guards
pub mod RelinkEdges
pub mod Numbers
