-- What is claimed: each promise is a type, and its proof under it cites a law.
pub mod Promises
pub mod PromisesShapes
pub mod PromisesListings
pub mod PromisesRuns
pub mod PromisesTables
pub mod PromisesEdges
pub mod PromisesStatements
pub mod PromisesBench
pub mod PromisesNodes
pub mod PromisesDrops
pub mod PromisesWalks
pub mod PromisesRanges
pub mod PromisesSearch
pub mod Shelf
