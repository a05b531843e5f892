-- The listing: exact, its places, what is reached, and the tables read back.
pub mod Listing
pub mod Exact
pub mod Places
pub mod Reached
pub mod Once
pub mod Moves
pub mod FullListing
pub mod Outcomes
pub mod Unplaced
pub mod Small
pub mod Parts
pub mod Layouts
pub mod Searches
