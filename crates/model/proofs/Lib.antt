-- The laws about the definitions, in folders by subject, each below those that it cites. The last states what is
-- claimed.
pub mod lists
pub mod visits
pub mod expansion
pub mod shapes
pub mod records
pub mod ways
pub mod listings
pub mod images
pub mod runs
pub mod promises
