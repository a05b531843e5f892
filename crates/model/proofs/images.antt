-- Folding, unfolding and the plain step on bytes.
pub mod Images
pub mod NodeAnswers
pub mod RoundTrips
pub mod Stepping
pub mod DropBytes
pub mod OneToOne
