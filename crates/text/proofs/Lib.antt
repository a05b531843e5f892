pub mod Decimal
pub mod Outcome
