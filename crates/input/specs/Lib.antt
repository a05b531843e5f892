pub mod Input
pub mod RecordChecks
pub mod Accepted
