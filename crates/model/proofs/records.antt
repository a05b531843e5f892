-- Records written and read back; the checks of records and of the input.
pub mod Ops
pub mod Checks
pub mod NodeChecks
pub mod ToldNodes
pub mod Bytes
pub mod EdgeBack
pub mod ReadBack
pub mod ShapeBack
pub mod Falls
pub mod Keeps
pub mod LayoutFacts
pub mod Statements
pub mod Checked
pub mod Refusals
