pub mod ListLaws
pub mod ByteLaws
pub mod Laws
pub mod Counting
pub mod Walking
pub mod Losing
pub mod Whole
