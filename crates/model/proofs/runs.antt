-- Runs of the routine and of the automaton side by side: demand 3; walks; ranges of counters along a path.
pub mod Single
pub mod Whole
pub mod Demand
pub mod Stands
pub mod OneMove
pub mod Along
pub mod Walks
pub mod WalkRuns
pub mod Boxes
pub mod Cuts
pub mod Sums
pub mod Sources
pub mod Follows
pub mod Anywhere
pub mod Ranged
pub mod RangedNumbers
pub mod RangeRuns
