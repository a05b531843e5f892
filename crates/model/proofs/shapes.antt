-- Core cells, segments, merging, shapes and their numbering; heaps that are alike; unfolding.
pub mod Bound
pub mod Canon
pub mod Same
pub mod Canonical
pub mod Unfold
pub mod Iso
pub mod SameShape
pub mod Segments
pub mod OneMerge
pub mod Merge
pub mod Count
