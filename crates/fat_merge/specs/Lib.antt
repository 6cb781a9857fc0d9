pub mod Merge
pub mod Promise
pub mod Merges
pub mod Inner
