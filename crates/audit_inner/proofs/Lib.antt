pub mod Chains
pub mod Writing
pub mod Judging
pub mod Marking
pub mod Sweeping
pub mod Counted
