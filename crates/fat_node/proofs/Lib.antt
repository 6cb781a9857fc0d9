pub mod Entries
pub mod Nodes
pub mod Cases
pub mod Sizes
pub mod Faults
