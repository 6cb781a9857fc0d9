pub mod Way
pub mod Calls
pub mod Inner
