pub mod Chains
pub mod Calls
pub mod Inner
