pub mod Nodes
pub mod Chains
pub mod Walks
pub mod Hops
pub mod Found
pub mod Blocks
