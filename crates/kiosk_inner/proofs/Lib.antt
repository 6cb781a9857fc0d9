pub mod Dirs
pub mod Files
pub mod Chains
pub mod Names
pub mod Rules
