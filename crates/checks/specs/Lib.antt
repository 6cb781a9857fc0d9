pub mod Check
pub mod Blocks
pub mod Tree
pub mod Checks
