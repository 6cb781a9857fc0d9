pub mod Blocks
pub mod Promise
pub mod Calls
