pub mod Gate
pub mod Promise
pub mod Calls
pub mod Count
pub mod Runs
pub mod Inner
