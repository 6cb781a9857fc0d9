pub mod Walks
pub mod Gathering
pub mod Climbing
pub mod Parts
