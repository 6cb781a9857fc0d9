pub mod Entry
pub mod Node
pub mod Sizes
pub mod Format
pub mod Fault
pub mod Inner
