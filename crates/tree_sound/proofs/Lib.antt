pub mod Tree
pub mod Equal
pub mod Bounds
