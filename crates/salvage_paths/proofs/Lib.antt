pub mod Theorems
pub mod Steps
