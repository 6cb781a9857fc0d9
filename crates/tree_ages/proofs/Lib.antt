pub mod Heights
pub mod Ages
pub mod Steps
pub mod Theorems
pub mod Honest
