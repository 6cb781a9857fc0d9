pub mod Words
pub mod Turns
pub mod Counts
pub mod Masks
pub mod Ones
