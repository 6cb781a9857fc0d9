pub mod Sound
pub mod Sizes
pub mod Tables
