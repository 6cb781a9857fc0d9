pub mod Over
pub mod Joins
pub mod Few
pub mod Cases
pub mod Steps
