pub mod Cases
pub mod Change
pub mod Unique
