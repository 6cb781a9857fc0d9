pub mod Maps
pub mod Theorem
