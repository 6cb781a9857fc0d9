pub mod Gated
pub mod Unique
