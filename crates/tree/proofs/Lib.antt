pub mod Gated
pub mod NameOnce
