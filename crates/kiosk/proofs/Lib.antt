pub mod Public
pub mod Unique
pub mod Reader
pub mod Again
