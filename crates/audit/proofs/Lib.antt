pub mod Public
pub mod Unique
pub mod Times
pub mod Reader
pub mod Shared
pub mod Examples
