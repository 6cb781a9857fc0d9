pub mod Shared
pub mod Trust
pub mod Calls
pub mod Inner
