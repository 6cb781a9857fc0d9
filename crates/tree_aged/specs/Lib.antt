pub mod Age
pub mod Calls
pub mod Inner
