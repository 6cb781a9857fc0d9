pub mod Fault
pub mod Inner
