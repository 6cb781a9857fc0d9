pub mod Findings
pub mod Volume
pub mod Calls
pub mod Inner
