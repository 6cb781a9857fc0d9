pub mod Apply
pub mod Applies
pub mod Inner
