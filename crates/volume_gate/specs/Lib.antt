pub mod Gate
pub mod Inner
