pub mod Gate
pub mod Promise
pub mod Inner
