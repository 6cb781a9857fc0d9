pub mod Promise
pub mod Reader
pub mod Inner
