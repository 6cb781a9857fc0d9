pub mod Plan
pub mod Promise
pub mod Inner
