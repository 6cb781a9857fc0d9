pub mod Place
pub mod Inner
