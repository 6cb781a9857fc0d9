pub mod Volume
pub mod Inner
