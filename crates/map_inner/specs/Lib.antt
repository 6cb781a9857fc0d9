pub mod Map
pub mod Sounds
pub mod Inner
