pub mod Packed
pub mod Put
pub mod Run
pub mod Opens
