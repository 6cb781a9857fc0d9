pub mod Tables
pub mod Puts
pub mod Parts
pub mod Carving
pub mod Placing
pub mod Applied
