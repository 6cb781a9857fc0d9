pub mod Alike
pub mod Asked
pub mod Run
