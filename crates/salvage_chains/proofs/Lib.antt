pub mod Loops
pub mod Outs
pub mod Theorems
