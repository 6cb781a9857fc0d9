pub mod Counted
pub mod Goings
pub mod Loops
pub mod Outs
pub mod Theorems
pub mod Alone
