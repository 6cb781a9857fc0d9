pub mod Climbs
pub mod Outs
pub mod Theorems
