pub mod Firsts
pub mod Begun
pub mod Kept
pub mod Builds
pub mod Gives
pub mod Theorems
