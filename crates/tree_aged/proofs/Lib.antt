pub mod Circles
pub mod Walks
pub mod Opens
pub mod Lowers
pub mod Public
pub mod Theorems
