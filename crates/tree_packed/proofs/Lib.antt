pub mod Laws
pub mod Moves
pub mod Walks
pub mod Cases
pub mod Keeps
pub mod Theorems
pub mod Examples
pub mod Opens
