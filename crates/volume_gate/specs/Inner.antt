-- What the functions inside the gate say. No promise needs it.
pub mod Sizes
